-- The first character and the others decide whether a text is a suffix.
use Rattle.std.proofs.Common.{sym, ap, ◌∙◌, arith}
use Rattle.std.proofs.lemmas.Bool.Decides.{nat_tests}
use Rattle.litrs_grammar.specs.Suffix.{is_suffix}
use Rattle.litrs_base.proofs.Chars.{chars_empty}
use Rattle.litrs_lex.proofs.SuffixBytes.{is_suffix-nil, is_suffix-cons}
use Rattle.litrs_lex.proofs.parse.is_suffix.Goals as goal

pub returns-in_default : goal.returns-in_default
returns-in_default c = sym (ap is_suffix c.in_default.ensures.empty ∙ is_suffix-nil)

pub returns-then-continues_identifier : goal.returns-then-continues_identifier
returns-then-continues_identifier c =
    let e = is_suffix-cons _ _ _ c.in-Some.ensures.parts in
    let f = chars_empty c.in-Some.rest.now c.in-Some.ensures.rest in
    grind (arith, nat_tests)

pub returns-else-continues_identifier : goal.returns-else-continues_identifier
returns-else-continues_identifier c =
    let e = is_suffix-cons _ _ _ c.in-Some.ensures.parts in
    grind (arith, nat_tests)
