-- Numbers, and characters that do not begin a token.
use Rattle.std.proofs.Common.{sym, ap, ◌∙◌}
use Rattle.std.specs.Str.{chars}
use Rattle.std.proofs.lemmas.Bool.{ne_eqb}
use Rattle.litrs_lexer.specs.Literal.{opens_quoted}
use Rattle.litrs_lexer.proofs.Cuts.{unknown, digit_opens}
use Rattle.litrs_lexer.proofs.cut.cut_other.Goals as goal

pub cut_rare-kind-requires-clause-unknown : goal.cut_rare-kind-requires-clause-unknown
cut_rare-kind-requires-clause-unknown c = λ none.
    unknown c.args.c c.requires.white none (sym c.is_ascii_digit.ensures.value ∙ c.if-is_ascii_digit.false) (ne_eqb c.args.c 34 c.if-c-eq34.false) (ne_eqb c.args.c 39 c.if-c-eq39.false) c.requires.punctuation

pub cut_literal-kind-requires : goal.cut_literal-kind-requires
cut_literal-kind-requires c =
    ap opens_quoted c.requires.first.is ∙ digit_opens c.args.c (chars c.args.after.now) (sym c.is_ascii_digit.ensures.value ∙ c.if-is_ascii_digit.true)
