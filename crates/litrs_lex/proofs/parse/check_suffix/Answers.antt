-- The empty text is a suffix.
use Rattle.std.proofs.Common.{sym, ap, ◌∙◌}
use Rattle.std.specs.Str.{chars}
use Rattle.std.proofs.lemmas.Str.{chars-nil}
use Rattle.litrs_grammar.specs.Suffix.{is_suffix}
use Rattle.litrs_lex.proofs.SuffixBytes.{is_suffix-nil}
use Rattle.litrs_lex.proofs.parse.check_suffix.Goals as goal

pub returns-in-empty-clause-ok : goal.returns-in-empty-clause-ok
returns-in-empty-clause-ok c =
    sym (ap (λ t. is_suffix (chars t)) c.in-empty.is ∙ (ap is_suffix chars-nil ∙ is_suffix-nil))
