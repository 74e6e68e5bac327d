-- The bytes of ASCII are its characters.
use Rattle.std.proofs.Common.{refl, sym, [], ◌∷◌, ◌∙◌}
use Rattle.litrs_prefix.proofs.MayChange.{char_test}
use Rattle.litrs_lexer.proofs.may_change.is_raw_lifetime_front.Goals as goal

pub returns : goal.returns
returns c = c.eq.ensures ∙ sym (char_test (39 ∷ 114 ∷ 35 ∷ []) c.args.text.now refl c.utf8.text)
