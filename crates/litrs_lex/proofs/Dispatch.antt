-- The dispatch over the kinds is that of the bytes of the text.
use Rattle.std.proofs.Common.{◌≡◌, ℕ, suc, length, List, [], ◌∷◌, refl, ap, ◌∙◌, arith}
use Rattle.std.specs.Prelude.{codes}
use Rattle.std.specs.Str.{chars, IsUtf8}
use Rattle.std.proofs.lemmas.Str.{chars-nil}
use Rattle.std.proofs.lemmas.Bool.{ne_eqb}
use Rattle.litrs_base.specs.Text.{is_empty}
use Rattle.litrs_base.proofs.Chars.{chars_empty, begins_with-chars, is_text-chars}
use Rattle.litrs_grammar.specs.Bool.{is_bool}
use Rattle.litrs_grammar.specs.LiteralRefusals.{dispatch}
use Rattle.litrs_lex.proofs.IntegerBytes.{digit-chars}
use Rattle.litrs_lex.proofs.NumberBytes.{begins_with_float-chars}

pub is_empty-chars : (bs : List ℕ) → IsUtf8 bs → is_empty (chars bs) ≡ is_empty bs
is_empty-chars [] u = ap is_empty chars-nil
is_empty-chars (b ∷ bs) u = chars_empty (b ∷ bs) u ∙ ne_eqb (suc (length bs)) 0 (λ h. omega arith)

pub is_bool-chars : (bs : List ℕ) → IsUtf8 bs → is_bool (chars bs) ≡ is_bool bs
is_bool-chars bs u = rw (is_text-chars (codes "true") bs refl u, is_text-chars (codes "false") bs refl u) refl

pub dispatch-chars : (bs : List ℕ) → IsUtf8 bs → dispatch (chars bs) ≡ dispatch bs
unfolding dispatch
dispatch-chars bs u = rw (
  is_empty-chars bs u,
  is_bool-chars bs u,
  digit-chars bs u,
  begins_with_float-chars bs u,
  begins_with-chars (codes "'") bs refl u,
  begins_with-chars (codes "\"") bs refl u,
  begins_with-chars (codes "r") bs refl u,
  begins_with-chars (codes "b'") bs refl u,
  begins_with-chars (codes "b\"") bs refl u,
  begins_with-chars (codes "br") bs refl u,
  begins_with-chars (codes "c") bs refl u,
) refl
