-- The bytes of a character that is not NUL.
use Rattle.std.proofs.Common.{◌≡◌, ℕ, false, [], refl, sym, ap, ◌∙◌, arith}
use Rattle.std.specs.Char.{encode_utf8}
use Rattle.std.specs.List.{list_any}
use Rattle.std.proofs.lemmas.Bool.{true≢false, ne_eqb}
use Rattle.std.proofs.lemmas.List.{append-nil}
use Rattle.std.proofs.lemmas.List.Recursion.{or_from_places}
use Rattle.std.proofs.lemmas.Str.{inside_one}
use Rattle.litrs_grammar.specs.Raw.{is_nul}

pub encode_no_nul : (c : ℕ) → is_nul c ≡ false → list_any is_nul (encode_utf8 c) ≡ false
encode_no_nul c h = or_from_places (list_any is_nul) is_nul refl (λ _ _. refl) (encode_utf8 c) 0
    (λ i inside. ne_eqb _ 0 (λ zero_byte.
    true≢false (sym (ap is_nul (inside_one c [] (encode_utf8 c) i (sym (append-nil (encode_utf8 c))) inside (omega arith) ∙ zero_byte)) ∙ h)))
