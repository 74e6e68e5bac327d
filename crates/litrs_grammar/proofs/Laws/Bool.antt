-- The two texts of bools: they differ, and are their own characters.
use Rattle.std.proofs.Common.{◌≡◌, ℕ, List, refl, sym, ap, ◌∙◌, Bool, true, false}
use Rattle.std.specs.Str.{chars, IsUtf8, encode_utf8_all}
use Rattle.std.proofs.lemmas.Str.{encodes-chars, encodes-IsAscii}
use Rattle.litrs_base.proofs.Chars.{ascii_by_test}
use Rattle.litrs_grammar.specs.Bool.{IsBool, bool_text}
use Rattle.litrs_base.specs.Derivations.{IsOnlyDerivation}

pub same_bool : (b c : Bool) → bool_text b ≡ bool_text c → b ≡ c
same_bool false false e = refl
same_bool false true e = cc
same_bool true false e = cc
same_bool true true e = refl

-- a bool is the only one of its text
pub only_bool : (t : List ℕ) (b : Bool) → bool_text b ≡ t → IsOnlyDerivation (IsBool t) b
only_bool t b is = (is, λ c other. same_bool c b (other ∙ sym is))

pub chars-bool_text : (b : Bool) → chars (bool_text b) ≡ bool_text b
unfolding chars
chars-bool_text false = refl
chars-bool_text true = refl

pub encodes-bool_text : (b : Bool) → encode_utf8_all (bool_text b) ≡ bool_text b
encodes-bool_text false = encodes-IsAscii (bool_text false) (ascii_by_test (bool_text false) refl)
encodes-bool_text true = encodes-IsAscii (bool_text true) (ascii_by_test (bool_text true) refl)

-- a text whose characters are those of a bool is its text
pub bool_text_from_chars : (b : Bool) (s : List ℕ) → IsUtf8 s → bool_text b ≡ chars s → s ≡ bool_text b
bool_text_from_chars b s u e = sym (encodes-chars s u) ∙ (ap encode_utf8_all (sym e) ∙ encodes-bool_text b)

-- a text that is neither of the two is not a bool
pub no_bool : (s : List ℕ) → IsUtf8 s → (s ≡ bool_text false → ⊥) → (s ≡ bool_text true → ⊥) → (b : Bool) → bool_text b ≡ chars s → ⊥
no_bool s u not_false not_true false e = not_false (bool_text_from_chars false s u e)
no_bool s u not_false not_true true e = not_true (bool_text_from_chars true s u e)
