-- Texts that are read: a literal, with or without a minus sign before it.
use Rattle.std.specs.Prelude.{◌≡◌, ◌⊎◌, ℕ, ◌-◌, IsTrue, Bool, true, false, ◌==◌, List, [], drop, codes, if◌then◌else◌, slice_index}
use Rattle.std.specs.Str.{chars}
use Rattle.std.specs.declared.ops.Range.{Range}
use Rattle.litrs.specs.Allocation.{allocates, takes_memory}
use Rattle.litrs.specs.Characters.{minus}
use Rattle.litrs.specs.Literal.{Derivation, IsLiteral, literal_parse}
use Rattle.litrs.specs.Refusal.{refusal_of, char_span_of, shifted, shifted_span, marked_span}
use Rattle.litrs.specs.Refused.{IsRefused}
use Rattle.litrs.specs.Text.{byte_len}
use Rattle.litrs.specs.declared.ParseError.{ParseError}
use Rattle.litrs_value.specs.Refuses.{Refuses}
use Rattle.litrs_value.specs.declared.value_type.ValueType.{ValueType}
use Rattle.litrs_value.specs.declared.error.ValueError.{ValueError}
use Rattle.litrs_value.specs.declared.error.ValueError.TheVariants.{Malformed, Suffix, Memory}

-- The text starts with a minus sign.
abbrev pub is_negative : List ℕ → Bool
is_negative text = slice_index text 0 == minus

-- The length of the sign, in bytes.
abbrev pub sign_len : List ℕ → ℕ
sign_len text = if is_negative text then 1 else 0

-- The text of a sign.
abbrev pub sign_text : (negative : Bool) → List ℕ
sign_text true = codes "-"
sign_text false = []

-- The rest of the text after its sign.
abbrev pub unsigned : List ℕ → List ℕ
unsigned text = drop (sign_len text) text

-- The rest of the text after its sign is this literal.
abbrev pub IsReadAs : List ℕ → Derivation → Type 0
IsReadAs text d = IsLiteral (chars (unsigned text)) d

-- The text after a sign is not a literal, and both spans of the error count from the sign. Or it is
-- one whose value is allocated and takes memory.
abbrev pub IsRefusedAfter : (negative : Bool) → List ℕ → ValueError → Type 0
IsRefusedAfter negative t (Malformed e) = (r : ParseError) × IsRefused literal_parse t r
    × (refusal_of e ≡ shifted (if negative then 1 else 0) (refusal_of r))
    × (char_span_of e ≡ shifted_span (if negative then 1 else 0) (char_span_of r))
IsRefusedAfter negative t Memory =
    (d : Derivation) × IsLiteral t d × IsTrue (allocates d) × IsTrue (takes_memory d)
IsRefusedAfter negative t e = ⊥

-- The error of a text without a value of the type. The text after the sign is not a literal, and
-- spans count from the start of the text. Or the type has no value for the literal, or an
-- allocation failed.
abbrev pub IsValueError : ValueType → List ℕ → ValueError → Type 0
IsValueError type text (Malformed e) =
    IsRefusedAfter (is_negative text) (chars (unsigned text)) (Malformed e)
IsValueError type text Memory = (d : Derivation) × IsReadAs text d
    × ((IsTrue (allocates d) × IsTrue (takes_memory d))
    ⊎ Refuses type (is_negative text) d Memory)
IsValueError type text e = (d : Derivation) × IsReadAs text d × Refuses type (is_negative text) d e

-- The part of the text that an error marks.
abbrev pub marked : List ℕ → ValueError → Range ℕ
marked t (Malformed e) = marked_span t e
marked t (Suffix type len) = record { start = byte_len t - len; end = byte_len t }
marked t e = record { start = 0; end = byte_len t }
