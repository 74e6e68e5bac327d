-- Raw C strings: the value is the UTF-8 of the body, and has no NUL.
use Rattle.std.proofs.Common.{◌≡◌, ℕ, Bool, true, false, not, ◌&&◌, cond, List, [], ◌∷◌, refl, ap, ◌∙◌}
use Rattle.std.specs.Prelude.{Option, Some, None, position}
use Rattle.std.specs.Char.{encode_utf8}
use Rattle.std.specs.Str.{chars, is_utf8, IsUtf8}
use Rattle.std.proofs.lemmas.Bool.{and_parts}
use Rattle.std.proofs.lemmas.Str.{encodes-chars, is_utf8-from_IsUtf8, IsUtf8-from_is_utf8}
use Rattle.litrs_base.specs.declared.quotes.StringKind.TheVariants.{CString as c_string_kind}
use Rattle.litrs_grammar.specs.Suffix.{is_suffix}
use Rattle.litrs_grammar.specs.Raw.{is_nul}
use Rattle.litrs_grammar.specs.Literal.{IsString, string_value}
use Rattle.litrs_build.specs.declared.error.BuildError.{BuildError}
use Rattle.litrs_build.specs.declared.error.BuildError.TheVariants.{NotASuffix, NotRaw}
use Rattle.litrs_build.specs.CStrings.{c_string_error}
use Rattle.litrs_build.specs.Errors.{IsErrorOf}
use Rattle.litrs_build.specs.Raw.{hashes_needed, is_raw_value, is_raw_c_value, or_not_raw, raw_c_error, raw_error, written_raw}
use Rattle.litrs_build.proofs.CTexts.{possible_by}
use Rattle.litrs_build.proofs.RawTexts.{raw_bytes, raw_derives}

-- The error

same_by : (s : Bool) (o : Option BuildError) (u r : Bool) → s ≡ true → o ≡ None → u ≡ true →
    cond (not s) (Some NotASuffix) (cond r None (Some NotRaw)) ≡ or_not_raw o (u && r)
same_by s o u r a b c = rw (a, b, c) refl

-- if a C string has the bytes, the body has the error of the bytes
pub raw_c_same : (body bytes suffix : List ℕ) → body ≡ bytes → IsUtf8 bytes →
    c_string_error bytes suffix ≡ None →
    raw_error true false (chars body) suffix ≡ raw_c_error bytes suffix
raw_c_same body bytes suffix same u none =
    let both = possible_by (is_suffix suffix) (position is_nul bytes) none in
    ap (λ (t : List ℕ). raw_error true false (chars t) suffix) same
    ∙ same_by (is_suffix suffix) (c_string_error bytes suffix) (is_utf8 bytes)
    (is_raw_value true false (chars bytes)) both.0 none (is_utf8-from_IsUtf8 bytes u)

not_utf8 : (bytes : List ℕ) (u : Bool) → is_utf8 bytes ≡ u → (IsUtf8 bytes → ⊥) → u ≡ false
not_utf8 bytes true e none = absurd (none (IsUtf8-from_is_utf8 bytes e))
not_utf8 bytes false e none = refl

not_raw_by : (o : Option BuildError) (u r : Bool) → o ≡ None → u ≡ false →
    IsErrorOf (or_not_raw o (u && r)) NotRaw
not_raw_by o u r a b = rw (a, b) refl

-- bytes that are not UTF-8 are not a raw value
pub not_raw_c : (bytes suffix : List ℕ) → (IsUtf8 bytes → ⊥) → c_string_error bytes suffix ≡ None →
    IsErrorOf (raw_c_error bytes suffix) NotRaw
not_raw_c bytes suffix none possible =
    not_raw_by (c_string_error bytes suffix) (is_utf8 bytes) (is_raw_value true false (chars bytes))
    possible (not_utf8 bytes (is_utf8 bytes) refl none)

-- If no error is expected

both_by : (o : Option BuildError) (r : Bool) → or_not_raw o r ≡ None → (o ≡ None) × (r ≡ true)
both_by (Some e) r h = absurd cc
both_by None true h = (refl, refl)
both_by None false h = absurd cc

record IsPossible (bytes suffix : List ℕ) : Type 0 where
  utf8 : IsUtf8 bytes
  raw : raw_error true false (chars bytes) suffix ≡ None

raw_c_possible : (bytes suffix : List ℕ) → raw_c_error bytes suffix ≡ None →
    IsPossible bytes suffix
raw_c_possible bytes suffix possible =
    let both = both_by (c_string_error bytes suffix) (is_raw_c_value bytes) possible in
    let parts = and_parts (is_utf8 bytes) (is_raw_value true false (chars bytes)) both.1 in
    let u = IsUtf8-from_is_utf8 bytes parts.0 in
    record { utf8 = u; raw = raw_c_same bytes bytes suffix refl u both.0 ∙ possible }

-- The literal

pub raw_c_string_derives : (value suffix bytes : List ℕ) → IsUtf8 suffix →
    raw_c_error value (chars suffix) ≡ None →
    bytes ≡ raw_bytes (99 ∷ 114 ∷ []) (hashes_needed (chars value)) value suffix →
    IsString c_string_kind (chars bytes) (written_raw (chars value) (chars suffix))
unfolding encode_utf8
raw_c_string_derives value suffix bytes u possible is =
    let p = raw_c_possible value (chars suffix) possible in
    raw_derives c_string_kind value suffix bytes refl refl p.utf8 u p.raw is

pub raw_c-value : (value suffix : List ℕ) → raw_c_error value suffix ≡ None →
    string_value (written_raw (chars value) suffix) ≡ value
raw_c-value value suffix possible = encodes-chars value (raw_c_possible value suffix possible).utf8
