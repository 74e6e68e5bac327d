-- Raw byte strings: if all bytes are ASCII they are their own characters.
use Rattle.std.proofs.Common.{◌≡◌, ℕ, Bool, true, false, not, ◌&&◌, cond, eqb, List, [], ◌∷◌, refl, sym, ap, subst, ◌∙◌, arith}
use Rattle.std.specs.Prelude.{Some, None, nat_le}
use Rattle.std.specs.Char.{encode_utf8}
use Rattle.std.specs.List.{list_all}
use Rattle.std.specs.Str.{chars, IsUtf8}
use Rattle.std.proofs.lemmas.Bool.{and_from, and_parts, ltb-true, true≢false, false_from_ne_true}
use Rattle.std.proofs.lemmas.Str.{encodes-chars, chars-encodes}
use lib.Utf8.{scalars, low_scalar}
use Rattle.litrs_base.specs.Characters.{is_ascii, fits_charset, nul_is_allowed}
use Rattle.litrs_base.specs.declared.quotes.StringKind.TheVariants.{ByteString as byte_string_kind}
use Rattle.litrs_grammar.specs.Suffix.{is_suffix}
use Rattle.litrs_grammar.specs.Raw.{is_raw_char}
use Rattle.litrs_grammar.specs.Literal.{IsString, string_value}
use Rattle.litrs_build.specs.declared.error.BuildError.{BuildError}
use Rattle.litrs_build.specs.declared.error.BuildError.TheVariants.{NotASuffix, NotRaw}
use Rattle.litrs_build.specs.Errors.{IsErrorOf}
use Rattle.litrs_build.specs.Raw.{hashes_needed, is_raw_value, raw_error, written_raw}
use Rattle.litrs_build.proofs.Hashes.{same_tests}
use Rattle.litrs_build.proofs.Spellings.{encodes_ascii}
use Rattle.litrs_build.proofs.RawTexts.{raw_bytes, raw_derives, possible_by}

-- the characters of a raw byte string are ASCII
pub raw_is_ascii : (bs : List ℕ) → list_all (is_raw_char false true) bs ≡ true →
    list_all is_ascii bs ≡ true
raw_is_ascii [] all = refl
raw_is_ascii (c ∷ bs) all =
    let both = and_parts (is_raw_char false true c) (list_all (is_raw_char false true) bs) all in
    let rest = and_parts (not (eqb c 13)) (fits_charset false c && nul_is_allowed true c) both.0 in
    and_from _ _ (and_parts (is_ascii c) (nul_is_allowed true c) rest.1).0 (raw_is_ascii bs both.1)

ascii_scalars : (bs : List ℕ) → list_all is_ascii bs ≡ true → scalars bs ≡ true
ascii_scalars [] all = refl
ascii_scalars (c ∷ bs) all =
    let both = and_parts (is_ascii c) (list_all is_ascii bs) all in
    let low = ltb-true c 128 both.0 in
    and_from _ _ (low_scalar c (omega arith)) (ascii_scalars bs both.1)

ascii_utf8 : (bs : List ℕ) → list_all is_ascii bs ≡ true → IsUtf8 bs
ascii_utf8 bs all = (bs, (ascii_scalars bs all, encodes_ascii bs all))

ascii_chars : (bs : List ℕ) → list_all is_ascii bs ≡ true → chars bs ≡ bs
ascii_chars bs all = ap chars (sym (encodes_ascii bs all)) ∙ chars-encodes bs (ascii_scalars bs all)

value_ascii : (bs : List ℕ) → is_raw_value false true bs ≡ true → list_all is_ascii bs ≡ true
value_ascii bs raw =
    raw_is_ascii bs (and_parts (list_all (is_raw_char false true) bs)
    (nat_le (hashes_needed bs) 255) raw).0

values_same : (bs : List ℕ) → IsUtf8 bs →
    is_raw_value false true (chars bs) ≡ is_raw_value false true bs
values_same bs u =
    same_tests (is_raw_value false true (chars bs)) (is_raw_value false true bs)
    (λ raw. ap (is_raw_value false true) (sym (encodes-chars bs u)
    ∙ encodes_ascii (chars bs) (value_ascii (chars bs) raw)) ∙ raw)
    (λ raw. ap (is_raw_value false true) (ascii_chars bs (value_ascii bs raw)) ∙ raw)

-- the characters of a body have the error of its bytes
pub raw_same : (body bs suffix : List ℕ) → body ≡ bs → IsUtf8 bs →
    raw_error false true (chars body) suffix ≡ raw_error false true bs suffix
raw_same body bs suffix same u =
    ap (λ (t : List ℕ). raw_error false true (chars t) suffix) same
    ∙ ap (λ (r : Bool). cond (not (is_suffix suffix)) (Some NotASuffix) (cond r None (Some NotRaw)))
    (values_same bs u)

not_raw_by : (s r : Bool) (e : BuildError) → r ≡ false → (s ≡ true → e ≡ NotRaw) →
    (s ≡ false → e ≡ NotASuffix) →
    IsErrorOf (cond (not s) (Some NotASuffix) (cond r None (Some NotRaw))) e
not_raw_by true true e raw when_suffix when_none = absurd (true≢false raw)
not_raw_by true false e raw when_suffix when_none = when_suffix refl
not_raw_by false r e raw when_suffix when_none = when_none refl

-- bytes that are not UTF-8 are not a raw value
pub not_raw : (bs suffix : List ℕ) (e : BuildError) → (IsUtf8 bs → ⊥) →
    (is_suffix suffix ≡ true → e ≡ NotRaw) →
    (is_suffix suffix ≡ false → e ≡ NotASuffix) → IsErrorOf (raw_error false true bs suffix) e
not_raw bs suffix e none when_suffix when_none =
    not_raw_by (is_suffix suffix) (is_raw_value false true bs) e
    (false_from_ne_true (is_raw_value false true bs)
    (λ raw. none (ascii_utf8 bs (value_ascii bs raw)))) when_suffix when_none

pub raw_byte_string_derives : (value suffix bytes : List ℕ) → IsUtf8 suffix →
    raw_error false true value (chars suffix) ≡ None →
    bytes ≡ raw_bytes (98 ∷ 114 ∷ []) (hashes_needed (chars value)) value suffix →
    IsString byte_string_kind (chars bytes) (written_raw value (chars suffix))
unfolding encode_utf8
raw_byte_string_derives value suffix bytes u possible is =
    let both = possible_by (is_suffix (chars suffix)) (is_raw_value false true value) possible in
    let ascii = value_ascii value both.1 in
    let v = ascii_utf8 value ascii in
    subst (λ (t : List ℕ). IsString byte_string_kind (chars bytes) (written_raw t (chars suffix)))
    (ascii_chars value ascii)
    (raw_derives byte_string_kind value suffix bytes refl refl v u
    (raw_same value value (chars suffix) refl v ∙ possible) is)

pub raw_bytes-value : (value suffix : List ℕ) → raw_error false true value suffix ≡ None →
    string_value (written_raw value suffix) ≡ value
raw_bytes-value value suffix possible =
    encodes_ascii value (value_ascii value
    (possible_by (is_suffix suffix) (is_raw_value false true value) possible).1)
