-- Each raw literal is built of its value and its suffix.
use Rattle.std.proofs.Common.{◌≡◌, ℕ, Bool, true, false, not, ◌||◌, cond, eqb, List, [], ◌∷◌, ◌++◌, refl, sym, ap, ◌∙◌, arith}
use Rattle.std.specs.Prelude.{Option, Some, None, position}
use Rattle.std.specs.Char.{encode_utf8}
use Rattle.std.specs.List.{list_all, list_any}
use Rattle.std.specs.Str.{chars, IsUtf8, encode_utf8_all}
use Rattle.std.proofs.lemmas.Bool.{and_from, and_parts, le-leb, true≢false}
use Rattle.std.proofs.lemmas.List.Folds.{list_any-append, list_any_at}
use Rattle.std.proofs.lemmas.Str.{chars-encodes, scalars-chars}
use lib.Utf8.{scalar, scalars}
use Rattle.litrs_base.specs.declared.quotes.StringKind.{StringKind}
use Rattle.litrs_base.specs.declared.quotes.StringKind.TheVariants.{String as string_kind, ByteString as byte_string_kind, CString as c_string_kind}
use Rattle.litrs_base.specs.Quotes.{raw_front}
use Rattle.litrs_grammar.specs.Suffix.{is_suffix}
use Rattle.litrs_grammar.specs.Raw.{RawParts, IsRaw, IsRawLiteral, hashes, is_nul, is_raw_char, raw_closing, raw_text, raw_value}
use Rattle.litrs_grammar.proofs.NoNul.{encode_no_nul}
use Rattle.litrs_build.specs.declared.error.BuildError.TheVariants.{NotASuffix, NotRaw}
use Rattle.litrs_build.specs.CStrings.{c_string_error, nul_error}
use Rattle.litrs_build.specs.Laws.{RawLiteralsAreBuilt}
use Rattle.litrs_build.specs.Raw.{hashes_needed, is_raw_value, raw_c_error, raw_error}
use Rattle.litrs_build.proofs.Hashes.{raw_literals_need_hashes}
use Rattle.litrs_build.proofs.NulPlaces.{first_byte_is_position}
use Rattle.litrs_build.proofs.RawBytes.{raw_is_ascii}
use Rattle.litrs_build.proofs.RawCBytes.{raw_c_same}
use Rattle.litrs_build.proofs.Spellings.{encodes_ascii}

-- The body is text

scalars_right : (s t : List ℕ) → scalars (s ++ t) ≡ true → scalars t ≡ true
scalars_right [] t e = e
scalars_right (c ∷ s) t e = scalars_right s t (and_parts (scalar c) (scalars (s ++ t)) e).1

scalars_left : (s t : List ℕ) → scalars (s ++ t) ≡ true → scalars s ≡ true
scalars_left [] t e = refl
scalars_left (c ∷ s) t e =
    let both = and_parts (scalar c) (scalars (s ++ t)) e in
    and_from _ _ both.0 (scalars_left s t both.1)

body_scalars : (kind : StringKind) (bytes : List ℕ) (d : RawParts) → IsUtf8 bytes →
    IsRawLiteral kind (chars bytes) d → scalars d.body ≡ true
body_scalars kind bytes d u is =
    let end = raw_closing d.hash_count ++ d.suffix in
    let all : scalars (raw_front kind ++ raw_text d) ≡ true =
    ap scalars is.spells ∙ scalars-chars bytes u in
    let quoted = scalars_right (hashes d.hash_count) (34 ∷ (d.body ++ end))
    (scalars_right (raw_front kind) (raw_text d) all) in
    scalars_left d.body end (and_parts (scalar 34) (scalars (d.body ++ end)) quoted).1

-- the characters of the value are the body
pub body_chars : (kind : StringKind) (bytes : List ℕ) (d : RawParts) → IsUtf8 bytes →
    IsRawLiteral kind (chars bytes) d → chars (raw_value d.body) ≡ d.body
body_chars kind bytes d u is = chars-encodes d.body (body_scalars kind bytes d u is)

-- in a raw byte string the body is the value
pub body_bytes : (d : RawParts) → IsRaw false true d → raw_value d.body ≡ d.body
body_bytes d raw = encodes_ascii d.body (raw_is_ascii d.body raw.body.allowed)

-- No error is expected

possible_when : (s r : Bool) → s ≡ true → r ≡ true →
    cond (not s) (Some NotASuffix) (cond r None (Some NotRaw)) ≡ None
possible_when s r a b = rw (a, b) refl

raw_possible : (unicode allow_nul : Bool) (d : RawParts) → IsRaw unicode allow_nul d →
    raw_error unicode allow_nul d.body d.suffix ≡ None
raw_possible unicode allow_nul d raw =
    let least = raw_literals_need_hashes unicode allow_nul d raw in
    let most = raw.hash_count in
    possible_when (is_suffix d.suffix) (is_raw_value unicode allow_nul d.body) raw.suffix
    (and_from _ _ raw.body.allowed (le-leb (hashes_needed d.body) 255 (omega (arith, least, most))))

no_position : (bytes : List ℕ) → list_any is_nul bytes ≡ false → position is_nul bytes ≡ None
no_position bytes none =
    sym (first_byte_is_position is_nul bytes None
    (λ k low inside nul. true≢false (sym (list_any_at is_nul bytes k 0 inside nul) ∙ none)))

no_error_by : (s : Bool) (o : Option ℕ) → s ≡ true → o ≡ None →
    cond (not s) (Some NotASuffix) (nul_error o) ≡ None
no_error_by s o a b = rw (a, b) refl

-- bytes without NUL are those of a C string
pub no_nul_error : (bytes suffix : List ℕ) → is_suffix suffix ≡ true →
    list_any is_nul bytes ≡ false → c_string_error bytes suffix ≡ None
no_nul_error bytes suffix s none =
    no_error_by (is_suffix suffix) (position is_nul bytes) s (no_position bytes none)

not_nul : (b : Bool) → not b ≡ true → b ≡ false
not_nul true e = sym e
not_nul false e = refl

or_both : (a b : Bool) → a ≡ false → b ≡ false → (a || b) ≡ false
or_both a b first second = rw (first, second) refl

no_nul_bytes : (body : List ℕ) → list_all (is_raw_char true false) body ≡ true →
    list_any is_nul (encode_utf8_all body) ≡ false
no_nul_bytes [] e = refl
no_nul_bytes (c ∷ cs) e =
    let both = and_parts (is_raw_char true false c) (list_all (is_raw_char true false) cs) e in
    let rest = and_parts (not (eqb c 13)) (not (is_nul c)) both.0 in
    list_any-append is_nul (encode_utf8 c) (encode_utf8_all cs)
    ∙ or_both (list_any is_nul (encode_utf8 c)) (list_any is_nul (encode_utf8_all cs))
    (encode_no_nul c (not_nul (is_nul c) rest.1)) (no_nul_bytes cs both.1)

c_possible : (bytes : List ℕ) (d : RawParts) → IsUtf8 bytes →
    IsRawLiteral c_string_kind (chars bytes) d → raw_c_error (raw_value d.body) d.suffix ≡ None
c_possible bytes d u is =
    let value = raw_value d.body in
    let none = no_nul_error value d.suffix is.grammar.suffix
    (no_nul_bytes d.body is.grammar.body.allowed) in
    let text : IsUtf8 value = (d.body, (body_scalars c_string_kind bytes d u is, refl)) in
    sym (raw_c_same value value d.suffix refl text none)
    ∙ (ap (λ (t : List ℕ). raw_error true false t d.suffix) (body_chars c_string_kind bytes d u is)
    ∙ raw_possible true false d is.grammar)

pub raw_literals_are_built : RawLiteralsAreBuilt
raw_literals_are_built string_kind bytes d u is =
    ap (λ (t : List ℕ). raw_error true true t d.suffix) (body_chars string_kind bytes d u is)
    ∙ raw_possible true true d is.grammar
raw_literals_are_built byte_string_kind bytes d u is =
    ap (λ (t : List ℕ). raw_error false true t d.suffix) (body_bytes d is.grammar)
    ∙ raw_possible false true d is.grammar
raw_literals_are_built c_string_kind bytes d u is = c_possible bytes d u is
