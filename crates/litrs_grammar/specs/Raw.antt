-- Raw strings. The Rust Reference, Tokens, Literals: "Raw string literals", "Raw byte string
-- literals" and "Raw C string literals". The grammar comes first, the refusals below it. Two
-- switches distinguish the kinds: in a byte string `unicode` is off, and in a C string NUL is not
-- allowed.
use Rattle.std.specs.Prelude.{◌≡◌, ℕ, ◌+◌, ◌≤◌, ◌==◌, ◌&&◌, ◌||◌, nat_lt, Bool, not, List, [], ◌∷◌, ◌++◌, length, take, drop, replicate, Option, Some, None, IsTrue, IsFalse, if◌then◌else◌, encode_utf8_all}
use Rattle.std.specs.List.{list_all, prefix_len, slice_index}
use Rattle.litrs_base.specs.declared.err.ParseErrorKind.{ParseErrorKind}
use Rattle.litrs_base.specs.declared.err.ParseErrorKind.TheVariants.{InvalidLiteral, TooManyHashes, CarriageReturn, NulByte, NonAsciiInByteLiteral, UnterminatedRawString}
use Rattle.litrs_base.specs.Refusal.{Refusal, without_span, spanning, at_byte}
use Rattle.litrs_base.specs.Characters.{double_quote, hash, carriage_return, nul, fits_charset, nul_is_allowed}
use Rattle.litrs_base.specs.Text.{is_empty, byte_len, first_passes, begins_with}
use Rattle.litrs_base.specs.declared.quotes.StringKind.{StringKind}
use Rattle.litrs_base.specs.Quotes.{switches_of, raw_front}
use Rattle.litrs_grammar.specs.Suffix.{is_suffix, suffix_kind}

-- `"`
abbrev pub is_quote : ℕ → Bool
is_quote c = c == double_quote

-- `#`
abbrev pub is_hash : ℕ → Bool
is_hash c = c == hash

-- NUL.
abbrev pub is_nul : ℕ → Bool
is_nul c = c == nul

-- `n` hashes.
abbrev pub hashes : ℕ → List ℕ
hashes n = replicate n hash

-- The closing of a raw string that opens with `n` hashes: `"` and `n` hashes.
abbrev pub raw_closing : ℕ → List ℕ
raw_closing n = double_quote ∷ hashes n

-- `true` iff the text contains `part`.
abbrev pub occurs : List ℕ → List ℕ → Bool
occurs part [] = is_empty part
occurs part (c ∷ cs) = begins_with part (c ∷ cs) || occurs part cs

-- A raw body does not contain CR. That of a byte string contains only ASCII, and that of a C string
-- no NUL. A backslash is an ordinary character.
abbrev pub is_raw_char : (unicode allow_nul : Bool) → ℕ → Bool
is_raw_char unicode allow_nul c =
    not (c == carriage_return) && (fits_charset unicode c && nul_is_allowed allow_nul c)

-- `body` is a raw body between `n` hashes iff its characters are allowed and it does not contain
-- the closing.
pub record IsRawBody (unicode allow_nul : Bool) (n : ℕ) (body : List ℕ) : Type 0 where
  pub allowed : IsTrue (list_all (is_raw_char unicode allow_nul) body)
  pub unclosed : IsFalse (occurs (raw_closing n) body)

-- The value of a raw body: the UTF-8 of its characters.
abbrev pub raw_value : List ℕ → List ℕ
raw_value body = encode_utf8_all body

-- The parts of a raw literal: the number of hashes, the body and the suffix.
pub record RawParts : Type 0 where
  pub hash_count : ℕ
  pub body : List ℕ
  pub suffix : List ℕ

-- The text with these parts, without the front: hashes, `"`, body, `"`, as many hashes, suffix.
abbrev pub raw_text : RawParts → List ℕ
raw_text d =
    hashes d.hash_count ++ (double_quote ∷ (d.body ++ (raw_closing d.hash_count ++ d.suffix)))

-- `d` are the parts of a raw literal iff there are at most 255 hashes, the body is one between
-- them, and the suffix is a suffix.
pub record IsRaw (unicode allow_nul : Bool) (d : RawParts) : Type 0 where
  pub hash_count : d.hash_count ≤ 255
  pub body : IsRawBody unicode allow_nul d.hash_count d.body
  pub suffix : IsTrue (is_suffix d.suffix)

-- `t`, which follows the front, completes a raw literal with the parts `d` iff they spell `t` and
-- are those of a raw literal.
pub record IsRawOf (unicode allow_nul : Bool) (t : List ℕ) (d : RawParts) : Type 0 where
  pub spells : raw_text d ≡ t
  pub grammar : IsRaw unicode allow_nul d

-- The switches of the kind.
abbrev pub has_unicode : StringKind → Bool
has_unicode kind = (switches_of kind).unicode

abbrev pub allows_nul : StringKind → Bool
allows_nul kind = (switches_of kind).allow_nul

-- `t` is a raw literal of the kind with the parts `d` iff these spell `t` after the front, and are
-- those of a raw literal of the kind.
pub record IsRawLiteral (kind : StringKind) (t : List ℕ) (d : RawParts) : Type 0 where
  pub spells : raw_front kind ++ raw_text d ≡ t
  pub grammar : IsRaw (has_unicode kind) (allows_nul kind) d

-- Refusals. The hashes after the front and the text before the first closing decide them.

-- The number of hashes at the front of the text.
abbrev pub hash_len : List ℕ → ℕ
hash_len t = prefix_len is_hash t

-- The number of characters before the first `part`, or of all characters if the text does not
-- contain `part`.
abbrev pub length_before : List ℕ → List ℕ → ℕ
length_before part [] = 0
length_before part (c ∷ cs) = if begins_with part (c ∷ cs) then 0 else 1 + length_before part cs

-- The error kind of a character that is not allowed in a raw body.
abbrev pub raw_char_kind : ℕ → ParseErrorKind
raw_char_kind c =
    if c == carriage_return then CarriageReturn
    else if is_nul c then NulByte
    else NonAsciiInByteLiteral

-- The refusal by the text after `n` hashes and the quote, which starts at `start`, or `None` if it
-- completes a raw literal. The body extends to the first closing. The first row that fits decides.
unfoldable pub raw_body_refusal : (unicode allow_nul : Bool) (n start : ℕ) → List ℕ → Option Refusal
raw_body_refusal unicode allow_nul n start t =
    let body = take (length_before (raw_closing n) t) t in
    let allowed = prefix_len (is_raw_char unicode allow_nul) body in
    let suffix = drop (length body + (1 + n)) t in
    if nat_lt allowed (length body)
    then Some (at_byte (start + byte_len (take allowed t))
    (raw_char_kind (slice_index t allowed)))
    else if not (occurs (raw_closing n) t) then Some (without_span UnterminatedRawString)
    else if not (is_suffix suffix)
    then Some (at_byte (start + (byte_len body + (1 + n))) (suffix_kind suffix))
    else None

-- The refusal by the text after a front, which starts at `start`, or `None` if it completes a raw
-- literal. The first row that fits decides.
unfoldable pub raw_refusal : (unicode allow_nul : Bool) (start : ℕ) → List ℕ → Option Refusal
raw_refusal unicode allow_nul start t =
    let n = hash_len t in
    let after = drop n t in
    if is_empty after then Some (without_span InvalidLiteral)
    else if nat_lt 255 n then Some (spanning start (start + n) TooManyHashes)
    else if not (first_passes is_quote after) then Some (without_span InvalidLiteral)
    else raw_body_refusal unicode allow_nul n (start + (n + 1)) (drop 1 after)

-- The refusal of a text that starts with the front of the kind, as a raw literal of the kind.
abbrev pub raw_literal_refusal : StringKind → List ℕ → Option Refusal
raw_literal_refusal kind t =
    raw_refusal (has_unicode kind) (allows_nul kind) (length (raw_front kind))
    (drop (length (raw_front kind)) t)
