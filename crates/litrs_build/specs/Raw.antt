-- Raw literals: their hashes and values. The Rust Reference, Tokens, Literals: "Raw string
-- literals", "Raw byte string literals" and "Raw C string literals".
use Rattle.std.specs.Prelude.{ℕ, ◌+◌, Bool, true, false, not, ◌==◌, ◌&&◌, nat_lt, nat_le, if◌then◌else◌, List, [], ◌∷◌, Option, Some, None}
use Rattle.std.specs.List.{list_all}
use Rattle.std.specs.Str.{chars, is_utf8}
use Rattle.litrs_base.specs.Characters.{hash}
use Rattle.litrs_base.specs.declared.quotes.StringKind.{StringKind}
use Rattle.litrs_base.specs.declared.quotes.StringKind.TheVariants.{String as string_kind, ByteString as byte_string_kind, CString as c_string_kind}
use Rattle.litrs_grammar.specs.Suffix.{is_suffix}
use Rattle.litrs_grammar.specs.Raw.{is_quote, hash_len, is_raw_char}
use Rattle.litrs_grammar.specs.Literal.{StringParts, raw_parts}
use Rattle.litrs_build.specs.CStrings.{c_string_error}
use Rattle.litrs_build.specs.declared.error.BuildError.{BuildError}
use Rattle.litrs_build.specs.declared.error.BuildError.TheVariants.{NotASuffix, NotRaw}

-- The greater of two numbers.
abbrev pub greater : ℕ → ℕ → ℕ
greater a b = if nat_lt a b then b else a

-- The least number of hashes with which nothing in the body closes it. This is one more than the
-- longest run of hashes after a quote, or 0 if the body has no quote.
unfoldable pub hashes_needed : List ℕ → ℕ
hashes_needed [] = 0
hashes_needed (c ∷ cs) = greater (if is_quote c then 1 + hash_len cs else 0) (hashes_needed cs)

-- The parts of the raw literal of a body.
abbrev pub written_raw : List ℕ → List ℕ → StringParts
written_raw body suffix =
    raw_parts (record { hash_count = hashes_needed body; body = body; suffix = suffix })

-- `true` iff the text is the body of some raw literal of the kind: its characters are allowed, and
-- it needs at most 255 hashes.
abbrev pub is_raw_value : (unicode allow_nul : Bool) → List ℕ → Bool
is_raw_value unicode allow_nul body =
    list_all (is_raw_char unicode allow_nul) body && nat_le (hashes_needed body) 255

-- The error if no raw literal has the body and the suffix.
abbrev pub raw_error : (unicode allow_nul : Bool) → List ℕ → List ℕ → Option BuildError
raw_error unicode allow_nul body suffix =
    if not (is_suffix suffix) then Some NotASuffix
    else if is_raw_value unicode allow_nul body then None
    else Some NotRaw

-- `true` iff the bytes are the value of some raw C string: they are the UTF-8 of such a body.
abbrev pub is_raw_c_value : List ℕ → Bool
is_raw_c_value bytes = is_utf8 bytes && is_raw_value true false (chars bytes)

-- The error of a C string, if there is one. Otherwise, the bytes must be the value of a raw one.
abbrev pub or_not_raw : Option BuildError → (is_value : Bool) → Option BuildError
or_not_raw (Some e) is_value = Some e
or_not_raw None is_value = if is_value then None else Some NotRaw

-- The error if no raw C string has the bytes and the suffix.
abbrev pub raw_c_error : List ℕ → List ℕ → Option BuildError
raw_c_error bytes suffix = or_not_raw (c_string_error bytes suffix) (is_raw_c_value bytes)

-- The error if no raw literal of the kind has the value and the suffix.
abbrev pub raw_kind_error : StringKind → (value suffix : List ℕ) → Option BuildError
raw_kind_error string_kind value suffix = raw_error true true (chars value) suffix
raw_kind_error byte_string_kind value suffix = raw_error false true value suffix
raw_kind_error c_string_kind value suffix = raw_c_error value suffix

-- The length of the run that consists of a quote and the hashes after it, after one more character.
-- It is 0 outside such a run.
abbrev pub run_after : ℕ → ℕ → ℕ
run_after run c =
    if is_quote c then 1 else if (c == hash) && nat_lt 0 run then run + 1 else 0
