-- C strings: text stays text, and a byte that does not belong to valid UTF-8 is written by its
-- number. The Rust Reference, Tokens, Literals: "C string literals".
use Rattle.std.specs.Prelude.{ℕ, zero, suc, ◌+◌, ◌-◌, Bool, true, not, if◌then◌else◌, List, [], ◌∷◌, take, slice_get, position, Option, Some, None}
use Rattle.std.specs.Char.{len_utf8}
use Rattle.std.specs.Str.{chars, is_utf8, continuation_len}
use Rattle.litrs_base.specs.Characters.{double_quote}
use Rattle.litrs_grammar.specs.Quoted.{Item}
use Rattle.litrs_grammar.specs.Raw.{is_nul}
use Rattle.litrs_grammar.specs.Suffix.{is_suffix}
use Rattle.litrs_grammar.specs.Literal.{StringParts}
use Rattle.litrs_build.specs.declared.error.BuildError.{BuildError}
use Rattle.litrs_build.specs.declared.error.BuildError.TheVariants.{NotASuffix, HasNul}
use Rattle.litrs_build.specs.declared.spelling.Spelling.{Spelling}
use Rattle.litrs_build.specs.declared.spelling.Spelling.TheVariants.{Hex}
use Rattle.litrs_build.specs.Spelling.{char_spelling, is_escaped, spelled_item}
use Rattle.litrs_build.specs.Written.{quoted_of}

-- The character with whose UTF-8 the bytes start, or `None` if there is none. The first byte
-- decides the number of bytes.
unfoldable pub first_char : List ℕ → Option ℕ
first_char [] = None
first_char (b ∷ bytes) =
    let front = take (1 + continuation_len b) (b ∷ bytes) in
    if is_utf8 front then slice_get (chars front) 0 else None

-- The spelling of that character, or of the first byte.
abbrev pub spelling_or_byte : (follows_mark : Bool) → ℕ → Option ℕ → Spelling
spelling_or_byte follows_mark b (Some c) = char_spelling double_quote follows_mark c
spelling_or_byte follows_mark b None = Hex b

-- The number of bytes that are spelled.
abbrev pub len_or_byte : Option ℕ → ℕ
len_or_byte (Some c) = len_utf8 c
len_or_byte None = 1

-- The items of bytes, of which the first `left` belong to the character before them.
abbrev pub c_items : (left : ℕ) → (follows_mark : Bool) → List ℕ → List Item
c_items left follows_mark [] = []
c_items (suc left) follows_mark (b ∷ bytes) = c_items left follows_mark bytes
c_items zero follows_mark (b ∷ bytes) =
    let first = first_char (b ∷ bytes) in
    let spelling = spelling_or_byte follows_mark b first in
    spelled_item spelling ∷ c_items (len_or_byte first - 1) (is_escaped spelling) bytes

-- The parts of the C string of some bytes.
abbrev pub written_c_string : List ℕ → List ℕ → StringParts
written_c_string bytes suffix = quoted_of (c_items 0 true bytes) suffix

-- The error for the place of the first NUL, if there is one.
abbrev pub nul_error : Option ℕ → Option BuildError
nul_error (Some at) = Some (HasNul at)
nul_error None = None

-- The error if no C string has the bytes and the suffix.
abbrev pub c_string_error : List ℕ → List ℕ → Option BuildError
c_string_error bytes suffix =
    if not (is_suffix suffix) then Some NotASuffix else nul_error (position is_nul bytes)
