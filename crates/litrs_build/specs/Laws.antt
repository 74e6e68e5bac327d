-- Laws of literals that are built.
use Rattle.std.specs.Prelude.{◌≡◌, ℕ, ◌<◌, ◌≤◌, Bool, List, IsTrue, None, slice_index}
use Rattle.std.specs.List.{list_all}
use Rattle.std.specs.Str.{chars, IsUtf8}
use Rattle.litrs_base.specs.declared.quotes.StringKind.{StringKind}
use Rattle.litrs_grammar.specs.CharByte.{char_item_text}
use Rattle.litrs_grammar.specs.Quoted.{body_text}
use Rattle.litrs_grammar.specs.Raw.{RawParts, IsRaw, IsRawLiteral, raw_value}
use Rattle.litrs_build.specs.CStrings.{c_items}
use Rattle.litrs_build.specs.Printable.{is_printable}
use Rattle.litrs_build.specs.Raw.{hashes_needed, raw_kind_error}
use Rattle.litrs_build.specs.Written.{written_char, written_byte, char_items, byte_items}

-- All characters between the quotes are printable. Only the suffix can contain characters that are
-- not printable, if XID_Continue allows them.

-- This holds for chars.
abbrev pub CharsArePrintable : Type 0
CharsArePrintable = (c : ℕ) (suffix : List ℕ) →
    IsTrue (list_all is_printable (char_item_text (written_char c suffix).item))

-- This holds for bytes.
abbrev pub BytesArePrintable : Type 0
BytesArePrintable = (b : ℕ) (suffix : List ℕ) → b < 256 →
    IsTrue (list_all is_printable (char_item_text (written_byte b suffix).item))

-- This holds for strings.
abbrev pub StringsArePrintable : Type 0
StringsArePrintable = (follows_mark : Bool) (text : List ℕ) →
    IsTrue (list_all is_printable (body_text (char_items follows_mark text)))

-- This holds for byte strings.
abbrev pub ByteStringsArePrintable : Type 0
ByteStringsArePrintable = (bytes : List ℕ) → ((i : ℕ) → slice_index bytes i < 256) →
    IsTrue (list_all is_printable (body_text (byte_items bytes)))

-- This holds for C strings.
abbrev pub CStringsArePrintable : Type 0
CStringsArePrintable = (left : ℕ) (follows_mark : Bool) (bytes : List ℕ) →
    ((i : ℕ) → slice_index bytes i < 256) →
    IsTrue (list_all is_printable (body_text (c_items left follows_mark bytes)))

-- No raw literal has fewer hashes than its body needs.
abbrev pub RawLiteralsNeedHashes : Type 0
RawLiteralsNeedHashes = (unicode allow_nul : Bool) (d : RawParts) →
    IsRaw unicode allow_nul d → hashes_needed d.body ≤ d.hash_count

-- There is no error for the value and the suffix of a raw literal.
abbrev pub RawLiteralsAreBuilt : Type 0
RawLiteralsAreBuilt = (kind : StringKind) (bytes : List ℕ) (d : RawParts) → IsUtf8 bytes →
    IsRawLiteral kind (chars bytes) d → raw_kind_error kind (raw_value d.body) d.suffix ≡ None
