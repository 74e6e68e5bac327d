-- The pieces of a body between double quotes. The Rust Reference, Tokens, Literals: "String
-- literals" and "Byte string literals".
use Rattle.std.specs.Prelude.{ℕ, Bool, false, true, not, ◌==◌, ◌&&◌, ◌||◌, nat_le, List, encode_utf8_all}
use Rattle.litrs_base.specs.Characters.{space, double_quote, backslash}
use Rattle.litrs_grammar.specs.Quoted.{item_text}
use Rattle.litrs_build.specs.declared.pieces.Charset.{Charset}
use Rattle.litrs_build.specs.declared.pieces.Charset.TheVariants.{Ascii, Any}
use Rattle.litrs_build.specs.declared.pieces.Piece.{Piece}
use Rattle.litrs_build.specs.declared.pieces.Piece.TheVariants.{Plain, Spelled}
use Rattle.litrs_build.specs.Spelling.{is_escaped, spelled_item}

-- `true` iff the byte or the character is in the set: in ASCII, if it is at most `~`.
abbrev pub is_in : Charset → ℕ → Bool
is_in Ascii b = nat_le b 126
is_in Any b = true

-- The greatest byte in the set.
abbrev pub last_byte : Charset → ℕ
last_byte Ascii = 126
last_byte Any = 255

-- `true` iff the byte or the character is plain: from the space on in the set, but neither the
-- double quote nor the backslash.
abbrev pub is_plain : Charset → ℕ → Bool
is_plain charset b =
    (nat_le space b && is_in charset b) && not ((b == double_quote) || (b == backslash))

-- `true` iff the byte is plain ASCII, which is written as it is.
abbrev pub is_plain_ascii : ℕ → Bool
is_plain_ascii b = is_plain Ascii b

-- `true` iff the piece is an escape.
abbrev pub is_escape : Piece → Bool
is_escape (Plain text) = false
is_escape (Spelled spelling) = is_escaped spelling

-- The bytes of the piece.
abbrev pub piece_text : Piece → List ℕ
piece_text (Plain text) = text.now
piece_text (Spelled spelling) = encode_utf8_all (item_text (spelled_item spelling))
