-- The value of an escape, as a number. The Rust Reference, Tokens, Literals.
use Rattle.std.specs.Prelude.{ℕ, Bool, true, false}
use Rattle.litrs_base.specs.declared.escape.Unescape.{Unescape}
use Rattle.litrs_base.specs.declared.escape.Unescape.TheVariants.{Byte, Unicode}
use Rattle.litrs_base.specs.Characters.{is_ascii}

-- The number of the byte or of the character.
abbrev pub unescaped_number : Unescape → ℕ
unescaped_number (Byte b) = b
unescaped_number (Unicode c) = c

-- `true` iff the value is a character, or a byte that is ASCII.
abbrev pub is_unescaped_char : Unescape → Bool
is_unescaped_char (Byte b) = is_ascii b
is_unescaped_char (Unicode c) = true

-- `true` iff the value is a byte.
abbrev pub is_unescaped_byte : Unescape → Bool
is_unescaped_byte (Byte b) = true
is_unescaped_byte (Unicode c) = false
