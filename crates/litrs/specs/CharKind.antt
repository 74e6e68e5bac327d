-- The two kinds of literals between single quotes, by the names that definitions give them.
use Rattle.litrs_base.specs.declared.quotes.CharKind.{CharKind}
use Rattle.litrs_base.specs.declared.quotes.CharKind.TheVariants.{Char, Byte}

-- `'a'`
abbrev pub char_kind : CharKind
char_kind = Char

-- `b'a'`
abbrev pub byte_kind : CharKind
byte_kind = Byte
