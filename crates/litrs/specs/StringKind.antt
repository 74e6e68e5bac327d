-- The three kinds of strings, by the names that definitions of literals give them.
use Rattle.litrs_base.specs.declared.quotes.StringKind.{StringKind}
use Rattle.litrs_base.specs.declared.quotes.StringKind.TheVariants.{String, ByteString, CString}

-- `"a"` and `r"a"`
abbrev pub string_kind : StringKind
string_kind = String

-- `b"a"` and `br"a"`
abbrev pub byte_string_kind : StringKind
byte_string_kind = ByteString

-- `c"a"` and `cr"a"`
abbrev pub c_string_kind : StringKind
c_string_kind = CString
