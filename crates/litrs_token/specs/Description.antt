-- The names of kinds of tokens.
use Rattle.std.specs.Prelude.{ℕ, List, codes}
use Rattle.litrs_token.specs.declared.kind.TokenKind.{TokenKind}
use Rattle.litrs_token.specs.declared.kind.TokenKind.TheVariants as token

-- The name of a kind in messages.
abbrev pub description : TokenKind → List ℕ
description token.Punct = codes "a punctuation character"
description token.Ident = codes "an identifier"
description token.Group = codes "a group"
description token.Literal = codes "a literal"
description token.BoolLit = codes "a bool literal (`true` or `false`)"
description token.ByteLit = codes "a byte literal (e.g. `b'r'`)"
description token.ByteStringLit = codes "a byte string literal (e.g. `b\"fox\"`)"
description token.CharLit = codes "a character literal (e.g. `'P'`)"
description token.FloatLit = codes "a float literal (e.g. `3.14`)"
description token.IntegerLit = codes "an integer literal (e.g. `27`)"
description token.StringLit = codes "a string literal (e.g. \"Ferris\")"
description token.CStringLit = codes "a C string literal (e.g. c\"Ferris\")"
