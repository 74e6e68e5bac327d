-- The texts of literals of each kind are those of tokens.
use Rattle.std.proofs.Common.{ℕ, List, refl}
use Rattle.litrs_base.specs.declared.quotes.CharKind.TheVariants.{Char as char_kind, Byte as byte_kind}
use Rattle.litrs_base.specs.declared.quotes.StringKind.{StringKind}
use Rattle.litrs_base.specs.declared.quotes.StringKind.TheVariants.{String as string_kind, ByteString as byte_string_kind, CString as c_string_kind}
use Rattle.litrs_grammar.specs.CharByte.{CharParts, IsCharLiteral}
use Rattle.litrs_grammar.specs.Float.{FloatParts, IsFloatOf}
use Rattle.litrs_grammar.specs.Integer.{IntegerParts, IsIntegerOf}
use Rattle.litrs_grammar.specs.Literal.{an_integer, a_float, a_char, a_byte, a_string, a_byte_string, a_c_string, string_literal_of}
use Rattle.litrs_grammar.specs.Strings.{StringDerivation}
use Rattle.litrs_token.specs.declared.kind.TokenKind.TheVariants as token
use Rattle.litrs_token.specs.LiteralToken.{token_kind, IsLiteralToken}

pub integer_token : (t : List ℕ) (d : IntegerParts) → IsIntegerOf t d →
    IsLiteralToken t token.IntegerLit
integer_token t d r =
    record { derivation = an_integer d; literal = r; no_bool = λ e. cc; is_kind = refl }

pub float_token : (t : List ℕ) (d : FloatParts) → IsFloatOf t d → IsLiteralToken t token.FloatLit
float_token t d r =
    record { derivation = a_float d; literal = r; no_bool = λ e. cc; is_kind = refl }

pub char_token : (t : List ℕ) (d : CharParts) → IsCharLiteral char_kind t d →
    IsLiteralToken t token.CharLit
char_token t d r =
    record { derivation = a_char d; literal = r; no_bool = λ e. cc; is_kind = refl }

pub byte_token : (t : List ℕ) (d : CharParts) → IsCharLiteral byte_kind t d →
    IsLiteralToken t token.ByteLit
byte_token t d r =
    record { derivation = a_byte d; literal = r; no_bool = λ e. cc; is_kind = refl }

pub string_token_of : (kind : StringKind) (t : List ℕ) → StringDerivation kind t →
    IsLiteralToken t (token_kind (string_literal_of kind))
string_token_of string_kind t d =
    record { derivation = a_string d.0; literal = d.1; no_bool = λ e. cc; is_kind = refl }
string_token_of byte_string_kind t d =
    record { derivation = a_byte_string d.0; literal = d.1; no_bool = λ e. cc; is_kind = refl }
string_token_of c_string_kind t d =
    record { derivation = a_c_string d.0; literal = d.1; no_bool = λ e. cc; is_kind = refl }
