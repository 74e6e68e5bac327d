-- literals of each kind
pub mod BoolLiteral
pub mod IntegerLiteral
pub mod FloatLiteral
pub mod CharLiteral
pub mod StringLiteral
pub mod CString
-- parses of strings
pub mod ParsedStrings
-- literals of any kind
pub mod LiteralDerivation
-- the kinds of chars and strings
pub mod CharKind
pub mod StringKind
-- digits, regardless of groups
pub mod Digits
-- texts that begin a literal
pub mod Begins
pub mod MayGainDigits
pub mod LoneUnderscore
-- The words of the contracts, so that users name this crate alone: texts, numbers and refusals
pub use Rattle.litrs_base.specs.Base
pub use Rattle.litrs_base.specs.CharEnd
pub use Rattle.litrs_base.specs.Characters
pub use Rattle.litrs_base.specs.Derivations
pub use Rattle.litrs_base.specs.Finality
pub use Rattle.litrs_base.specs.FloatTypes
pub use Rattle.litrs_base.specs.IntegerTypes
pub use Rattle.litrs_base.specs.Kind
pub use Rattle.litrs_base.specs.Numeral
pub use Rattle.litrs_base.specs.Quotes
pub use Rattle.litrs_base.specs.Refusal
pub use Rattle.litrs_base.specs.Text
-- the grammar, and the meaning of a refusal
pub use Rattle.litrs_grammar.specs.Allocation
pub use Rattle.litrs_grammar.specs.Bool
pub use Rattle.litrs_grammar.specs.CharByte
pub use Rattle.litrs_grammar.specs.Closing
pub use Rattle.litrs_grammar.specs.LongerTexts
pub use Rattle.litrs_grammar.specs.Escape
pub use Rattle.litrs_grammar.specs.Float
pub use Rattle.litrs_grammar.specs.Integer
pub use Rattle.litrs_grammar.specs.Literal
pub use Rattle.litrs_grammar.specs.LiteralRefusals
pub use Rattle.litrs_grammar.specs.LiteralText
pub use Rattle.litrs_grammar.specs.Quoted
pub use Rattle.litrs_grammar.specs.Raw
pub use Rattle.litrs_grammar.specs.Refused
pub use Rattle.litrs_grammar.specs.Strings
pub use Rattle.litrs_grammar.specs.Suffix
