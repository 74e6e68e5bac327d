-- spans and tokens
pub mod Place
pub mod Tokens
pub mod LiteralToken
pub mod StringToken
pub mod Tree
-- messages
pub mod Description
pub mod Errors
pub mod CompileError
-- mismatches and bools
pub mod Mismatch
pub mod BoolTree
-- the kinds that conversions expect
pub mod Conversion
-- The words of the contracts, so that users name this crate alone: of literals
pub use Rattle.litrs_base.specs.Characters
pub use Rattle.litrs_base.specs.Derivations
pub use Rattle.litrs_base.specs.Refusal
pub use Rattle.litrs_base.specs.Text
pub use Rattle.litrs_grammar.specs.Bool
pub use Rattle.litrs_grammar.specs.Literal
pub use Rattle.litrs_grammar.specs.Quoted
pub use Rattle.litrs_grammar.specs.Raw
pub use Rattle.litrs_grammar.specs.Refused
pub use Rattle.litrs_base.specs.Quotes
pub use Rattle.litrs_grammar.specs.Suffix
pub use Rattle.litrs.specs.BoolLiteral
pub use Rattle.litrs.specs.LiteralDerivation
