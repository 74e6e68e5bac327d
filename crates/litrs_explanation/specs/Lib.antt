-- the lines on a literal
pub mod Explanation
-- text that is appended to a buffer
pub mod Appended
-- facts about all literals
pub mod Laws
-- The words of the contracts, so that users name this crate alone
pub use Rattle.litrs_grammar.specs.Float
pub use Rattle.litrs_grammar.specs.Integer
pub use Rattle.litrs_grammar.specs.Literal
pub use Rattle.litrs.specs.FloatLiteral
pub use Rattle.litrs.specs.IntegerLiteral
pub use Rattle.litrs.specs.LiteralDerivation
