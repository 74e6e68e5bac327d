-- characters and texts
pub mod Characters
pub mod Text
pub mod CharEnd
-- derivations and refusals, for every kind of literal
pub mod Derivations
pub mod Kind
pub mod Finality
pub mod Refusal
pub mod Unescape
pub mod Quotes
-- numbers
pub mod Base
pub mod Numeral
pub mod IntegerTypes
pub mod FloatTypes
