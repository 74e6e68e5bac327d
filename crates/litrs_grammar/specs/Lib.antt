-- the grammar: one file a topic, with the refusals below the rules
pub mod Suffix
pub mod Escape
pub mod Quoted
pub mod Raw
pub mod CharByte
pub mod Integer
pub mod Float
pub mod Bool
-- all kinds together, and the nine parses
pub mod Literal
pub mod Strings
pub mod LiteralRefusals
pub mod Allocation
-- the meaning of a refusal
pub mod LongerTexts
pub mod Closing
pub mod Refused
-- the refused texts that begin a literal, all kinds and kind by kind
pub mod LiteralText
pub mod GoesOn
-- the laws
pub mod Laws
