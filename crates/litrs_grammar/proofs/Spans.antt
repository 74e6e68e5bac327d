-- The spans of refusals lie in the text, kind by kind.
pub mod Integer
pub mod Float
pub mod Escape
pub mod CharByte
pub mod Quoted
pub mod Raw
pub mod Literal
