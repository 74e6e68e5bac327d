-- Texts whose answers are known from outside, kind by kind.
pub mod CharByte
pub mod Closing
pub mod Escape
pub mod Float
pub mod Integer
pub mod Kind
pub mod Literal
pub mod Memory
pub mod Quoted
pub mod Raw
pub mod Refused
pub mod Text
