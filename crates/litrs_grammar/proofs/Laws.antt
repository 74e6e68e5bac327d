-- Facts about all texts, topic by topic.
pub mod Text
pub mod Bool
pub mod Integer
pub mod Float
pub mod Number
pub mod Escape
pub mod CharByte
pub mod Quoted
pub mod Raw
pub mod Literal
pub mod Value
pub mod Allocation
