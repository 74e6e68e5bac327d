-- The laws, topic by topic.
pub mod Text
pub mod Name
pub mod Escape
pub mod Quoted
pub mod Raw
pub mod RawScan
pub mod CharByte
pub mod Float
pub mod Number
pub mod Literal
pub mod Value
pub mod Allocation
pub mod LongerTexts
