-- The parts of a refusal or a derivation that longer texts keep, kind by kind.
pub mod Float
pub mod Raw
pub mod Integer
pub mod Bool
pub mod Escape
pub mod Suffix
pub mod Quoted
pub mod Dispatch
pub mod String
pub mod CharByte
pub mod Literal
pub mod OpenRows
pub mod OtherKinds
