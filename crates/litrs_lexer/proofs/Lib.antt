-- runs of characters, by bytes
pub mod Runs
-- bytes, 16 at a time
mod Lanes
-- block comments
pub mod Blocks
pub mod Bodies
-- names and white space
pub mod AsciiRuns
-- tokens, in bytes
pub mod Cuts
-- one token alone
pub mod Classes
pub mod Unique
-- tokens that more text changes, and those that stay
pub mod MayChange
-- the text before the tokens of a file
pub mod Attributes
-- lists of tokens
pub mod Spelled
