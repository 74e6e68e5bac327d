-- lines and columns
pub mod Position
-- the starts of the lines of a text
pub mod Lines
-- printable characters
pub mod Printable
-- texts as they are shown, and their widths
pub mod Shown
-- the lines that a range marks
pub mod Line
-- the part of a line that is shown
pub mod Window
-- the colors of a terminal
pub mod Colors
-- a line with its marks
pub mod Row
-- labels of further ranges
pub mod Label
-- the lines and windows of the program
pub mod Rows
-- messages
pub mod Diagnostic
-- The words of the contracts, so that users name this crate alone
pub use Rattle.litrs_base.specs.CharEnd
pub use Rattle.litrs_base.specs.Kind
pub use Rattle.litrs_base.specs.Refusal
