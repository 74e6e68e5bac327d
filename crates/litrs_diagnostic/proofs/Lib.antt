-- the first and the last line of a text
pub mod TextLines
-- the starts of lines follow one another
pub mod LineStarts
-- the first and the last line in bytes
pub mod ByteLines
-- the width of a character that is shown
pub mod Widths
-- printable ASCII is shown as it is
pub mod PlainText
-- texts that are written in turn
pub mod Encodes
-- runs of a character
pub mod Glyphs
-- as many characters as are shown in a width
pub mod Within
-- texts that are shown whole
pub mod Shorter
-- the number of digits of a number
pub mod Digits
-- a text that is cut at both ends of a range
pub mod Cuts
-- the bytes of all that is written
pub mod Written
-- the bytes of remarks
pub mod RemarkLines
-- the bytes of rows
pub mod RowLines
-- the text that is shown is printable
pub mod Clean
