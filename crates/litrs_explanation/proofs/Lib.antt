-- text that is appended
pub mod Appending
-- every character is an LF or printable
pub mod Printed
-- the literals of values
pub mod Built
-- the lines on a literal, put together
pub mod Explained
-- floats with the same digits
pub mod SameNumbers
