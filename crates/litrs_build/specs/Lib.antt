-- printable characters
pub mod Printable
-- the spelling of a character or a byte
pub mod Spelling
-- the pieces of a body
pub mod Pieces
-- the literal of a value
pub mod Written
-- C strings
pub mod CStrings
-- raw literals
pub mod Raw
-- a literal built from the value of another
pub mod WrittenAnew
-- a literal that is rewritten in a style, and the items of its body
pub mod Rewriting
pub mod BodyItem
pub mod RewrittenInteger
pub mod RewrittenFloat
-- errors and their messages
pub mod Errors
pub mod ErrorText
-- digits and their groups
pub mod WrittenDigits
-- the integer that is built
pub mod BuiltInteger
-- the float that is built
pub mod BuiltFloat
-- laws
pub mod Laws
