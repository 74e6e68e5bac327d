-- the digits of a number
pub mod HexDigits
-- spellings are items of their kinds
pub mod Spellings
-- texts of spellings are literals
pub mod Texts
-- the digits of a number, and how they are written
pub mod DigitLemmas
-- digits in groups
pub mod GroupLemmas
pub mod GroupRuns
-- the integer of these parts
pub mod IntegerLemmas
-- the float of these parts
pub mod FloatLemmas
-- plain ASCII
pub mod Plain
pub mod PlainLanes
-- and printable
pub mod PrintableAscii
pub mod PrintableTexts
-- C strings
pub mod NulPlaces
pub mod CTexts
-- raw bodies, and the texts of raw literals
pub mod Hashes
pub mod RawTexts
pub mod RawBytes
pub mod RawCBytes
pub mod RawLiterals
-- string literals that are written anew
pub mod WrittenAnew
pub mod MemoryErrors
-- examples
pub mod Examples
-- literals that are rewritten
pub mod BodyItems
pub mod CasedDigits
pub mod CasedSpellings
pub mod RewrittenItems
pub mod RewrittenChars
pub mod RewrittenFloats
pub mod RewrittenLiterals
pub mod RewrittenRuns
pub mod CasedIntegers
pub mod RewrittenTwice
pub mod RewrittenKept
