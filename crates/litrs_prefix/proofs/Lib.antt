-- ends of texts
pub mod Ends
-- names, and openings of literals at the front
pub mod Names
pub mod Runs
pub mod Opened
-- facts that longer texts keep; the literal is the only one
pub mod LongerTexts
pub mod Chars
pub mod Numbers
pub mod Unique
pub mod MoreText
pub mod MayChange
-- a literal at the front is found
pub mod NumberEnds
-- malformed prefixes
pub mod Pieces
pub mod PieceBodies
pub mod PieceEnds
pub mod PieceLaws
-- the part that an error marks
pub mod Marks
-- errors of memory
pub mod OutOfMemory
-- the text before a delimiter
pub mod Delimiters
-- pieces that are literals
pub mod Judged
-- literals and strings that are read once
pub mod PlainLiterals
pub mod PlainStrings
-- the words and lemmas of the answers
pub mod Words
-- examples
pub mod Examples
