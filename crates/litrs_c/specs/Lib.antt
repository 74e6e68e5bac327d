-- the numbers of kinds in C
pub mod Codes
-- and their names
pub mod Names
-- answers for literals and errors
pub mod Places
pub mod LiteralFields
pub mod RefusalFields
pub mod Answers
-- answers for the front of a longer text
pub mod Prefixes
-- answers for the tokens of a text
pub mod Tokens
-- answers for the literal of a value
pub mod Writes
-- answers for the value of a number
pub mod Numbers
