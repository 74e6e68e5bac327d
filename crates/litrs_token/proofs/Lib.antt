-- identifiers
pub mod Idents
-- of which kind a text is
pub mod TokenTexts
pub mod StringTests
pub mod NoTokens
-- strings that are written as tokens
pub mod WrittenStrings
-- trees of a compile error
pub mod Pushes
-- examples
pub mod Examples
-- answers of conversions
pub mod Conversions
