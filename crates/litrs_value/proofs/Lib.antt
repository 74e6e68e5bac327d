-- the text of a float is read whole
pub mod Scan
pub mod FloatTexts
pub mod Signs
-- the float nearest to an integer
mod LeadingBits
mod Rounding
-- suffixes, and errors
mod Suffixes
mod Errors
mod Marks
mod Fronts
pub mod NoValue
-- examples
mod Examples
