-- the value of a float
pub mod FloatValue
-- the literals that a type has values for
pub mod Kinds
-- the values of literals
pub mod Values
-- the leading bits of an integer
pub mod Leading
-- why a literal has no value of a type
pub mod Refuses
-- texts: a sign and a literal
pub mod Reads
-- texts that start with a value
pub mod Prefixes
-- laws
pub mod Laws
-- the text of an error
pub mod ErrorText
