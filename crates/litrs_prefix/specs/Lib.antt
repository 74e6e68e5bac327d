-- the literal at the front of a text
pub mod Prefix
-- texts in which a literal begins
pub mod Opens
-- malformed prefixes, and the pieces of a text
pub mod Malformed
pub mod Piece
-- the text before a delimiter
pub mod Until
-- texts whose literal may change if more text follows
pub mod MayChange
pub mod GoesOn
-- the extent of a literal, valid or malformed
pub mod Extent
-- laws
pub mod Laws
-- the ends of literals, as the code finds them
pub mod Ends
-- the words of the contracts and of their proofs
pub mod Words
