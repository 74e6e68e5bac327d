-- sizes of literals and their parts
pub mod Sizes
-- the places of the parts
pub mod PartPlaces
-- allocation failures
pub mod Memory
-- the front of a longer text
pub mod Prefixes
-- the token at a place
pub mod TokenPlaces
-- parts that are written one after the other
pub mod Rooms
-- examples
pub mod Examples
-- names by their numbers
pub mod Names
-- results of a call
pub mod Results
