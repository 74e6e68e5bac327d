-- the places at which a text and its parts can be cut
pub mod Cuts
-- signs before numbers
pub mod Signs
-- tokens at their places
pub mod Tokens
-- the first line feed of a text
pub mod LineFeeds
