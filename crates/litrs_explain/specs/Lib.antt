-- the report on a literal
pub mod Report
-- places in a text
pub mod Places
-- comments, and the tokens between them
pub mod Comments
