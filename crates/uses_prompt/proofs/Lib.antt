-- the lines that are read
pub mod Said
-- examples
pub mod Examples
