-- the literal that is written for a literal
pub mod Form
