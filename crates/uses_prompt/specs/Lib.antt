-- the answer to a line
pub mod Answered
