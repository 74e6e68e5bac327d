-- the settings of a line, its first fault, and the texts of both
pub mod Settings
