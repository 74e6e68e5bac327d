-- the text that a collector holds
pub mod Held
-- strings that are open at its end
pub mod Open
-- steps
pub mod Steps
pub mod StepLaws
pub mod PrefixSteps
-- the calls of any device
pub mod Devices
-- devices over memory
pub mod Calls
pub mod MemInput
pub mod MemOutput
-- devices over readers and writers of the standard library
pub mod StdInput
pub mod StdOutput
-- lines
pub mod Lines
pub mod LinesLaws
-- groups of lines
pub mod Groups
pub mod GroupsLaws
-- reports
pub mod Report
pub mod ReportParts
pub mod Reports
pub mod ReportLaws
-- groups and reports, from line to line
pub mod Ended
-- the end of a run
pub mod Stopped
pub mod Sent
pub mod RunError
-- The words of the contracts, so that users name this crate alone
pub use Rattle.litrs_base.specs.Characters
pub use Rattle.litrs_base.specs.Derivations
pub use Rattle.litrs_base.specs.Refusal
pub use Rattle.litrs_grammar.specs.Literal
pub use Rattle.litrs_grammar.specs.Refused
pub use Rattle.litrs.specs.LiteralDerivation
pub use Rattle.litrs_prefix.specs.Ends
pub use Rattle.litrs_prefix.specs.Malformed
pub use Rattle.litrs_prefix.specs.Opens
pub use Rattle.litrs_prefix.specs.Prefix
