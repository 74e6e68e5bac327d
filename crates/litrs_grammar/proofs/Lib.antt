-- texts and suffixes
pub mod NoNul
pub mod LineFeeds
pub mod SuffixStart
pub mod Computing
-- cuts and items
pub mod FloatCuts
pub mod QuotedItems
pub mod RawCuts
pub mod RawKinds
pub mod RawScans
pub mod RawClosings
-- all kinds together
pub mod LiteralTexts
pub mod StringDerivations
pub mod RefusalKinds
-- the laws of each kind, and of all
pub mod Laws
-- the spans of each kind, and of all
pub mod Spans
-- longer texts
pub mod LongerTexts
pub mod Refused
-- examples
pub mod Examples
