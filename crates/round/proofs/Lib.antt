pub mod Builds
pub mod Columns
pub mod Counts
pub mod Ends
pub mod Listing
pub mod Recognising
pub mod Spans
