pub mod ItemLemmas
pub mod SplitLemmas
pub mod HeaderLemmas
pub mod ReadingLemmas
pub mod EncodingLemmas
pub mod ChangeLemmas
pub mod InPlaceLemmas
pub mod FeedLemmas
