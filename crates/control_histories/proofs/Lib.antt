-- The entries of one peer in a log; that what sessions took was heard, once; that segments have a log; the changes of a log; tables after changes.
pub mod EntryLemmas
pub mod HeardLemmas
pub mod RoomLemmas
pub mod ReplyLemmas
pub mod OneLog
pub mod FrontLemmas
pub mod LogExists
pub mod ChangeLemmas
pub mod TableLemmas
