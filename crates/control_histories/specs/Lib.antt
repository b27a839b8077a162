pub mod Happenings
pub mod Logs
pub mod Replies
pub mod Versions
