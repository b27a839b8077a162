pub mod Announceable
pub mod Announcements
pub mod Announced
