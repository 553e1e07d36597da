pub mod Places
pub mod Advised
pub mod Mistakes
pub mod Unread
pub mod Refusals
pub mod Others
pub mod Accepted
pub mod Judged
