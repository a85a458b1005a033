pub mod Progress
pub mod Small
pub mod Answer
pub mod Places
