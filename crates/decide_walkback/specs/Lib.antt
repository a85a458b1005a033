pub mod Makes
pub mod Move
pub mod WalkBack
