pub mod Running
pub mod Saying
pub mod Firing
pub mod ExampleFiring
pub mod Never
