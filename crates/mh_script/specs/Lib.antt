pub mod Script
pub mod Contents
