pub mod Agenda
pub mod Order
pub mod Queued
pub mod Turns
