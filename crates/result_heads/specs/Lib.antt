pub mod Queued
pub mod Heads
