pub mod Simulate
