mod Lines
mod Saying
