pub mod Core
pub mod Formed
pub mod Published
pub mod Refusal
pub mod RegistryStep
