mod Examples
mod TextExamples
pub mod Apart
pub mod Asking
pub mod Distance
pub mod Forms
pub mod Framing
pub mod Ignoring
pub mod Keeping
pub mod Sufficing
pub mod Within
