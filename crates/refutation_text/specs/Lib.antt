pub mod LiteralReading
pub mod LiteralText
pub mod NumberText
pub mod StepReading
pub mod StepText
pub mod TextLaws
