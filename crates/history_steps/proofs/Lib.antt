pub mod StepChoices
pub mod Choices
