pub mod StepChoices
pub mod Tables
