pub mod LabelTableSteps
