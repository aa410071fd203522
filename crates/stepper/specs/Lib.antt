pub mod Stepper
