pub mod AtLimits
