pub mod BranchText
