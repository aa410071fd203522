pub mod NearLabel
