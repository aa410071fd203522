pub mod Copy
