pub mod FlatNumber
