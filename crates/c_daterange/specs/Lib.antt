pub mod FlatDaterange
