pub mod FlatAdjust
