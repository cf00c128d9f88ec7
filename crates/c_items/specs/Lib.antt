pub mod FlatUpid
pub mod FlatItem
