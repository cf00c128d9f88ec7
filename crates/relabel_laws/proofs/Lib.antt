pub mod Results
pub mod Items
pub mod Lists
pub mod Replaced
pub mod Theorems
