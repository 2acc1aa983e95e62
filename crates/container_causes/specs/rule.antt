pub mod Results
pub mod Listings
pub mod Exits
pub mod Lacking
