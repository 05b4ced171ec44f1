mod Exact
mod Listing
mod Passing
mod Placing
mod Relabelling
mod Relating
mod Splitting
mod Taking
