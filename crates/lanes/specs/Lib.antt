-- What the sums of one wire stand for.
pub mod Lanes
