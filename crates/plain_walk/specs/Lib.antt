-- The best column so far, and what a visit of the walk and the whole walk promise.
pub mod Scored
pub mod Place
