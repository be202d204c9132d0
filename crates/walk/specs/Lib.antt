-- The stack of the phase walk, and what a turn of the walk promises.
pub mod Stack
pub mod Later
pub mod Place
