-- What the choice of a column promises, the paper's choice, and the counts by planes.
pub mod Choice
pub mod Distance
pub mod Planes
