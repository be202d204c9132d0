mod Cases
-- a template, the table, a statement, the gates' lines, the lines before them; round trips, and how long a text is: both ways, no code
pub mod Templates
pub mod Codes
pub mod Statements
pub mod Gates
pub mod Bodies
pub mod Openings
pub mod Trips
pub mod Short
-- what the functions come to
pub mod Pieces
mod Guesses
mod Keeping
mod Fronts
