-- What the pass answers in rooms exactly as long as a list needs.
pub mod Clauses
