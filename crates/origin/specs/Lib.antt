-- Where each gate of a shortened circuit comes from, how that is said, and what the functions that say it ask and say.
pub mod Origins
pub mod Clauses
