-- The code's values as those of the definitions, and what its functions ask and do.
pub mod View
