-- Laws that belong to no one function. Callers cite `absorb-ready`.
pub mod Absorbing
