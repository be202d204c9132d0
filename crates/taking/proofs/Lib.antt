-- Laws that belong to no one function. Callers cite `ask-ready`.
pub mod Taking
