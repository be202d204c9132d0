-- The laboratories' text, OpenQASM 2.0: the table of spellings, a statement, import and export, and what the functions say of them.
pub mod Table
pub mod Statement
pub mod Import
pub mod Export
pub mod Clauses
