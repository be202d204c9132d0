-- A list spelled as a text, both ways, and the sizes of the programs that take a text.
pub mod Sizes
pub mod Lines
pub mod Texts
pub mod Reading
pub mod Forms
pub mod Heads
