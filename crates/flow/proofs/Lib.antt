mod Coming
mod Spelling
mod Words
