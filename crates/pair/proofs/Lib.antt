mod Cases
mod Telling
mod Fronts
mod Meaning
