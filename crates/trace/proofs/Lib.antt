mod Cases
mod Cutting
mod Tracing
