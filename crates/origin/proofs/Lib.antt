mod Cases
pub mod Noting
pub mod Origins
