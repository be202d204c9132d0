-- Do two runs of fragment gates act alike: the answer, what it means, and how it is computed.
pub mod Alike
pub mod Table
pub mod Answer
