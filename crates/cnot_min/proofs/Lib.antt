pub mod Rooms
pub mod Promising
