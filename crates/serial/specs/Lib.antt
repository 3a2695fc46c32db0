pub mod Laws
pub mod Moves
pub mod Rooms
pub mod Seats
pub mod States
