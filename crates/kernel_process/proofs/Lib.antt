pub mod ActiveSets
pub mod Away
pub mod Closes
pub mod KeptMoved
pub mod OwnersTold
pub mod OneProcess
pub mod Rooms
