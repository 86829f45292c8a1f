pub mod Held
pub mod Tags
pub mod SlotLoop
pub mod Counts
pub mod GuestLoop
pub mod Whole
pub mod Kept
