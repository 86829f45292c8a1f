pub mod Transferred
