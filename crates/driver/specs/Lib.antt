-- Where the driver stands in a session, the outcomes of its lines, and the calls in it.
pub mod Fed
pub mod Heard
pub mod Served
