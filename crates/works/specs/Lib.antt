-- Where the work on lines stands, whichever it is.
pub mod Fed
