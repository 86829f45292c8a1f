-- Paper 01 as executable definitions, in its order and under its headings; what a request of paper 02 adds stands at its place and
-- says which request it is of. This folder is what a reader has to believe.

-- "Sizes"
pub mod Sizes
pub mod Names
pub mod NameText
pub mod Tables
pub mod Frames
pub mod Fresh
-- "Answer numbers"
pub mod Answers
-- "The calls, each with its order of checks"
pub mod Searches
pub mod Runs
pub mod Changes
pub mod Decision
pub mod Classes
pub mod Arguments
-- of M-100, "Storage keys on each block"
pub mod Keys
pub mod Calls
pub mod Granted
pub mod Verdict
-- of M-102, "Tell us which field was wrong"
pub mod Limits
-- "Tokens and translation"
pub mod Tokens
pub mod Translation
pub mod Through
-- "A sound state": as statements, and as a Boolean
pub mod Sound
pub mod SoundTest
-- "What the statements owe": answer, value, tables and every byte, call by call and over a list
pub mod Step
pub mod Lawful
-- what the code returns
pub mod Replies
pub mod Leaves
pub mod Promise
-- "Both sides of each edge" stands in the crate `cases`, which computes with all of these
-- "The session program"
pub mod Lines
-- of M-102: the place of an argument in a line
pub mod Places
pub mod Session
-- of M-104, "Write sessions, too"
pub mod Parts
pub mod Written
pub mod Rewritten
