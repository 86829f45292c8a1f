-- The token that a call uses, the slot of its space, the entry that it takes, and what it sees.
pub mod Token
pub mod Search
pub mod Taking
pub mod Views
