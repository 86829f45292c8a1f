-- Paper 01, "Both sides of each edge": the cases marked P
pub mod Cases
-- Demand 3 on concrete things
pub mod Instance
