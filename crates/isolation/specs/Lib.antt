-- Paper 01, "Demand 3, word by word".

-- "A fetch or store reaches a space if .."
pub mod Reaches
-- First half: two runs of one list that differ in one space
pub mod TwoRuns
-- The first half, said of keys (paper 02, M-100)
pub mod KeysAgree
-- Second half: the ground that earlier calls give for each fetch or store
pub mod History
pub mod Recall
pub mod Ground
pub mod Agrees
-- Records with and without a ground
pub mod Records
pub mod Kept
-- Free frames: "zero once freed", and what they first hold (paper 02, M-101)
pub mod Freed
pub mod FirstScratch
-- What a guest is handed
pub mod Handed
