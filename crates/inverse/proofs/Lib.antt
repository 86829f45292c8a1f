-- Reading and writing a line are inverse (paper 02, M-104).

-- One field, of each kind, and the fields of a line
pub mod Throughout
pub mod Numbers
pub mod Hexes
pub mod Names
pub mod Cutting
pub mod FieldTexts
pub mod Readings
pub mod WrittenFields
-- Each form, and each request
pub mod FormLaws
pub mod Requests
-- The claims: WrittenLine, ReadsBack, ReadCanonical, WritesBack, RefusedRightly, RewritesGoodLines
pub mod OneLine
pub mod ReadsBack
pub mod LineRead
pub mod WritesBack
pub mod Refused
pub mod GoodLines
-- Lines written, computed
pub mod Examples
