-- how a record is read back
pub mod ReadBack
pub mod Texts
-- which bytes stand at a place
pub mod Standing
-- how order bytes and their heads compare
pub mod OrderBytes
pub mod Heads
-- the head of few bytes from two numbers
pub mod ShortHeads
-- how long a record's bytes are at most
pub mod Lengths
-- how a record is read step by step
pub mod StepsBack
-- how places compare, and which order a sort of them gives
pub mod PlaceOrder
-- records that are put and laid
pub mod Held
-- runs, as their records are taken and put
pub mod RunSteps
