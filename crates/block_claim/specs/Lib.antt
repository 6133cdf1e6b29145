-- Reading order: which claims are legal, and then the words and views by which seats come to make them.

-- how many numbers a worker takes by one claim
pub mod Ramp
-- which lists of claims a scan may end with
pub mod Legal
-- the scan as a machine
pub mod Machine
-- what follows from these, whatever the claims
pub mod Laws
-- what each seat knows
pub mod Views
-- what holds between any two steps
pub mod Rule
-- what each kind of step tells its seat
pub mod Steps
-- what each call leaves
pub mod Calls
-- the structs that hold words and views
pub mod Seats
pub mod Scans
-- how a scan is opened
pub mod Opening
