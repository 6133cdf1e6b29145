-- Reading order: from the words to how a run ends.

-- the command line
pub mod Words
-- what the two statements ask for
pub mod Statements
-- a heap file: how it is read, and what is wrong with it as a whole
pub mod HeapFile
-- what words and heap come to
pub mod Outcome
-- the index file and its report, as far as they are written
pub mod IndexFile
-- what a build says
pub mod Report
-- faults, forms and statuses by numbers
pub mod Answer
-- what a run answers and leaves
pub mod Run
-- how a command ends
pub mod End
-- the promise of a build
pub mod Headline
-- what follows from these, whatever the heap
pub mod Laws
-- what the steps of a run keep, which is no part of the above
pub mod Calls
