-- the causes for which a statement is refused
pub mod Cause
-- what a rule of the grammar is, and how rules are put together
pub mod Rule
-- names, and words that are none
pub mod Names
-- types by their words
pub mod TypeNames
-- the columns that a statement names, and what stands behind a column
pub mod Columns
-- the statement of a table
pub mod TableStatement
-- the options of an index
pub mod Options
-- the conditions of an index
pub mod Conditions
-- the statement of an index
pub mod IndexStatement
-- what the public calls answer
pub mod Answers
-- what the functions keep on their way
pub mod Pass
-- what a text comes to: a table or an index, or the first fault
pub mod Faults
-- what holds of the two statements
pub mod Laws
-- tables and indexes whose names a text can spell
pub mod Named
-- how tables are printed
pub mod Printer
-- how indexes are printed
pub mod IndexPrinter
