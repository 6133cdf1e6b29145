-- What a pass over a page's items keeps, apart from what the format is.

-- which units of eight bytes belong to lesser items
pub mod Units
-- which items were found faultless, and what the first one with a fault tells
pub mod Faults
