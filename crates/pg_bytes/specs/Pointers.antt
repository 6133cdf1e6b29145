-- Row pointers (`ItemPointerData` of itemptr.h and block.h) and line pointers (`ItemIdData` of itemid.h).
use Rattle.std.specs.Prelude.{◌≡◌, ◌⊎◌, ℕ, ◌+◌, ◌*◌, ◌/◌, ◌%◌, ◌^◌, ◌<◌, List, ◌++◌}
use Rattle.pg_bytes.specs.Numbers.{number_at, number_bytes}
use Rattle.pg_bytes.specs.declared.row_ptr.RowPtr.{RowPtr}
use Rattle.pg_bytes.specs.declared.line_ptr.LinePtr.{LinePtr}
use Rattle.pg_bytes.specs.declared.line_ptr.LineState.{LineState}
use Rattle.pg_bytes.specs.declared.line_ptr.LineState.TheVariants.{Unused, Normal, Redirect, Dead}

-- a row pointer's six bytes: the block's high and low half, and the offset number
unfoldable pub row_pointer_bytes : RowPtr → List ℕ
row_pointer_bytes p =
    number_bytes 2 (p.block / 2 ^ 16) ++ (number_bytes 2 (p.block % 2 ^ 16) ++ number_bytes 2 p.offset)

-- the row pointer in the six bytes at a place
abbrev pub row_pointer_at : List ℕ → ℕ → RowPtr
row_pointer_at bytes place = record {
  block = number_at 2 bytes place * 2 ^ 16 + number_at 2 bytes (place + 2);
  offset = number_at 2 bytes (place + 4);
}

-- ItemPointerCompare: one row pointer is before another, by block and then by offset
abbrev pub IsBefore : RowPtr → RowPtr → Type 0
IsBefore p q = (p.block < q.block) ⊎ ((p.block ≡ q.block) × (p.offset < q.offset))

-- a line pointer in its word: 15 bits of offset, 2 of state, 15 of length
abbrev pub line_pointer_of : ℕ → LinePtr
line_pointer_of word = record { offset = word % 2 ^ 15; state = word / 2 ^ 15 % 4; length = word / 2 ^ 17 }

abbrev pub word_of : LinePtr → ℕ
word_of line = line.offset + (line.state * 2 ^ 15 + line.length * 2 ^ 17)

-- what a line pointer's state says of it
abbrev pub number_of_state : LineState → ℕ
number_of_state Unused = 0
number_of_state Normal = 1
number_of_state Redirect = 2
number_of_state Dead = 3
