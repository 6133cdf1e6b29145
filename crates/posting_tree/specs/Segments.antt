-- Posting lists as bytes (ginpostinglist.c, GinPostingList of ginblock.h): lists of row pointers that ascend strictly,
-- cut into segments. A segment has its first pointer as it is, and of each other one how far it is behind the one before.
use Rattle.std.specs.Prelude.{◌≡◌, ℕ, zero, suc, ◌+◌, ◌-◌, ◌*◌, ◌/◌, ◌%◌, ◌^◌, ◌<◌, ◌≤◌, ⊤, if◌then◌else◌, nat_lt, List, [], ◌∷◌, ◌++◌, length}
use Rattle.std.specs.List.{AllByRecursion, flat_map}
use Rattle.pg_bytes.specs.Numbers.{number_bytes}
use Rattle.pg_bytes.specs.Places.{zeros}
use Rattle.pg_bytes.specs.Pointers.{IsBefore, row_pointer_bytes}
use Rattle.pg_bytes.specs.declared.row_ptr.RowPtr.{RowPtr}

-- ---- which pointers a list may have

-- an offset number from 1 on that takes at most eleven bits (MaxHeapTuplesPerPageBits)
pub record IsStorable (ptr : RowPtr) : Type 0 where
  pub from : 1 ≤ ptr.offset
  pub below : ptr.offset < 2 ^ 11

-- a pointer is before the first of others, if there is one
abbrev pub IsBeforeFirst : RowPtr → List RowPtr → Type 0
IsBeforeFirst ptr [] = ⊤
IsBeforeFirst ptr (next ∷ others) = IsBefore ptr next

-- pointers that a list may have, strictly ascending
abbrev pub AreAscending : List RowPtr → Type 0
AreAscending [] = ⊤
AreAscending (ptr ∷ others) = IsStorable ptr × IsBeforeFirst ptr others × AreAscending others

-- pointers of blocks in four bytes
abbrev pub HaveBlocks : List RowPtr → Type 0
HaveBlocks ptrs = AllByRecursion (λ ptr. ptr.block < 2 ^ 32) ptrs

-- ---- one segment

-- a pointer as one number (itemptr_to_uint64)
abbrev pub number_of : RowPtr → ℕ
number_of ptr = ptr.block * 2 ^ 11 + ptr.offset

-- a number in at most so many bytes of seven bits, the low ones first: all but the last have the top bit set
abbrev pub groups : ℕ → ℕ → List ℕ
groups zero x = []
groups (suc more) x = if nat_lt x 128 then x ∷ [] else (x % 128 + 128) ∷ groups more (x / 128)

-- a number below 2^49 in the fewest such bytes (encode_varbyte), of which there are at most seven (MaxBytesPerInteger)
unfoldable pub varbyte : ℕ → List ℕ
varbyte x = groups 7 x

-- how far each of these pointers is behind the one before it, the first behind this number
abbrev pub deltas_behind : ℕ → List RowPtr → List ℕ
deltas_behind number [] = []
deltas_behind number (ptr ∷ others) = varbyte (number_of ptr - number) ++ deltas_behind (number_of ptr) others

-- the deltas of a segment with these pointers
abbrev pub deltas : List RowPtr → List ℕ
deltas [] = []
deltas (first ∷ others) = deltas_behind (number_of first) others

-- the segment of pointers behind a first one: the first pointer, how many bytes the deltas have, the deltas, and a zero
-- byte where these bytes are odd (ginCompressPostingList)
unfoldable pub segment_from : RowPtr → List RowPtr → List ℕ
segment_from first others =
    row_pointer_bytes first
    ++ (number_bytes 2 (length (deltas_behind (number_of first) others))
    ++ (deltas_behind (number_of first) others ++ zeros (length (deltas_behind (number_of first) others) % 2)))

-- the segment of these pointers, of which there is one at least
abbrev pub segment : List RowPtr → List ℕ
segment [] = []
segment (first ∷ others) = segment_from first others

-- ---- a list as segments

-- pointers that one segment holds: there are some, and two bytes count those of their deltas
pub record IsPart (ptrs : List RowPtr) : Type 0 where
  pub some : 0 < length ptrs
  pub counted : length (deltas ptrs) < 2 ^ 16

-- the bytes of a list of pointers that is cut into segments
pub record AreSegmentsOf (ptrs : List RowPtr) (bytes : List ℕ) : Type 0 where
  pub ascending : AreAscending ptrs
  pub blocks : HaveBlocks ptrs
  pub parts : List (List RowPtr)
  pub each : AllByRecursion IsPart parts
  pub whole : ptrs ≡ flat_map (λ part. part) parts
  pub bytes_are : bytes ≡ flat_map segment parts
