-- What the passes over pointers keep.
use Rattle.std.specs.Prelude.{◌≡◌, ℕ, ◌+◌, ◌%◌, ◌^◌, ◌<◌, ◌≤◌, ⊤, List, [], ◌∷◌, ◌++◌, length, take, drop}
use Rattle.std.specs.List.{AllByRecursion, flat_map}
use Rattle.pg_bytes.specs.Numbers.{number_bytes}
use Rattle.pg_bytes.specs.Places.{zeros}
use Rattle.pg_bytes.specs.Pointers.{row_pointer_bytes}
use Rattle.pg_bytes.specs.declared.row_ptr.RowPtr.{RowPtr}
use Rattle.posting_tree.specs.Segments.{IsPart, IsStorable, deltas_behind, groups, number_of, segment, varbyte}

-- the numbers of pointers ascend strictly, behind this one
abbrev pub AscendBehind : ℕ → List RowPtr → Type 0
AscendBehind number [] = ⊤
AscendBehind number (ptr ∷ others) = (number < number_of ptr) × AscendBehind (number_of ptr) others

-- bytes stand in front of others
abbrev pub IsInFront : List ℕ → List ℕ → Type 0
IsInFront front bytes = take (length front) bytes ≡ front

-- pointers that a list may have, of blocks in four bytes, whose numbers ascend strictly behind this one
abbrev pub AreBehind : ℕ → List RowPtr → Type 0
AreBehind number [] = ⊤
AreBehind number (ptr ∷ others) =
    IsStorable ptr × (ptr.block < 2 ^ 32) × ((number < number_of ptr) × AreBehind (number_of ptr) others)

-- ---- a number at the front of bytes

-- bytes begin with those of a number, at most so many
pub record StartsWithGroups (most : ℕ) (bytes : List ℕ) (x : ℕ) (left : List ℕ) : Type 0 where
  pub some : 0 < most
  pub fits : x < 128 ^ most
  pub bytes_are : bytes ≡ groups most x ++ left

-- bytes begin with those of a delta
pub record StartsWithDelta (bytes : List ℕ) (x : ℕ) (left : List ℕ) : Type 0 where
  pub fits : x < 2 ^ 49
  pub bytes_are : bytes ≡ varbyte x ++ left

-- ---- deltas to the end of bytes

-- bytes are the deltas of these pointers behind a number
pub record AreDeltasOf (number : ℕ) (bytes : List ℕ) (others : List RowPtr) : Type 0 where
  pub behind : AreBehind number others
  pub bytes_are : bytes ≡ deltas_behind number others

-- the number of the last pointer, or this one where there is none
abbrev pub last_number : ℕ → List RowPtr → ℕ
last_number number [] = number
last_number number (ptr ∷ others) = last_number (number_of ptr) others

-- How the deltas that are left stand to all: those of any pointers, behind those that were got, are the whole, and there
-- are no others.
pub record DeltasLead (number : ℕ) (bytes : List ℕ) (next : ℕ) (left : List ℕ) (got : List RowPtr) : Type 0 where
  pub gives : (rest : List RowPtr) → AreDeltasOf next left rest → AreDeltasOf number bytes (got ++ rest)
  pub needs : (all : List RowPtr) → AreDeltasOf number bytes all
      → (rest : List RowPtr) × (all ≡ got ++ rest) × AreDeltasOf next left rest
  pub last : next ≡ last_number number got

-- the pointers of the one list with these deltas went behind others, and this is the last one's number
pub record ReadsDeltas (number : ℕ) (bytes : List ℕ) (old new : List RowPtr) (last : ℕ) : Type 0 where
  pub got : List RowPtr
  pub put : new ≡ old ++ got
  pub are : AreDeltasOf number bytes got
  pub only : (others : List RowPtr) → AreDeltasOf number bytes others → others ≡ got
  pub last_is : last ≡ last_number number got

-- ---- segments to the end of bytes

-- bytes are the segments of these pointers behind a number
pub record AreSegmentsBehind (number : ℕ) (bytes : List ℕ) (ptrs : List RowPtr) : Type 0 where
  pub behind : AreBehind number ptrs
  pub parts : List (List RowPtr)
  pub each : AllByRecursion IsPart parts
  pub whole : ptrs ≡ flat_map (λ part. part) parts
  pub bytes_are : bytes ≡ flat_map segment parts

-- how the segments that are left stand to all
pub record SegmentsLead (number : ℕ) (bytes : List ℕ) (next : ℕ) (left : List ℕ) (got : List RowPtr) : Type 0 where
  pub gives : (rest : List RowPtr) → AreSegmentsBehind next left rest → AreSegmentsBehind number bytes (got ++ rest)
  pub needs : (all : List RowPtr) → AreSegmentsBehind number bytes all
      → (rest : List RowPtr) × (all ≡ got ++ rest) × AreSegmentsBehind next left rest

-- the pointers of the first segment went behind others, and this is left
pub record ReadsSegment (number : ℕ) (bytes : List ℕ) (old new : List RowPtr) (next : ℕ) (left : List ℕ) : Type 0 where
  pub got : List RowPtr
  pub put : new ≡ old ++ got
  pub lead : SegmentsLead number bytes next left got
  pub shorter : length left < length bytes

-- bytes begin with those of a segment that has this first pointer and these bytes of deltas
pub record StartsWithSegment (bytes : List ℕ) (first : RowPtr) (ds left : List ℕ) : Type 0 where
  pub storable : IsStorable first
  pub block : first.block < 2 ^ 32
  pub counted : length ds < 2 ^ 16
  pub bytes_are : bytes ≡ row_pointer_bytes first
      ++ (number_bytes 2 (length ds) ++ (ds ++ (zeros (length ds % 2) ++ left)))

-- the pointer that is so far behind a number, if there is one with an offset from 1 on and a block in four bytes
pub record IsPointerBehind (number delta : ℕ) (ptr : RowPtr) : Type 0 where
  pub storable : IsStorable ptr
  pub block : ptr.block < 2 ^ 32
  pub number_is : number_of ptr ≡ number + delta

-- so many zeros stand in bytes at a place
abbrev pub HasZeros : List ℕ → ℕ → ℕ → Type 0
HasZeros bytes place count = (place + count ≤ length bytes) × (take count (drop place bytes) ≡ zeros count)
