-- A relation in segments (mdnblocks and mdopenfork of md.c): only the last one isn't full, and a file behind it isn't
-- of the relation.
use Rattle.std.specs.Prelude.{◌≡◌, ℕ, ◌+◌, ◌-◌, ◌*◌, ◌<◌, List, length, Option, Some, None, IsSome}
use Rattle.std.specs.List.{flat_map, range_with_len}
use Rattle.pg_files.specs.Files.{content}
use Rattle.pg_files.specs.Outside.{FileMap}
use Rattle.segments.specs.Limits.{segment_bytes}
use Rattle.segments.specs.Names.{segment_name}
use Rattle.segments.specs.declared.fault.SeriesCause.{SeriesCause}
use Rattle.segments.specs.declared.fault.SeriesCause.TheVariants.{Overlong, Surplus}
use Rattle.segments.specs.declared.limits.Limits.{Limits}

-- the file of a segment, if it is there
abbrev pub segment_of : FileMap → List ℕ → ℕ → Option (List ℕ)
segment_of files name number = files (segment_name name number)

-- the bytes of a segment
abbrev pub bytes_of_segment : FileMap → List ℕ → ℕ → List ℕ
bytes_of_segment files name number = content (segment_of files name number)

-- a segment that is there and has all its bytes
abbrev pub IsFull : ℕ → Option (List ℕ) → Type 0
IsFull size None = ⊥
IsFull size (Some file) = length file ≡ size

-- so many first segments are full
abbrev pub AreFull : ℕ → FileMap → List ℕ → ℕ → Type 0
AreFull size files name count = (number : ℕ) → number < count → IsFull size (segment_of files name number)

-- A relation has so many segments: the first, and each that follows a full one. All but the last are full.
pub record HasSegments (size : ℕ) (files : FileMap) (name : List ℕ) (count : ℕ) : Type 0 where
  pub some : 0 < count
  pub full : AreFull size files name (count - 1)
  pub last : IsSome (segment_of files name (count - 1))
  pub end : IsFull size (segment_of files name (count - 1)) → segment_of files name count ≡ None

-- the bytes of so many first segments, one behind the other
abbrev pub first_segments : FileMap → List ℕ → ℕ → List ℕ
first_segments files name count = flat_map (bytes_of_segment files name) (range_with_len 0 count)

-- What is wrong with the segments of a relation, told at a block: one that there may be is longer than a segment, at
-- the block behind a full one; or as many as there may be are full and one more has bytes, at the first block past the
-- limit.
abbrev pub HasSeriesFault : Limits → FileMap → List ℕ → SeriesCause → ℕ → Type 0
HasSeriesFault limits files name Overlong block =
    (number : ℕ) × (number < limits.segments) × AreFull (segment_bytes limits) files name number
    × (segment_bytes limits < length (bytes_of_segment files name number)) × (block ≡ (number + 1) * limits.segment)
HasSeriesFault limits files name Surplus block =
    AreFull (segment_bytes limits) files name limits.segments
    × (0 < length (bytes_of_segment files name limits.segments)) × (block ≡ limits.segments * limits.segment)

-- the bytes are those of the relation, whose segments have no fault
pub record IsRelation (limits : Limits) (name bytes : List ℕ) (files : FileMap) : Type 0 where
  pub count : ℕ
  pub segments : HasSegments (segment_bytes limits) files name count
  pub sound : (cause : SeriesCause) (block : ℕ) → HasSeriesFault limits files name cause block → ⊥
  pub bytes_are : bytes ≡ first_segments files name count
