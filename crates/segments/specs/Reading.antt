-- Reading a relation: what it gives, and when it fails.
use Rattle.std.specs.Prelude.{◌≡◌, ◌⊎◌, ◌+◌, ◌<◌, ◌≤◌, ◌*◌, ℕ, List, ◌++◌, length, take, drop, Bool, true, false, ⊤, Option, None, IsSome, Result, IsOk, IsErrOf}
use Rattle.pg_files.specs.Faults.{most_faults}
use Rattle.pg_files.specs.Outside.{FileMap, Outside}
use Rattle.segments.specs.Limits.{segment_bytes}
use Rattle.segments.specs.Names.{segment_name}
use Rattle.segments.specs.Relation.{AreFull, HasSeriesFault, IsFull, bytes_of_segment, segment_of}
use Rattle.segments.specs.Told.{OnTold}
use Rattle.segments.specs.declared.fault.ReadError.{ReadError}
use Rattle.segments.specs.declared.fault.ReadError.TheVariants as part
use Rattle.segments.specs.declared.fault.SeriesCause.TheVariants.{Overlong, Surplus}
use Rattle.segments.specs.declared.fault.SeriesError.{SeriesError}
use Rattle.segments.specs.declared.fault.SeriesError.TheVariants as series
use Rattle.segments.specs.declared.fault.SeriesFault.{SeriesFault}
use Rattle.segments.specs.declared.limits.Limits.{Limits}

-- ---- what is read

-- the relation's segments have this fault
abbrev pub IsFaulty : Limits → List ℕ → SeriesFault → FileMap → Type 0
IsFaulty limits name fault files = HasSeriesFault limits files name fault.cause fault.block

-- a segment is longer than a segment is, told at the block behind a full one
pub record IsOverlong (limits : Limits) (name : List ℕ) (number : ℕ) (fault : SeriesFault) (files : FileMap) : Type 0 where
  pub long : segment_bytes limits < length (bytes_of_segment files name number)
  pub cause_is : fault.cause ≡ Overlong
  pub block_is : fault.block ≡ (number + 1) * limits.segment

-- there is a segment more than there may be, and it has bytes
pub record HasSurplus (limits : Limits) (name : List ℕ) (fault : SeriesFault) (files : FileMap) : Type 0 where
  pub some : 0 < length (bytes_of_segment files name limits.segments)
  pub cause_is : fault.cause ≡ Surplus
  pub block_is : fault.block ≡ limits.segments * limits.segment

-- a fact of an error that is a fault
abbrev pub OnFault : (SeriesFault → Type 0) → SeriesError → Type 0
OnFault P (series.Fault fault) = P fault
OnFault P series.Memory = ⊤
OnFault P series.Failed = ⊤

-- so many bytes of a segment came behind those that were there: all that it has, or more than a segment has
abbrev pub IsSegmentRead : ℕ → List ℕ → ℕ → List ℕ → List ℕ → Type 0
IsSegmentRead size before count after file =
    ((count ≤ size) × (count ≡ length file) × (after ≡ before ++ file)) ⊎ ((size < count) × (size < length file))

-- the next bytes of a file, from a place on, came behind those that were there: none only at its end
pub record ReadsOn (place : ℕ) (old : List ℕ) (count : ℕ) (new file : List ℕ) : Type 0 where
  pub bytes_are : new ≡ old ++ take count (drop place file)
  pub inside : count ≤ length (drop place file)
  pub end : count ≡ 0 → length file ≤ place

-- a segment was read that is full, and another one follows it
pub record GoesOn (size : ℕ) (name : List ℕ) (number : ℕ) (old new : List ℕ) (files : FileMap) : Type 0 where
  pub full : IsFull size (segment_of files name number)
  pub next : IsSome (segment_of files name (number + 1))
  pub bytes_are : new ≡ old ++ bytes_of_segment files name number

-- the last segment was read
pub record HasEnded (size : ℕ) (name : List ℕ) (number : ℕ) (old new : List ℕ) (files : FileMap) : Type 0 where
  pub there : IsSome (segment_of files name number)
  pub short : length (bytes_of_segment files name number) ≤ size
  pub end : IsFull size (segment_of files name number) → segment_of files name (number + 1) ≡ None
  pub bytes_are : new ≡ old ++ bytes_of_segment files name number

-- whether another segment follows the one that was read
abbrev pub IsNextRead : Bool → ℕ → List ℕ → ℕ → List ℕ → List ℕ → FileMap → Type 0
IsNextRead true size name number old new files = GoesOn size name number old new files
IsNextRead false size name number old new files = HasEnded size name number old new files

-- ---- when it fails

-- why a segment wasn't read is why the relation wasn't
abbrev pub series_error : ReadError → SeriesError
series_error part.Memory = series.Memory
series_error part.Failed = series.Failed

-- reading of one file: a failed read raises the count of its name, and nothing else does
pub record CountsRead {T : Type 0} (name : List ℕ) (result : Result T ReadError) (old new : Outside) : Type 0 where
  pub raised : IsErrOf result part.Failed → old.read_faults name < most_faults → old.read_faults name < new.read_faults name
  pub kept : IsOk result → new.read_faults ≡ old.read_faults
  pub memory : IsErrOf result part.Memory → new.read_faults ≡ old.read_faults

-- the counts of a relation's files, which stop at 2 ^ 64 - 1, have room
abbrev pub HaveRoom : List ℕ → Outside → Type 0
HaveRoom name outside =
    (number : ℕ) → (outside.read_faults (segment_name name number) < most_faults)
    × (outside.ask_faults (segment_name name number) < most_faults)

-- a segment that is read or asked for: those before it are full
abbrev pub IsReached : ℕ → Option FileMap → List ℕ → ℕ → Type 0
IsReached size told name number = OnTold told (λ files. AreFull size files name number)

-- a segment that is read: the first, or a further one that is there
abbrev pub IsToRead : Option FileMap → List ℕ → ℕ → Type 0
IsToRead told name number = OnTold told (λ files. (number ≡ 0) ⊎ IsSome (segment_of files name number))

-- reading a segment failed
abbrev pub ReadFailed : List ℕ → Outside → Outside → Type 0
ReadFailed segment old new = old.read_faults segment < new.read_faults segment

-- asking for a segment failed
abbrev pub AskFailed : List ℕ → Outside → Outside → Type 0
AskFailed segment old new = old.ask_faults segment < new.ask_faults segment

-- one of the segments that are reached couldn't be read or asked for
pub record SomeFailed (size : ℕ) (name : List ℕ) (old new : Outside) : Type 0 where
  pub number : ℕ
  pub reached : IsReached size old.files name number
  pub failed : (IsToRead old.files name number × ReadFailed (segment_name name number) old new)
      ⊎ AskFailed (segment_name name number) old new

-- a segment that is next couldn't be read, or the one behind it, which is full, couldn't be asked for
abbrev pub NextFailed : ℕ → List ℕ → ℕ → Outside → Outside → Type 0
NextFailed size name next old new =
    ReadFailed (segment_name name next) old new
    ⊎ (OnTold old.files (λ files. IsFull size (segment_of files name next)) × AskFailed (segment_name name (next + 1)) old new)

-- Reading segments: a failure tells of a call that failed, and without one no count rose.
pub record CountsSegmentRead {T : Type 0} (Failure : Type 0) (name : List ℕ) (result : Result T SeriesError) (old new : Outside) : Type 0 where
  pub raised : IsErrOf result series.Failed → HaveRoom name old → Failure
  pub reads_kept : (IsErrOf result series.Failed → ⊥) → new.read_faults ≡ old.read_faults
  pub asks_kept : (IsErrOf result series.Failed → ⊥) → new.ask_faults ≡ old.ask_faults

-- reading a relation
abbrev pub CountsSeriesRead : {T : Type 0} → ℕ → List ℕ → Result T SeriesError → Outside → Outside → Type 0
CountsSeriesRead size name result old new = CountsSegmentRead (SomeFailed size name old new) name result old new
