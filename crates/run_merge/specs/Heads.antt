-- What a merge keeps on its way: a head for each run that has records left, and the heads as a binary heap
-- (tuplesort_heap_replace_top of tuplesort.c).
use Rattle.std.specs.Prelude.{◌≡◌, ℕ, ◌<◌, ◌≤◌, Bool, List, [], length, All, slice_index_or}
use Rattle.std.specs.List.{flat_map, slice_range}
use Rattle.std.specs.Ordering.{is_lt}
use Rattle.std.specs.Slice.Heapsort.{IsHeapWithin}
use Rattle.opclass.specs.Order.{bytes_cmp}
use Rattle.shared_tape.specs.declared.stored.Record.{Record}
use Rattle.shared_tape.specs.Places.{head_of}
use Rattle.shared_tape.specs.Runs.{RunView, IsRun, order_list}
use Rattle.run_merge.specs.declared.head.Head.{Head}

-- a run that isn't there
abbrev pub no_run : RunView
no_run = record { order = []; records = [] }

-- the run at a place of the tapes
abbrev pub run_at : List (List RunView) → ℕ → ℕ → RunView
run_at tapes tape run = slice_index_or (slice_index_or tapes tape []) run no_run

-- the run of a head
abbrev pub run_of : List (List RunView) → Head → RunView
run_of tapes head = run_at tapes head.tape head.run

-- the order bytes of the record at a head
abbrev pub bytes_at : List (List RunView) → Head → List ℕ
bytes_at tapes head = slice_index_or (order_list (run_of tapes head)) head.at []

-- the records that a head has left
abbrev pub left_at : List (List RunView) → Head → List Record
left_at tapes head = slice_range (run_of tapes head).records head.at head.end

-- the records that several heads have left, one head after the other
abbrev pub left_of : List (List RunView) → List Head → List Record
left_of tapes heads = flat_map (left_at tapes) heads

-- a head stands at a record of a run
pub record IsHead (tapes : List (List RunView)) (head : Head) : Type 0 where
  pub tape : head.tape < length tapes
  pub run : head.run < length (slice_index_or tapes head.tape [])
  pub sound : IsRun (run_of tapes head)
  pub some : head.at < head.end
  pub within : head.end ≤ length (run_of tapes head).records
  pub start : head.start ≡ head_of (bytes_at tapes head)

-- the second of two heads has a record below that of the first
abbrev pub is_behind : List (List RunView) → Head → Head → Bool
is_behind tapes a b = is_lt (bytes_cmp (bytes_at tapes b) (bytes_at tapes a))

-- no head from a place on is behind one of its two children
abbrev pub IsHeapFrom : List (List RunView) → List Head → ℕ → Type 0
IsHeapFrom tapes heads from = IsHeapWithin (is_behind tapes) heads from (length heads)

-- heads of these tapes, as a heap
pub record AreHeads (tapes : List (List RunView)) (heads : List Head) : Type 0 where
  pub each : All (IsHead tapes) heads
  pub heap : IsHeapFrom tapes heads 0
