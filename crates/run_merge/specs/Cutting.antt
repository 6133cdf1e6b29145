-- Cuts of the whole order into parts that are merged apart from each other. Own rules: tuplesort.c merges on one
-- process.
use Rattle.std.specs.Prelude.{◌≡◌, ℕ, zero, suc, ◌+◌, ◌*◌, ◌/◌, ◌<◌, Bool, true, ◌&&◌, not, Option, Some, None, List, [], length, map, slice_get, slice_index_or, filter}
use Rattle.std.specs.List.{flat_map, filter_map, range_with_len}
use Rattle.std.specs.List.Sorted.{IsSorted, IsPermutation}
use Rattle.std.specs.Ordering.{is_lt}
use Rattle.opclass.specs.declared.spec.SortPart.{SortPart}
use Rattle.opclass.specs.Order.{bytes_cmp}
use Rattle.opclass.specs.Norm.{norm_of}
use Rattle.shared_tape.specs.declared.stored.Record.{Record}
use Rattle.shared_tape.specs.Stored.{order_bytes}
use Rattle.shared_tape.specs.Runs.{RunView}

-- of how many records of a run one is a sample
abbrev pub STRIDE : ℕ
STRIDE = 64

-- the normalised keys of a run's records, with which their order bytes begin
abbrev pub key_list : RunView → List (List ℕ)
key_list run = map (λ row. norm_of run.order row.keys) run.records

-- The samples of a run: of the bytes that its records have, those at the places 0, 64, 128 and so on. The bytes are
-- `order_list`, so that a part may begin at any record, or `key_list`: then a cut has no row pointer, and parts no
-- records with equal keys.
abbrev pub samples_of : (RunView → List (List ℕ)) → RunView → List (List ℕ)
samples_of bytes run =
    filter_map (λ number. slice_get (bytes run) (number * STRIDE)) (range_with_len 0 (length (bytes run)))

-- the samples of a tape
abbrev pub tape_samples : (RunView → List (List ℕ)) → List RunView → List (List ℕ)
tape_samples bytes tape = flat_map (samples_of bytes) tape

-- the samples of all runs
abbrev pub all_samples : (RunView → List (List ℕ)) → List (List RunView) → List (List ℕ)
all_samples bytes tapes = flat_map (tape_samples bytes) tapes

-- the cut with a number, counted from 1, of so many parts: the sample at its share of the samples, or nothing where
-- there are none
abbrev pub cut_at : List (List ℕ) → ℕ → ℕ → List ℕ
cut_at samples parts number = slice_index_or samples (number * length samples / parts) []

-- one cut less than there are parts, at equal shares of samples in order
pub record AreAtShares (samples : List (List ℕ)) (parts : ℕ) (cuts : List (List ℕ)) : Type 0 where
  pub count : length cuts + 1 ≡ parts
  pub each : (number : ℕ) → number < length cuts → slice_get cuts number ≡ Some (cut_at samples parts (number + 1))

-- the cuts of tapes into parts, of samples with these bytes: of the samples in order, those at equal shares
pub record AreCuts (bytes : RunView → List (List ℕ)) (tapes : List (List RunView)) (parts : ℕ)
    (cuts : List (List ℕ)) : Type 0 where
  pub samples : List (List ℕ)
  pub same : IsPermutation (all_samples bytes tapes) samples
  pub ascending : IsSorted bytes_cmp samples
  pub shares : AreAtShares samples parts cuts

-- bytes that aren't below a cut, if there is one
abbrev pub is_from : Option (List ℕ) → List ℕ → Bool
is_from None bytes = true
is_from (Some cut) bytes = not (is_lt (bytes_cmp bytes cut))

-- bytes that are below a cut, if there is one
abbrev pub is_below : Option (List ℕ) → List ℕ → Bool
is_below None bytes = true
is_below (Some cut) bytes = is_lt (bytes_cmp bytes cut)

-- the cut at which a part begins: the first part has none
abbrev pub cut_before : List (List ℕ) → ℕ → Option (List ℕ)
cut_before cuts zero = None
cut_before cuts (suc part) = slice_get cuts part

-- the cut before which a part ends: the last part has none
abbrev pub cut_behind : List (List ℕ) → ℕ → Option (List ℕ)
cut_behind cuts part = slice_get cuts part

-- a record from one cut on and below another
abbrev pub is_between : List SortPart → Option (List ℕ) → Option (List ℕ) → Record → Bool
is_between order low high row = is_from low (order_bytes order row) && is_below high (order_bytes order row)

-- a record of a part, counted from 0
abbrev pub is_in_part : List SortPart → List (List ℕ) → ℕ → Record → Bool
is_in_part order cuts part row = is_between order (cut_before cuts part) (cut_behind cuts part) row

-- the records of a part
abbrev pub part_of : List SortPart → List (List ℕ) → ℕ → List Record → List Record
part_of order cuts part records = filter (is_in_part order cuts part) records
