-- The heads of several runs, gathered one after the other.
use Rattle.std.proofs.Common.{◌≡◌, ℕ, ◌+◌, ◌<◌, ◌≤◌, Option, Some, List, [], ◌∷◌, ◌++◌, length, map, take, sym, ap, ◌∙◌, arith, slice_index_or, slice_get}
use Rattle.std.specs.List.{flat_map, slice_range}
use Rattle.std.proofs.lemmas.Option.{get_or_from_slice_get, slice_get_within}
use Rattle.std.proofs.lemmas.List.{take_more, take_all, get_or-map, length-map}
use Rattle.std.proofs.lemmas.List.Concat.{flat_map-append}
use Rattle.shared_tape.specs.Runs.{RunView, order_list}
use Rattle.shared_tape.specs.Places.{head_of}
use Rattle.run_merge.specs.declared.head.Head.{Head}
use Rattle.run_merge.specs.Heads.{left_of, run_at, no_run}
use Rattle.run_merge.specs.Pass.{records_between}
use Rattle.run_merge.proofs.Moves.{append-nil}
use Rattle.run_merge.proofs.Ranges.{range_end}

pub flat_map-push : {X Y : Type 0} (f : X → List Y) (xs : List X) (x : X)
    → flat_map f (xs ++ x ∷ []) ≡ flat_map f xs ++ f x
flat_map-push f xs x = flat_map-append f xs (x ∷ []) ∙ ap (λ l. flat_map f xs ++ l) (append-nil (f x))

-- one more of the lists
pub flat_map-more : {X Y : Type 0} (f : X → List Y) (xs : List X) (i : ℕ) (d : X) → i < length xs
    → flat_map f (take (i + 1) xs) ≡ flat_map f (take i xs) ++ f (slice_index_or xs i d)
flat_map-more f xs i d h = ap (flat_map f) (take_more xs i d h) ∙ flat_map-push f (take i xs) (slice_index_or xs i d)

pub flat_map-all : {X Y : Type 0} (f : X → List Y) (xs : List X) (i : ℕ) → length xs ≤ i
    → flat_map f (take i xs) ≡ flat_map f xs
flat_map-all f xs i h = ap (flat_map f) (take_all i xs h)

-- the run that was looked up
pub run_found : (tapes : List (List RunView)) (tape run : ℕ) (runs : List RunView) (found : RunView)
    → slice_get tapes tape ≡ Some runs → slice_get runs run ≡ Some found → run_at tapes tape run ≡ found
run_found tapes tape run runs found e f =
    ap (λ (rs : List RunView). slice_index_or rs run no_run) (get_or_from_slice_get tapes tape runs [] e)
    ∙ get_or_from_slice_get runs run found no_run f

-- no head where the range is empty
pub none_between : (tapes : List (List RunView)) (heads : List Head) (low high : Option (List ℕ)) (run : RunView)
    (a b : ℕ) → b ≤ a
    → slice_range run.records a b ≡ records_between low high run → left_of tapes heads ≡ left_of tapes heads ++
    records_between low high run
none_between tapes heads low high run a b h e =
    rw (sym e ∙ range_end run.records a b h) (sym (append-nil (left_of tapes heads)))

-- the head of the order bytes at a place
pub start_found : (tapes : List (List RunView)) (tape run at start : ℕ) (runs : List RunView) (found : RunView)
    → slice_get tapes tape ≡ Some runs → slice_get runs run ≡ Some found
    → slice_get (map head_of (order_list found)) at ≡ Some start
    → start ≡ head_of (slice_index_or (order_list (run_at tapes tape run)) at [])
start_found tapes tape run at start runs found e f s =
    let here : at < length (order_list found) = omega (
      arith,
      slice_get_within (map head_of (order_list found)) at
          start s,
      length-map (order_list found) head_of,
    ) in
    sym (get_or_from_slice_get (map head_of (order_list found)) at start 0 s)
    ∙ get_or-map head_of (order_list found) at [] 0 here
    ∙ ap (λ (r : RunView). head_of (slice_index_or (order_list r) at []))
    (sym (run_found tapes tape run runs found e f))
