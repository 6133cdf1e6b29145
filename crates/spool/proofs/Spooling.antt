-- What is spooled, as records are put and runs are put away.
use Rattle.std.proofs.Common.{◌≡◌, ℕ, ◌≤◌, List, [], ◌∷◌, ◌++◌, length, sym, ap, subst, ◌∙◌, arith, append_assoc, append-nil}
use Rattle.std.specs.List.Sorted.{IsPermutation}
use Rattle.std.proofs.lemmas.Grind.{flat_map-append}
use Rattle.std.proofs.lemmas.List.Sorted.{IsPermutation-append_right, length_permutation}
use Rattle.std.proofs.lemmas.List.Elements.{All-push}
use Rattle.opclass.specs.declared.spec.SortPart.{SortPart}
use Rattle.shared_tape.specs.declared.stored.Record.{Record}
use Rattle.shared_tape.specs.Runs.{RunView, IsRun, records_of}
use Rattle.spool.specs.Spools.{IsBoundedRun, AreBoundedRuns, spooled}

records_of-push : (full : List RunView) (run : RunView) → records_of (full ++ run ∷ []) ≡ records_of full ++ run.records
records_of-push full run =
    flat_map-append (λ (r : RunView). r.records) full (run ∷ []) ∙ ap (λ (rows : List Record). records_of full ++ rows) (append-nil run.records)

-- a run of these records was put away
pub put_away : (full all : List RunView) (current : List Record) (run : RunView) → IsPermutation current run.records → all ≡ full ++ run ∷ []
    → IsPermutation (spooled full current) (records_of all)
put_away full all current run same put =
    subst (IsPermutation (spooled full current)) (sym (ap records_of put ∙ records_of-push full run))
    (IsPermutation-append_right (records_of full) current run.records same)

-- a record was put, and the run that it made full was put away
pub put_last : (full all : List RunView) (old last run : RunView) (row : Record) → last ≡ record old { records = old.records ++ row ∷ [] }
    → IsPermutation last.records run.records → all ≡ full ++ run ∷ [] → IsPermutation (spooled full old.records ++ row ∷ []) (spooled all [])
put_last full all old last run row put same away =
    subst (IsPermutation (spooled full old.records ++ row ∷ []))
    (sym (append-nil (records_of all)))
    (subst (λ (rows : List Record). IsPermutation rows (records_of all))
    (ap (λ (r : RunView). records_of full ++ r.records) put ∙ sym (append_assoc (records_of full) old.records (row ∷ [])))
    (put_away full all last.records run same away))

pub bounded : (order : List SortPart) (most : ℕ) (current : List Record) (run : RunView) → length current ≤ most → run.order ≡ order
    → IsPermutation current run.records → IsRun run → IsBoundedRun order most run
bounded order most current run few same_order same sorted = record {
  same_order = same_order;
  few = omega (arith, few, length_permutation current run.records same);
  sorted = sorted;
}

pub bounded_more : (order : List SortPart) (most : ℕ) (full all : List RunView) (run : RunView) → AreBoundedRuns order most full → IsBoundedRun order most run
    → all ≡ full ++ run ∷ [] → AreBoundedRuns order most all
bounded_more order most full all run are is put =
    subst (AreBoundedRuns order most) (sym put) (All-push (IsBoundedRun order most) full run are is)
