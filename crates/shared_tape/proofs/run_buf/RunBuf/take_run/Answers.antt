use Rattle.std.proofs.Common.{◌≡◌, ◌<◌, ◌∙◌, List, length, ap, arith, subst, sym}
use Rattle.std.proofs.lemmas.List.{length-map}
use Rattle.opclass.specs.declared.spec.SortPart.{SortPart}
use Rattle.shared_tape.specs.declared.place.Place.{Place}
use Rattle.shared_tape.specs.Places.{starts_of}
use Rattle.shared_tape.specs.Reading.{record_at}
use Rattle.shared_tape.specs.Runs.{IsRun, RunView}
use Rattle.shared_tape.proofs.RunSteps.{run_view, sound_is_run}
use Rattle.shared_tape.proofs.run_buf.RunBuf.take_run.Goals as goal

-- a record was put, so the order is ready
same_order : (c : goal.After-of) → c.replace-ready.result.order ≡ c.self.inside.order
same_order c =
    let some : 0 < length c.self.inside.places.items =
    omega (
      arith,
      c.requires,
      ap (λ (v : RunView). length v.records) c.self.view_is,
      length-map (starts_of c.self.inside.places.items) (record_at c.self.inside.order c.self.inside.bytes.items),
      length-map c.self.inside.places.items (λ (p : Place). p.start),
    ) in
    ap (λ r. r.order) c.replace-ready.ensures.value ∙ c.self.invariant.ready some

run_is : (c : goal.After-of)
    → c.of.result ≡ run_view c.self.inside.order c.lay_sorted.new.laid.bytes.items c.lay_sorted.new.laid.starts.items 0
run_is c =
    c.of.ensures
    ∙ ap (λ (o : List SortPart). run_view o c.lay_sorted.new.laid.bytes.items c.lay_sorted.new.laid.starts.items 0) (same_order c)

pub returns-clause-order : goal.returns-clause-order
returns-clause-order c = ap (λ (v : RunView). v.order) (run_is c) ∙ ap (λ (v : RunView). v.order) c.self.view_is

pub returns-clause-records : goal.returns-clause-records
returns-clause-records c = rw (run_is c, ← c.self.view_is) (rw c.deref.ensures.value at c.lay_sorted.ensures.records)

pub returns-clause-run : goal.returns-clause-run
returns-clause-run c = subst IsRun (sym (run_is c)) (sound_is_run _ _ _ 0 c.lay_sorted.ensures.run)
