use Rattle.std.proofs.Common.{◌<◌, length, sym, subst, ◌∙◌}
use Rattle.std.proofs.lemmas.Result.{on_ok_weaker}
use Rattle.opclass.specs.declared.value.KeyVal.{KeyVal}
use Rattle.spool.specs.Gathers.{AreStorableEntries}
use Rattle.build_leader.specs.declared.scan.sink.Sink.{Sink}
use Rattle.build_leader.specs.Entries.{array_of}
use Rattle.build_leader.specs.Holding.{CanTake, IsSinkOf}
use Rattle.build_leader.proofs.Sinking.{entries_take, is_array_of, ranges_take, rows_take}
use Rattle.build_leader.proofs.scan.sink.Sink.put.Goals as goal

pub put-requires : goal.put-requires
put-requires c =
    let row = c.args.row.now in
    let can : (0 < length row.keys) × AreStorableEntries (array_of row) row.ptr =
    subst (λ (sink : Sink). CanTake sink row) c.in-Entries.is c.requires in
    subst (λ (value : KeyVal). AreStorableEntries value row.ptr) (sym (is_array_of row c.get.result.now c.get.ensures)) can.1

pub returns-in-Rows-clause-took : goal.returns-in-Rows-clause-took
returns-in-Rows-clause-took c =
    on_ok_weaker c.put_copy.result
    (λ took. rows_take c.args.self.now c.in-Rows.spool c.put_copy.new.self c.args.row.now c.in-Rows.is took)
    c.put_copy.ensures.ok

pub returns-in-Entries-clause-took : goal.returns-in-Entries-clause-took
returns-in-Entries-clause-took c =
    on_ok_weaker c.put.result
    (λ took.
    entries_take c.args.self.now c.in-Entries.gather c.put.new.self c.args.row.now c.get.result.now c.in-Entries.is c.get.ensures took)
    c.put.ensures.ok

pub returns-in-Entries-clause-same : goal.returns-in-Entries-clause-same
returns-in-Entries-clause-same c = λ spec run_rows is.
    let of = subst (IsSinkOf spec run_rows) c.in-Entries.is is in
    (of.0, c.put.ensures.run_rows ∙ of.1)

pub returns-in-Ranges-clause-took : goal.returns-in-Ranges-clause-took
returns-in-Ranges-clause-took c =
    on_ok_weaker c.add.result
    (λ took. ranges_take c.args.self.now c.in-Ranges.tally c.add.new.self c.args.row.now c.in-Ranges.is took)
    c.add.ensures.held
