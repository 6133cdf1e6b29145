use Rattle.std.proofs.lemmas.Result.{IfErr-weaker, on_ok_weaker}
use Rattle.build_leader.specs.Reader.{IsEntryFault, IsTupleFault}
use Rattle.build_leader.proofs.Sinking.{entries_fit, entry_too_wide, ranges_fit, tuple_fits, tuple_too_wide}
use Rattle.build_leader.proofs.scan.sink.Sink.check_width.Goals as goal

pub returns-in-Rows-clause-refused : goal.returns-in-Rows-clause-refused
returns-in-Rows-clause-refused c =
    let kinds = c.args.kinds.now in
    let values = c.args.values.now in
    IfErr-weaker c.check_tuple.result (IsTupleFault kinds values) _
    (tuple_too_wide kinds values c.args.self.now c.in-Rows.field-0 c.in-Rows.is) c.check_tuple.ensures.refused

pub returns-in-Rows-clause-narrow : goal.returns-in-Rows-clause-narrow
returns-in-Rows-clause-narrow c =
    on_ok_weaker c.check_tuple.result
    (tuple_fits c.args.kinds.now c.args.values.now c.args.self.now c.in-Rows.field-0 c.in-Rows.is)
    c.check_tuple.ensures.narrow

pub returns-in-Entries-clause-refused : goal.returns-in-Entries-clause-refused
returns-in-Entries-clause-refused c =
    let kinds = c.args.kinds.now in
    let values = c.args.values.now in
    IfErr-weaker c.check_entries.result (IsEntryFault kinds values) _
    (entry_too_wide kinds values c.args.self.now c.in-Entries.field-0 c.in-Entries.is) c.check_entries.ensures.refused

pub returns-in-Entries-clause-narrow : goal.returns-in-Entries-clause-narrow
returns-in-Entries-clause-narrow c =
    on_ok_weaker c.check_entries.result
    (entries_fit c.args.kinds.now c.args.values.now c.args.self.now c.in-Entries.field-0 c.in-Entries.is)
    c.check_entries.ensures.narrow

pub returns-in-Ranges-clause-narrow : goal.returns-in-Ranges-clause-narrow
returns-in-Ranges-clause-narrow c =
    ranges_fit c.args.kinds.now c.args.values.now c.args.self.now c.in-Ranges.field-0 c.in-Ranges.is
