use Rattle.std.proofs.lemmas.Result.{err_from_is_err_and}
use Rattle.build_leader.proofs.Reading.{inside_of, needed_are, needed_or_left, unread}
use Rattle.build_leader.proofs.scan.row_reader.RowReader.read_needed.Goals as goal

pub read_values_into-requires-clause-needed : goal.read_values_into-requires-clause-needed
read_values_into-requires-clause-needed c =
    needed_are c.args.self.now c.self.inside (inside_of c.args.self.now c.self.inside c.self.invariant c.self.view_is)

pub returns-in_err-read_values_into-clause-refused : goal.returns-in_err-read_values_into-clause-refused
returns-in_err-read_values_into-clause-refused c =
    let p = err_from_is_err_and c.from_residual.result c.from_residual.ensures.1 in
    rw (p.1, p.2)
    (unread c.args.self.now c.self.inside (inside_of c.args.self.now c.self.inside c.self.invariant c.self.view_is)
    c.args.view.now.bytes c.args.item c.in_err-read_values_into.field-0.0 c.requires.live c.in_err-read_values_into.ensures.fault)

pub returns-clause-values : goal.returns-clause-values
returns-clause-values c =
    needed_or_left c.args.self.now c.self.inside (inside_of c.args.self.now c.self.inside c.self.invariant c.self.view_is)
    c.args.view.now.bytes c.args.item c.read_values_into.new.values c.keeps.result c.requires.size
    c.in_ok-read_values_into.ensures.values c.in_ok-read_values_into.ensures.typed c.keeps.ensures
