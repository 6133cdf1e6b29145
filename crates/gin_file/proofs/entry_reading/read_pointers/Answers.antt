use Rattle.std.proofs.Common.{rules}
use Rattle.std.proofs.lemmas.List.{take_rest}
use Rattle.gin_file.proofs.EntryItems.{list-sizes, pointers-only}
use Rattle.gin_file.proofs.entry_reading.read_pointers.Goals as goal

pub returns-in-Some-clause-only : goal.returns-in-Some-clause-only
returns-in-Some-clause-only c =
    let place = c.list_place.ensures in
    pointers-only c.args.kind c.args.bytes.now c.in-Some.list.now c.args.entry.now c.read_segment.result c.read_segment.ensures.only (search (rules, take_rest))

pub returns-in-None-clause-only : goal.returns-in-None-clause-only
returns-in-None-clause-only c = λ pointers t.
    let fits = (list-sizes c.args.kind c.args.bytes.now c.args.entry.now pointers t).place in
    let place = c.list_place.ensures in
    search rules
