use Rattle.std.proofs.Common.{sym, subst, ◌++◌, ◌∷◌, []}
use Rattle.std.specs.Prelude.{Some}
use Rattle.btree_pack.specs.Pass.Taken.{HasTaken, row_of}
use Rattle.btree_pack.specs.Pass.Written.{HasWrittenRows, IsWriting}
use Rattle.btree_pack.specs.declared.grouper.Grouper.{Grouper}
use Rattle.btree_pack.proofs.Writings.{rows-first, rows-next, spare-same, tuple-same, writing-next}
use Rattle.btree_pack.proofs.leaf_writer.put_row.Goals as goal

pub returns-in-Some-first-clause-ready : goal.returns-in-Some-first-clause-ready
returns-in-Some-first-clause-ready c =
    let mid : Grouper = c.take.new.self in
    let now : Grouper = record c.write.new.rows { spare = c.in-Some.group.values } in
    let w = c.in_ok-write.ensures in
    subst (λ l. IsWriting now l c.args.first.now) (sym w.leaves)
    (subst (IsWriting now _) (sym c.in-Some-first.is)
    (writing-next c.args.rows.now mid now c.args.leaves.now c.in-Some.group c.in-Some-first.field-0 c.in_ok-group.ensures.same c.in_ok-group.ensures.ready
    (spare-same mid c.write.new.rows c.in-Some.group.values w.rows) w.leaf (subst (IsWriting c.args.rows.now c.args.leaves.now) c.in-Some-first.is c.requires.ready)))

pub returns-in-Some-first-clause-written : goal.returns-in-Some-first-clause-written
returns-in-Some-first-clause-written c =
    λ put has.
    let mid : Grouper = c.take.new.self in
    let now : Grouper = record c.write.new.rows { spare = c.in-Some.group.values } in
    let w = c.in_ok-write.ensures in
    let taken = subst (HasTaken c.args.rows.now mid (row_of c.args.row.now)) c.in-Some.is c.in_ok-group.ensures.taken in
    let rows = put ++ row_of c.args.row.now ∷ [] in
    subst (λ l. HasWrittenRows rows now l c.args.first.now) (sym w.leaves)
    (subst (HasWrittenRows rows now _) (sym c.in-Some-first.is)
    (rows-next c.args.rows.now mid now (row_of c.args.row.now) c.in-Some.group c.in-Some-first.field-0 c.args.leaves.now c.in_ok-group.ensures.same taken
    (spare-same mid c.write.new.rows c.in-Some.group.values w.rows) put (subst (HasWrittenRows put c.args.rows.now c.args.leaves.now) c.in-Some-first.is has)))

pub returns-clause-written : goal.returns-clause-written
returns-clause-written c =
    λ put has.
    let mid : Grouper = c.take.new.self in
    let now : Grouper = c.write.new.rows in
    let w = c.in_ok-write.ensures in
    let taken = subst (HasTaken c.args.rows.now mid (row_of c.args.row.now)) c.in-Some.is c.in_ok-group.ensures.taken in
    let rows = put ++ row_of c.args.row.now ∷ [] in
    subst (λ l. HasWrittenRows rows now l (Some c.in-Some.group)) (sym w.leaves)
    (rows-first c.args.rows.now mid now (row_of c.args.row.now) c.in-Some.group c.args.leaves.now c.in_ok-group.ensures.same taken
    (tuple-same mid now w.rows) put (subst (HasWrittenRows put c.args.rows.now c.args.leaves.now) c.in_default-first.is has))
