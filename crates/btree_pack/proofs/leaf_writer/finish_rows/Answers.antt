use Rattle.std.proofs.Common.{false, sym, ap, ◌∙◌, subst, ◌++◌, ◌∷◌, []}
use Rattle.std.specs.Prelude.{IfSome, Some, None}
use Rattle.btree_pack.specs.Pass.Run.{AreLeavesOf, IsRun}
use Rattle.btree_pack.specs.Pass.Taken.{HasTakenLast, IsDone}
use Rattle.btree_pack.specs.Pass.Written.{HasWritten, leaf_done}
use Rattle.btree_pack.specs.declared.grouper.Grouper.{Grouper}
use Rattle.btree_pack.proofs.Writings.{all-more, all-none, all-one, run-next, run-same}
use Rattle.btree_pack.proofs.leaf_writer.finish_rows.Goals as goal

pub returns-in_default : goal.returns-in_default
returns-in_default c =
    λ spec kinds put has.
    subst (AreLeavesOf spec kinds put) (sym c.run_of.ensures)
    (all-none spec kinds put c.args.rows c.take_last.new.self c.args.leaves c.args.first c.in_ok-group.ensures.same
    (subst (HasTakenLast c.args.rows c.take_last.new.self) c.in_default.is c.in_ok-group.ensures.taken) has)

pub run_of-requires-in-Some-first : goal.run_of-requires-in-Some-first
run_of-requires-in-Some-first c =
    let old : Grouper = c.args.rows in
    let mid : Grouper = c.take_last.new.self in
    let now : Grouper = c.write.new.rows in
    let w = c.in_ok-write.ensures in
    let e = c.in_ok-group.ensures in
    let done : IsDone mid c.in-Some.group = subst (λ o. IfSome o (IsDone mid)) c.in-Some.is e.done in
    let run = subst (λ o. IsRun (record { kinds = old.kinds; keys = old.keys; leaves = c.args.leaves; first = o; last = None })) c.in-Some-first.is c.requires.run in
    subst (λ l. IsRun (record { kinds = now.kinds; keys = now.keys; leaves = l; first = Some c.in-Some-first.first; last = Some c.in-Some.group })) (sym w.leaves)
    (run-same mid now _ (Some c.in-Some-first.first) (Some c.in-Some.group) (ap (λ (s : Grouper). s.kinds) w.rows) (ap (λ (s : Grouper). s.keys) w.rows)
    (run-next mid.kinds mid.keys c.args.leaves (leaf_done mid c.in-Some.group) c.in-Some-first.first (Some c.in-Some.group)
    (run-same old mid c.args.leaves (Some c.in-Some-first.first) None e.same.kinds e.same.keys run) w.leaf done.is))

pub returns-in-None : goal.returns-in-None
returns-in-None c =
    λ spec kinds put has.
    let old : Grouper = c.args.rows in
    let mid : Grouper = c.take_last.new.self in
    let w = c.in_ok-write.ensures in
    let e = c.in_ok-group.ensures in
    let taken = subst (HasTakenLast old mid) c.in-Some.is e.taken in
    let first = Some c.in-Some.group in
    subst (AreLeavesOf spec kinds put) (sym (c.run_of-in-None.ensures
    ∙ ap (λ l. record { kinds = c.write.new.rows.kinds; keys = c.write.new.rows.keys; leaves = l; first = first; last = None }) w.leaves
    ∙ ap (λ (s : Grouper). record { kinds = s.kinds; keys = s.keys; leaves = c.args.leaves ++ leaf_done mid c.in-Some.group ∷ []; first = first; last = None }) w.rows))
    (all-one spec kinds put old mid c.args.leaves c.in-Some.group e.same taken
    (subst (λ o. HasWritten spec kinds put (record { rows = old; leaves = c.args.leaves; first = o; spent = false })) c.in-None.is has))

pub returns-in-Some-first : goal.returns-in-Some-first
returns-in-Some-first c =
    λ spec kinds put has.
    let old : Grouper = c.args.rows in
    let mid : Grouper = c.take_last.new.self in
    let w = c.in_ok-write.ensures in
    let e = c.in_ok-group.ensures in
    let taken = subst (HasTakenLast old mid) c.in-Some.is e.taken in
    let first = Some c.in-Some-first.first in
    let last = Some c.in-Some.group in
    subst (AreLeavesOf spec kinds put) (sym (c.run_of-in-Some-first.ensures
    ∙ ap (λ l. record { kinds = c.write.new.rows.kinds; keys = c.write.new.rows.keys; leaves = l; first = first; last = last }) w.leaves
    ∙ ap (λ (s : Grouper). record { kinds = s.kinds; keys = s.keys; leaves = c.args.leaves ++ leaf_done mid c.in-Some.group ∷ []; first = first; last = last }) w.rows))
    (all-more spec kinds put old mid c.args.leaves c.in-Some.group c.in-Some-first.first e.same taken
    (subst (λ o. HasWritten spec kinds put (record { rows = old; leaves = c.args.leaves; first = o; spent = false })) c.in-Some-first.is has))
