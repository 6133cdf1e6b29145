use Rattle.std.proofs.Common.{◌+◌, ◌<◌, ℕ, Bool, true, false, length, sym, subst, arith, take}
use Rattle.std.proofs.lemmas.Result.{err_from_is_err_and}
use Rattle.build_leader.specs.Scanning.{TakesRow, TakesRows}
use Rattle.build_leader.proofs.HeldRows.{stays_both, stays_suited}
use Rattle.build_leader.proofs.PageRows.{page_error, sound_more, takes_more}
use Rattle.build_leader.proofs.scan.block.add_rows.Goals as goal
use Rattle.build_leader.proofs.scan.block.add_rows.Goals.{then-branch, else-branch}

pub returns-in_err-add_row-clause-refused : goal.returns-in_err-add_row-clause-refused
returns-in_err-add_row-clause-refused c =
    let p = err_from_is_err_and c.from_residual.result c.from_residual.ensures.1 in
    let inside : c.loop-i.i < length c.args.roots.now = omega arith in
    rw (p.1, p.2)
    (page_error c.args.reader.now.table c.args.reader.now.spec c.args.view.now.bytes c.args.roots.now c.loop-i.i c.item.result
    c.in_err-add_row.field-0.0 c.requires.sound c.requires.chains c.requires.rows inside c.item.ensures
    c.loop-i.invariant.sound c.in_err-add_row.ensures.refused)

pub loop-i-preserved : goal.loop-i-preserved
loop-i-preserved c =
    let t = c.args.reader.now.table in
    let s = c.args.reader.now.spec in
    let page = c.args.view.now.bytes in
    let old = c.args.sink.now in
    let mid = c.loop-i.sink in
    let new = c.add_row.new.sink in
    let inside : c.loop-i.i < length c.args.roots.now = omega arith in
    record {
      same = stays_both old mid new c.loop-i.invariant.same c.add_row.ensures.same;
      taken = elim c.if-branch.branch [
        | then-branch w ↦
            subst (λ (n : ℕ). TakesRows t s page c.args.block (take (c.loop-i.i + 1) c.args.roots.now) old n new) (sym w.count-is)
            (takes_more t s page c.args.block c.args.roots.now c.loop-i.i c.item.result c.root.result old mid new c.loop-i.count true inside
            c.item.ensures c.root.ensures c.loop-i.invariant.taken
            (subst (λ (put : Bool). TakesRow t s page c.args.block (record { item = c.item.result; root = c.root.result }) mid put new) w.if-branch.true c.in_ok-add_row.ensures.row))
        | else-branch w ↦
            subst (λ (n : ℕ). TakesRows t s page c.args.block (take (c.loop-i.i + 1) c.args.roots.now) old n new) (sym w.count-is)
            (takes_more t s page c.args.block c.args.roots.now c.loop-i.i c.item.result c.root.result old mid new c.loop-i.count false inside
            c.item.ensures c.root.ensures c.loop-i.invariant.taken
            (subst (λ (put : Bool). TakesRow t s page c.args.block (record { item = c.item.result; root = c.root.result }) mid put new) w.if-branch.false c.in_ok-add_row.ensures.row))
      ];
      sound = sound_more t s page c.args.roots.now c.loop-i.i c.item.result inside c.item.ensures c.loop-i.invariant.sound c.in_ok-add_row.ensures.sound;
      few = elim c.if-branch.branch [
        | then-branch w ↦ let few = c.loop-i.invariant.few in omega (arith, w.count-is, few)
        | else-branch w ↦ let few = c.loop-i.invariant.few in omega (arith, w.count-is, few)
      ];
    }

pub add_row-requires-clause-suits : goal.add_row-requires-clause-suits
add_row-requires-clause-suits c =
    stays_suited c.args.reader.now.spec c.args.sink.now c.loop-i.sink c.loop-i.invariant.same c.requires.suits

pub returns-in_err-add_row-clause-same : goal.returns-in_err-add_row-clause-same
returns-in_err-add_row-clause-same c =
    stays_both c.args.sink.now c.loop-i.sink c.add_row.new.sink c.loop-i.invariant.same c.add_row.ensures.same
