use Rattle.std.proofs.Common.{◌∙◌, Bool, refl, sym, subst}
use Rattle.std.proofs.lemmas.Result.{err_from_is_err_and}
use Rattle.shared_tape.specs.declared.stored.Record.{Record}
use Rattle.run_merge.specs.Merging.{GivesInto, GivesOne}
use Rattle.build_leader.specs.Pass.{AreComing}
use Rattle.build_leader.proofs.PackerRows.{comes_first, comes_last, comes_next, comes_none, comes_to_fault, fewer_left, takes_held}
use Rattle.build_leader.proofs.btree.packing.put_rows.Goals as goal

pub rows-init : goal.rows-init
rows-init g c =
    let old = c.args.merge in
    let new = c.next_into.new.self in
    let held = c.next_into.new.row in
    let one : GivesOne old held new =
    subst (λ (given : Bool). GivesInto old new given held) c.if-not-branch.false c.in_ok-next_into.ensures.given in record {
      order = one.order;
      coming = comes_first g.P.RowPacker.has c.args.spec.now (g.P.RowPacker.kinds c.args.packer.now) old.order old.left old new
          c.args.packer.now held refl refl one c.requires.rows c.requires.fresh;
    }

pub put_before-requires : goal.put_before-requires
put_before-requires g c =
    takes_held g.P.RowPacker.has c.args.spec.now (g.P.RowPacker.kinds c.args.packer.now) c.args.merge.order c.args.merge.left
    g.P.RowPacker.takes g.met.P.RowPacker.takes_rows c.rows.merge.left c.rows.packer c.rows.held c.rows.invariant.coming

pub returns-in_err-put_before-clause-refused : goal.returns-in_err-put_before-clause-refused
returns-in_err-put_before-clause-refused g c =
    let p = err_from_is_err_and c.from_residual-in_err-put_before.result c.from_residual-in_err-put_before.ensures.1 in
    let old = c.rows.merge in
    let new = c.next_into-in-rows.new.self in
    let next = c.next_into-in-rows.new.row in
    let one : GivesOne old next new =
    subst (λ (given : Bool). GivesInto old new given next) c.if-branch.true c.in_ok-next_into-2.ensures.given in
    rw (p.1, p.2)
    (comes_to_fault g.P.RowPacker.has c.args.spec.now (g.P.RowPacker.kinds c.args.packer.now) c.args.merge.order
    c.args.merge.left old new c.rows.packer c.rows.held next c.in_err-put_before.field-0.0 c.rows.invariant.order
    c.rows.invariant.coming one c.in_err-put_before.ensures.refused)

pub rows-smaller : goal.rows-smaller
rows-smaller g c =
    let old = c.rows.merge in
    let new = c.next_into-in-rows.new.self in
    let next = c.next_into-in-rows.new.row in
    let one : GivesOne old next new =
    subst (λ (given : Bool). GivesInto old new given next) c.if-branch.true c.in_ok-next_into-2.ensures.given in
    fewer_left old new next one

pub rows-preserved : goal.rows-preserved
rows-preserved g c =
    let spec = c.args.spec.now in
    let kinds = g.P.RowPacker.kinds c.args.packer.now in
    let order = c.args.merge.order in
    let whole = c.args.merge.left in
    let old = c.rows.merge in
    let new = c.next_into-in-rows.new.self in
    let next = c.next_into-in-rows.new.row in
    let one : GivesOne old next new =
    subst (λ (given : Bool). GivesInto old new given next) c.if-branch.true c.in_ok-next_into-2.ensures.given in record {
      order = one.order ∙ c.rows.invariant.order;
      coming = subst (λ (held : Record). AreComing g.P.RowPacker.has spec kinds order whole new.left c.put_before.new.packer held)
          (sym c.swap.ensures.x_after)
          (comes_next g.P.RowPacker.has spec kinds order whole old new c.rows.packer c.put_before.new.packer c.rows.held next
          c.rows.invariant.order c.rows.invariant.coming one c.in_ok-put_before.ensures.put
          c.in_ok-put_before.ensures.apart);
    }

pub put-requires : goal.put-requires
put-requires g c =
    takes_held g.P.RowPacker.has c.args.spec.now (g.P.RowPacker.kinds c.args.packer.now) c.args.merge.order c.args.merge.left
    g.P.RowPacker.takes g.met.P.RowPacker.takes_rows c.rows.merge.left c.rows.packer c.rows.held c.rows.invariant.coming

pub returns-clause-put : goal.returns-clause-put
returns-clause-put g c =
    let spec = c.args.spec.now in
    let kinds = g.P.RowPacker.kinds c.args.packer.now in
    let old = c.rows.merge in
    let new = c.next_into-in-rows.new.self in
    let none = subst (λ (given : Bool). GivesInto old new given c.next_into-in-rows.new.row) c.if-branch.false
    c.in_ok-next_into-2.ensures.given in
    comes_last g.P.RowPacker.has spec kinds c.args.merge.order c.args.merge.left old.left c.rows.packer c.put.new.self
    c.rows.held c.rows.invariant.coming none.0 c.in_ok-put.ensures

pub returns-then-not-branch-clause-put : goal.returns-then-not-branch-clause-put
returns-then-not-branch-clause-put g c =
    let old = c.args.merge in
    let new = c.next_into.new.self in
    let none = subst (λ (given : Bool). GivesInto old new given c.next_into.new.row) c.if-not-branch.true
    c.in_ok-next_into.ensures.given in
    comes_none g.P.RowPacker.has c.args.spec.now (g.P.RowPacker.kinds c.args.packer.now) old.order old.left c.args.packer.now
    none.0 c.requires.fresh
