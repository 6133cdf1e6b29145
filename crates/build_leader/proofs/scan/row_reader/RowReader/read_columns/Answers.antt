use Rattle.std.proofs.Common.{◌<◌, ℕ, Bool, List, All, length, slice_get, sym, subst, arith}
use Rattle.std.specs.Prelude.{IfSome}
use Rattle.std.proofs.lemmas.Result.{IfOk-weaker}
use Rattle.opclass.specs.Norm.{IsKeyValue}
use Rattle.build_leader.specs.Reader.{AreAt, AreNeededOrLeft}
use Rattle.build_leader.proofs.Reading.{are_inside, are_keys, as_they_stand, inside_of, its_place, one_place, picked_out}
use Rattle.build_leader.proofs.scan.row_reader.RowReader.read_columns.Goals as goal

pub returns-then-self-clause-values : goal.returns-then-self-clause-values
returns-then-self-clause-values c =
    let reader = c.args.self.now in
    let of = inside_of reader c.self.inside c.self.invariant c.self.view_is in
    IfOk-weaker c.read_needed.result _ _
    (λ (kept : Bool). as_they_stand reader c.self.inside of c.args.view.now.bytes c.args.item kept c.read_needed.new.values c.if-self.true)
    c.read_needed.ensures.values

pub copy_values-requires : goal.copy_values-requires
copy_values-requires c =
    let reader = c.args.self.now in
    let of = inside_of reader c.self.inside c.self.invariant c.self.view_is in
    let values = c.read_needed-2.new.values in
    let here = subst (λ (kept : Bool). AreNeededOrLeft reader.table reader.spec c.args.view.now.bytes c.args.item kept values)
    c.if-not-branch.false c.in_ok-read_needed.ensures.values in
    record {
      inside =
          subst (λ (places : List ℕ). All (λ place. place < length values) places) (sym c.deref.ensures.value)
          (are_inside reader c.self.inside of c.args.view.now.bytes c.args.item values here);
      keys =
          subst (λ (places : List ℕ). All (λ place. IfSome (slice_get values place) IsKeyValue) places) (sym c.deref.ensures.value)
          (are_keys reader c.self.inside of c.args.view.now.bytes c.args.item values here (c.takes_arrays.ensures.keys c.if-takes_arrays.false reader.spec c.requires.suits));
    }

pub index-requires : goal.index-requires
index-requires c =
    let reader = c.args.self.now in
    let of = inside_of reader c.self.inside c.self.invariant c.self.view_is in
    let gin = c.takes_arrays.ensures.arrays c.if-takes_arrays.true reader.spec c.requires.suits in
    omega (arith, one_place reader c.self.inside of gin)

pub move_value-requires : goal.move_value-requires
move_value-requires c =
    let reader = c.args.self.now in
    let of = inside_of reader c.self.inside c.self.invariant c.self.view_is in
    let values = c.read_needed-2.new.values in
    let here = subst (λ (kept : Bool). AreNeededOrLeft reader.table reader.spec c.args.view.now.bytes c.args.item kept values)
    c.if-not-branch.false c.in_ok-read_needed.ensures.values in
    let gin = c.takes_arrays.ensures.arrays c.if-takes_arrays.true reader.spec c.requires.suits in
    let one = one_place reader c.self.inside of gin in
    let inside = are_inside reader c.self.inside of c.args.view.now.bytes c.args.item values here 0 c.index.result.now (omega (arith, one)) in
    omega (arith, inside, c.index.ensures)

pub returns-in_ok-move_value-clause-values : goal.returns-in_ok-move_value-clause-values
returns-in_ok-move_value-clause-values c =
    let reader = c.args.self.now in
    let of = inside_of reader c.self.inside c.self.invariant c.self.view_is in
    let values = c.read_needed-2.new.values in
    let here = subst (λ (kept : Bool). AreNeededOrLeft reader.table reader.spec c.args.view.now.bytes c.args.item kept values)
    c.if-not-branch.false c.in_ok-read_needed.ensures.values in
    let gin = c.takes_arrays.ensures.arrays c.if-takes_arrays.true reader.spec c.requires.suits in
    let places = its_place reader c.self.inside of gin c.index.result.now c.index.ensures in
    picked_out reader c.self.inside of c.args.view.now.bytes c.args.item values here c.move_value.new.picked
    (subst (λ (places : List ℕ). AreAt values places c.move_value.new.picked) places c.in_ok-move_value.ensures)

pub returns-in_ok-copy_values-clause-values : goal.returns-in_ok-copy_values-clause-values
returns-in_ok-copy_values-clause-values c =
    let reader = c.args.self.now in
    let of = inside_of reader c.self.inside c.self.invariant c.self.view_is in
    let values = c.read_needed-2.new.values in
    let here = subst (λ (kept : Bool). AreNeededOrLeft reader.table reader.spec c.args.view.now.bytes c.args.item kept values)
    c.if-not-branch.false c.in_ok-read_needed.ensures.values in
    picked_out reader c.self.inside of c.args.view.now.bytes c.args.item values here c.copy_values.new.picked
    (subst (λ (places : List ℕ). AreAt values places c.copy_values.new.picked) c.deref.ensures.value c.in_ok-copy_values.ensures)
