use Rattle.std.proofs.Common.{Bool, List, length, ap, sym, subst, ◌∙◌, arith}
use Rattle.std.specs.List.{AllZip}
use Rattle.std.proofs.lemmas.Result.{err_from_is_err_and}
use Rattle.opclass.specs.declared.types.ColType.{ColType}
use Rattle.opclass.specs.declared.spec.IndexSpec.{IndexSpec}
use Rattle.opclass.specs.Values.{IsValueOf}
use Rattle.build_leader.specs.declared.scan.width.WidthCause.{WidthCause}
use Rattle.build_leader.specs.IndexRow.{AreTooWide, index_kinds}
use Rattle.build_leader.specs.Reader.{AreReadOrLeft, IsWidthFault}
use Rattle.build_leader.proofs.PickedValues.{all_moved, split}
use Rattle.build_leader.proofs.Reading.{inside_of, is_record, picked_count, picked_is_sound, picked_typed, short, size_fits, too_wide}
use Rattle.build_leader.proofs.scan.row_reader.RowReader.read.Goals as goal

pub check_width-requires-clause-size : goal.check_width-requires-clause-size
check_width-requires-clause-size c =
    let t = c.args.self.now.table in
    let s = c.args.self.now.spec in
    let of = inside_of c.args.self.now c.self.inside c.self.invariant c.self.view_is in
    let picked = c.read_columns.new.picked in
    let read = subst (λ (kept : Bool). AreReadOrLeft t s c.args.view.now.bytes c.args.item kept picked)
    c.if-not-branch.false c.in_ok-read_columns.ensures.values in
    size_fits t s c.args.view.now.bytes c.args.item of.index picked read c.self.inside.kinds

pub check_width-requires-clause-typed : goal.check_width-requires-clause-typed
check_width-requires-clause-typed c =
    let t = c.args.self.now.table in
    let s = c.args.self.now.spec in
    let of = inside_of c.args.self.now c.self.inside c.self.invariant c.self.view_is in
    let picked = c.read_columns.new.picked in
    let read = subst (λ (kept : Bool). AreReadOrLeft t s c.args.view.now.bytes c.args.item kept picked)
    c.if-not-branch.false c.in_ok-read_columns.ensures.values in
    subst (λ (kinds : List ColType). AllZip IsValueOf kinds picked) (sym of.kinds)
    (picked_typed t s c.args.view.now.bytes c.args.item of.index picked read)

pub check_width-requires-clause-short : goal.check_width-requires-clause-short
check_width-requires-clause-short c =
    let t = c.args.self.now.table in
    let s = c.args.self.now.spec in
    let of = inside_of c.args.self.now c.self.inside c.self.invariant c.self.view_is in
    let picked = c.read_columns.new.picked in
    let read = subst (λ (kept : Bool). AreReadOrLeft t s c.args.view.now.bytes c.args.item kept picked)
    c.if-not-branch.false c.in_ok-read_columns.ensures.values in
    short t s c.args.view.now.bytes c.args.item of.index picked read

pub returns-in_err-check_width-clause-refused : goal.returns-in_err-check_width-clause-refused
returns-in_err-check_width-clause-refused c =
    let t = c.args.self.now.table in
    let s = c.args.self.now.spec in
    let of = inside_of c.args.self.now c.self.inside c.self.invariant c.self.view_is in
    let picked = c.read_columns.new.picked in
    let read = subst (λ (kept : Bool). AreReadOrLeft t s c.args.view.now.bytes c.args.item kept picked)
    c.if-not-branch.false c.in_ok-read_columns.ensures.values in
    let p = err_from_is_err_and c.from_residual-in_err-check_width.result c.from_residual-in_err-check_width.ensures.1 in
    let fault = c.in_err-check_width.field-0.0 in
    let wide : IsWidthFault s (index_kinds t s) picked fault =
    subst (λ (kinds : List ColType). IsWidthFault s kinds picked fault) of.kinds
    (c.in_err-check_width.ensures.refused s c.requires.suits) in
    rw (p.1, p.2) (too_wide t s c.args.view.now.bytes c.args.item of.index picked read c.requires.live fault wide)

pub move_last-requires-2 : goal.move_last-requires-2
move_last-requires-2 c =
    let t = c.args.self.now.table in
    let s = c.args.self.now.spec in
    let of = inside_of c.args.self.now c.self.inside c.self.invariant c.self.view_is in
    let picked = c.read_columns.new.picked in
    let read = subst (λ (kept : Bool). AreReadOrLeft t s c.args.view.now.bytes c.args.item kept picked)
    c.if-not-branch.false c.in_ok-read_columns.ensures.values in
    let all = picked_count t s c.args.view.now.bytes c.args.item of.index picked read in
    let count = c.len-includes.ensures ∙ ap (λ (spec : IndexSpec). length spec.includes) of.spec in
    omega arith

pub returns-clause-sound : goal.returns-clause-sound
returns-clause-sound c =
    let t = c.args.self.now.table in
    let s = c.args.self.now.spec in
    let of = inside_of c.args.self.now c.self.inside c.self.invariant c.self.view_is in
    let picked = c.read_columns.new.picked in
    let read = subst (λ (kept : Bool). AreReadOrLeft t s c.args.view.now.bytes c.args.item kept picked)
    c.if-not-branch.false c.in_ok-read_columns.ensures.values in
    let narrow = subst (λ (kinds : List ColType). (cause : WidthCause) → AreTooWide cause s kinds picked → ⊥) of.kinds
    (c.in_ok-check_width.ensures.narrow s c.requires.suits) in
    picked_is_sound t s c.args.view.now.bytes c.args.item of.index picked read narrow

pub returns-clause-record : goal.returns-clause-record
returns-clause-record c =
    let t = c.args.self.now.table in
    let s = c.args.self.now.spec in
    let of = inside_of c.args.self.now c.self.inside c.self.invariant c.self.view_is in
    let picked = c.read_columns.new.picked in
    let read = subst (λ (kept : Bool). AreReadOrLeft t s c.args.view.now.bytes c.args.item kept picked)
    c.if-not-branch.false c.in_ok-read_columns.ensures.values in
    let all = picked_count t s c.args.view.now.bytes c.args.item of.index picked read in
    let count = c.len-includes.ensures ∙ ap (λ (spec : IndexSpec). length spec.includes) of.spec in
    let none = all_moved c.args.slot.now.record.extra c.move_last.new.from c.len-extra.result c.len-extra.ensures c.in_ok-move_last.ensures.left in
    let parts = split picked c.move_last-2.new.from c.move_last.new.from c.move_last-2.new.to c.len-includes.result (omega arith) none
    c.in_ok-move_last-2.ensures.left c.in_ok-move_last-2.ensures.moved in
    is_record t s c.args.view.now.bytes c.args.item of.index picked read c.move_last-2.new.from c.move_last-2.new.to c.args.ptr
    parts.0 (parts.1 ∙ count) (omega arith, omega arith)
