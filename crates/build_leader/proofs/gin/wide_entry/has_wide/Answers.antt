use Rattle.std.proofs.Common.{◌≤◌, subst, All}
use Rattle.std.proofs.lemmas.List.{take_all}
use Rattle.std.proofs.lemmas.List.Elements.{All-more}
use Rattle.opclass.specs.declared.value.Elem.{Elem}
use Rattle.gin_entry.specs.Entries.{entry_of}
use Rattle.gin_entry.specs.EntrySize.{entry_size}
use Rattle.gin_file.specs.EntryTuple.{most_size}
use Rattle.build_leader.proofs.WideEntries.{all_small, small_element}
use Rattle.build_leader.proofs.gin.wide_entry.has_wide.Goals as goal

pub loop-element-preserved : goal.loop-element-preserved
loop-element-preserved c =
    let kind = c.args.kind in
    let Small = λ (element : Elem). entry_size kind (entry_of element) ≤ most_size in
    let element = c.element-item.result in
    let small = small_element kind element c.in_ok-is_wide.field-0 c.if-branch.false c.in_ok-is_wide.ensures in
    All-more Small c.args.elements.now c.loop-element.element-index element c.loop-element-test.true
    c.loop-element.invariant (subst Small c.element-item.is small)

pub returns : goal.returns
returns c =
    let kind = c.args.kind in
    let elements = c.args.elements.now in
    let all = take_all c.loop-element.element-index elements c.loop-element-test.false in
    all_small kind elements
    (subst (All (λ (element : Elem). entry_size kind (entry_of element) ≤ most_size)) all c.loop-element.invariant)
