use Rattle.std.proofs.Common.{◌≡◌, Some, None, sym, ◌∙◌, arith}
use Rattle.heap_row.specs.Array.{element_behind, elements_behind, nulls_of}
use Rattle.heap_row.proofs.Elements.{ends, goes_on, null_at}
use Rattle.heap_row.proofs.array.read_elements.Goals as goal

pub returns-in_default : goal.returns-in_default
returns-in_default c =
    let null = c.is_absent-null.ensures in
    let none : None ≡ element_behind c.args.element c.args.content.now c.loop-n.place (null_at c.args.content.now c.args.shape c.loop-n.n) =
    rw (← null) (sym c.in_default.is ∙ c.in_ok-value.ensures.element) in
    ends c.args.element c.args.content.now c.args.shape c.loop-n.n c.loop-n.place c.loop-n.elements.items
    (elements_behind c.args.element c.args.content.now c.args.shape.first (nulls_of c.args.content.now c.args.shape)) c.loop-n-test.true none c.loop-n.invariant.read

pub loop-n-preserved : goal.loop-n-preserved
loop-n-preserved c =
    let null = c.is_absent-null.ensures in
    let here : Some (c.in-Some.value, c.in-Some.end) ≡ element_behind c.args.element c.args.content.now c.loop-n.place (null_at c.args.content.now c.args.shape c.loop-n.n) =
    rw (← null) (sym c.in-Some.is ∙ c.in_ok-value.ensures.element) in
    let end = rw c.in-Some.is at c.in_ok-value.ensures.end in
    record {
      read = rw c.in_ok-push.ensures.items
          (goes_on c.args.element c.args.content.now c.args.shape c.loop-n.n c.loop-n.place c.in-Some.end c.loop-n.elements.items c.in-Some.value
          (elements_behind c.args.element c.args.content.now c.args.shape.first (nulls_of c.args.content.now c.args.shape)) c.loop-n-test.true here c.loop-n.invariant.read);
      place = omega (arith, end);
    }
