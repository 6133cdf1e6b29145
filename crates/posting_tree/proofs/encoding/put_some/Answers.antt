use Rattle.std.proofs.Common.{◌≡◌, ℕ, ◌+◌, ◌-◌, ◌≤◌, ◌++◌, ◌∷◌, length, take, drop, get_or, ap, subst, ◌∙◌, arith, length-append, length-drop, length-take}
use Rattle.std.proofs.lemmas.Result.{err_from_is_err_and}
use Rattle.pg_bytes.specs.declared.row_ptr.RowPtr.{RowPtr}
use Rattle.posting_tree.proofs.Deltas.{ascend-behind}
use Rattle.posting_tree.proofs.Fronts.{front-append, front-of, front-same}
use Rattle.posting_tree.proofs.Segments.{PutsSegment, first-and-others, length-closed, length-head, puts-segment}
use Rattle.posting_tree.specs.Pass.{IsInFront}
use Rattle.posting_tree.specs.Segments.{AreAscending, deltas_behind}
use Rattle.posting_tree.proofs.encoding.put_some.Goals as goal

pub put_deltas-requires : goal.put_deltas-requires
put_deltas-requires c =
    let ascending : AreAscending (get_or c.args.ptrs.now 0 (record { block = 0; offset = 0 }) ∷ take (length c.args.ptrs.now - 1) (drop 1 c.args.ptrs.now)) =
    subst AreAscending (first-and-others c.args.ptrs.now (record { block = 0; offset = 0 }) c.requires.some) c.requires.ascending in
    rw c.number_of.ensures.number (ascend-behind _ _ ascending)

pub returns-in_err-put-clause-err : goal.returns-in_err-put-clause-err
returns-in_err-put-clause-err c =
    let p = err_from_is_err_and c.from_residual-in_err-put.result c.from_residual-in_err-put.ensures.1 in
    rw p.1 (front-of _ _ _ (rw c.in_ok-put_head.ensures.ok (front-append _ _)) c.in_err-put.ensures.err)

pub close-requires-clause-head : goal.close-requires-clause-head
close-requires-clause-head c =
    let head = length-head _ _ _ c.in_ok-put_head.ensures.ok in
    let put = ap length c.in_ok-put.ensures.put in
    let more = length-append c.put_head.new.out.items (deltas_behind c.number_of.result (take c.in_ok-put.put (take (length c.args.ptrs.now - 1) (drop 1 c.args.ptrs.now)))) in
    omega (arith, c.len-start.ensures)

pub close-requires-clause-counted : goal.close-requires-clause-counted
close-requires-clause-counted c =
    let head = length-head _ _ _ c.in_ok-put_head.ensures.ok in
    let within = c.in_ok-put.ensures.within in
    omega (arith, c.len-start.ensures)

pub returns-in_err-close-clause-err : goal.returns-in_err-close-clause-err
returns-in_err-close-clause-err c =
    let p = err_from_is_err_and c.from_residual-in_err-close.result c.from_residual-in_err-close.ensures.1 in
    let head : IsInFront c.args.out.now.items c.put_head.new.out.items = rw c.in_ok-put_head.ensures.ok (front-append _ _) in
    let full : IsInFront c.put_head.new.out.items c.put_deltas.new.out.items = rw c.in_ok-put.ensures.put (front-append _ _) in
    rw p.1 (front-same _ _ _ (c.len-start.result + 6) (omega (arith, c.len-start.ensures)) c.in_err-close.ensures.err (front-of _ _ _ head full))

pub returns-clause-put : goal.returns-clause-put
returns-clause-put c =
    let d : RowPtr = record { block = 0; offset = 0 } in
    let few : c.in_ok-put.put ≤ length c.args.ptrs.now - 1 = omega (arith, c.in_ok-put.ensures.count, length-take (length c.args.ptrs.now - 1) (drop 1 c.args.ptrs.now)) in
    let put : PutsSegment c.args.out.now.items c.put_head.new.out.items c.put_deltas.new.out.items c.close.new.out.items c.args.ptrs.now d c.in_ok-put.put c.len-start.result = record {
      start_is = omega (arith, c.len-start.ensures);
      head_is = c.in_ok-put_head.ensures.ok;
      full_is = c.in_ok-put.ensures.put ∙ ap (λ (n : ℕ). c.put_head.new.out.items ++ deltas_behind n (take c.in_ok-put.put (take (length c.args.ptrs.now - 1) (drop 1 c.args.ptrs.now)))) c.number_of.ensures.number;
      closed_is = c.in_ok-close.ensures.ok;
    } in
    puts-segment _ _ _ _ _ _ _ _ put c.requires.some few

pub returns-clause-within : goal.returns-clause-within
returns-clause-within c =
    let head = length-head _ _ _ c.in_ok-put_head.ensures.ok in
    let put = ap length c.in_ok-put.ensures.put in
    let more = length-append c.put_head.new.out.items (deltas_behind c.number_of.result (take c.in_ok-put.put (take (length c.args.ptrs.now - 1) (drop 1 c.args.ptrs.now)))) in
    let within = c.in_ok-put.ensures.within in
    let start = c.len-start.ensures in
    let room = c.requires.room in
    let fits : c.len-start.result + 8 ≤ length c.put_deltas.new.out.items = omega arith in
    let end = length-closed _ _ _ fits c.in_ok-close.ensures.ok in
    omega arith

pub returns-clause-whole : goal.returns-clause-whole
returns-clause-whole c fits =
    let head = length-head _ _ _ c.in_ok-put_head.ensures.ok in
    let start = c.len-start.ensures in
    let taken = length-take (length c.args.ptrs.now - 1) (drop 1 c.args.ptrs.now) in
    let dropped = length-drop 1 c.args.ptrs.now in
    let some = c.requires.some in
    let all : c.in_ok-put.put ≡ length (take (length c.args.ptrs.now - 1) (drop 1 c.args.ptrs.now)) = c.in_ok-put.ensures.whole (omega arith) in
    omega arith
