use Rattle.std.proofs.Common.{◌≡◌, ◌<◌, None, true, false, length, rules, sym, ◌∙◌}
use Rattle.std.specs.Option.{is_some}
use Rattle.std.proofs.lemmas.Option.{none-some}
use Rattle.hot_chain.specs.Pass.RootOffsets.{root_offset}
use Rattle.hot_chain.proofs.Walk.{ended_here, here_inside, here_normal, is_bare, is_given, fewer_bare, walk_steps, walk_ends, walk_closes}
use Rattle.hot_chain.proofs.root_offsets.walk_chain.Goals as goal

pub bounds-offsets-from : goal.bounds-offsets-from
bounds-offsets-from c = rw c.from.ensures (here_inside _ _ _ _ _ c.loop-reached.invariant c.in-Some.item c.in-Some.is)

pub bounds-offsets-from-in-loop-reached : goal.bounds-offsets-from-in-loop-reached
bounds-offsets-from-in-loop-reached c =
    rw c.from-in-loop-reached.ensures (here_inside _ _ _ _ _ c.loop-reached.invariant c.in-Some.item c.in-Some.is)

pub next_of-reached-requires : goal.next_of-reached-requires
next_of-reached-requires c = here_normal _ _ _ _ _ c.loop-reached.invariant c.in-Some.item c.in-Some.is

pub loop-reached-smaller : goal.loop-reached-smaller
loop-reached-smaller c =
    let test : is_some (root_offset c.loop-reached.offsets c.from.result) ≡ false = search rules in
    let inside : c.in-Some.item < length c.loop-reached.offsets = here_inside _ _ _ _ _ c.loop-reached.invariant c.in-Some.item c.in-Some.is in
    rw c.from-in-loop-reached.ensures
    (fewer_bare c.loop-reached.offsets c.in-Some.item c.args.start inside (is_bare _ (rw c.from.ensures at test)))

pub loop-reached-preserved : goal.loop-reached-preserved
loop-reached-preserved c =
    let test : is_some (root_offset c.loop-reached.offsets c.from.result) ≡ false = search rules in
    rw c.from-in-loop-reached.ensures
    (walk_steps _ _ _ _ _ c.loop-reached.invariant c.in-Some.item c.in-Some.is (is_bare _ (rw c.from.ensures at test))
    c.next_of-reached.result c.next_of-reached.ensures.next c.next_of-reached.ensures.last)

pub returns-in-loop-reached-clause-walked : goal.returns-in-loop-reached-clause-walked
returns-in-loop-reached-clause-walked c =
    let last : c.loop-reached.reached ≡ None = search rules in
    walk_ends _ _ _ _ _ c.loop-reached.invariant (λ k e. absurd (none-some k (sym last ∙ e)))

pub returns-else-is_none-clause-walked : goal.returns-else-is_none-clause-walked
returns-else-is_none-clause-walked c =
    let test : is_some (root_offset c.loop-reached.offsets c.from.result) ≡ true = search rules in
    walk_ends _ _ _ _ _ c.loop-reached.invariant (ended_here _ _ _ c.in-Some.is (is_given _ (rw c.from.ensures at test)))

pub returns-else-is_none-clause-closed : goal.returns-else-is_none-clause-closed
returns-else-is_none-clause-closed c =
    let test : is_some (root_offset c.loop-reached.offsets c.from.result) ≡ true = search rules in
    walk_closes _ _ _ _ _ c.loop-reached.invariant (ended_here _ _ _ c.in-Some.is (is_given _ (rw c.from.ensures at test)))
