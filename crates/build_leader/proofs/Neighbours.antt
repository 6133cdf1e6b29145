-- Neighbours of sorted rows tell of all clashes.
use Rattle.std.proofs.Common.{◌≡◌, ◌≢◌, zero, suc, ◌+◌, true, true≢false, List, [], ◌∷◌, Some, refl, sym, ap, subst, ◌∙◌, arith, slice_index_or, All}
use Rattle.std.specs.Prelude.{AllPairs, slice_get}
use Rattle.std.specs.Ordering.{is_lt, ordering_reverse, ordering_then}
use Rattle.std.specs.declared.cmp.Ordering.{Ordering}
use Rattle.std.specs.declared.cmp.Ordering.TheVariants.{Less, Greater}
use Rattle.std.proofs.lemmas.List.Elements.{All-head, All-nil}
use Rattle.std.proofs.lemmas.Option.{get_or_from_slice_get, slice_get_within}
use Rattle.opclass.specs.declared.spec.IndexSpec.{IndexSpec}
use Rattle.opclass.specs.declared.spec.SortPart.{SortPart}
use Rattle.opclass.specs.Order.{key_cmp, pointer_cmp}
use Rattle.opclass.proofs.KeyOrder.{clash_between, key_cmp_antisymm}
use Rattle.shared_tape.specs.declared.stored.Record.{Record}
use Rattle.shared_tape.specs.Runs.{IsAscending}
use Rattle.shared_tape.specs.Stored.{record_cmp}
use Rattle.run_merge.proofs.Ascending.{sorted-head, sorted-tail}
use Rattle.run_merge.proofs.Firsts.{record_weak}
use Rattle.run_merge.proofs.Sorting.{Pairs, Pairs-to}
use Rattle.run_merge.specs.Merging.{IsNotBelow}
use Rattle.build_leader.specs.Laws.{NeighboursTellOfClashes}
use Rattle.build_leader.specs.Outcome.{order_of_index}
use Rattle.build_leader.specs.Unique.{Clash, NoneClash}

-- where a row isn't below another, the keys of the other aren't above its keys
keys_not_above : (order : List SortPart) (a b : Record) → IsNotBelow order b a → key_cmp order a.keys b.keys ≢ Greater
keys_not_above order a b not_below above =
    let less : key_cmp order b.keys a.keys ≡ Less =
    key_cmp_antisymm order b.keys a.keys ∙ ap ordering_reverse above in
    let below : is_lt (record_cmp order b a) ≡ true =
    ap (λ (o : Ordering). is_lt (ordering_then o (pointer_cmp b.ptr a.ptr))) less in
    true≢false (sym below ∙ not_below)

-- two rows don't break the rule
abbrev Agree : IndexSpec → Record → Record → Type 0
Agree spec a b = Clash spec a b → ⊥

-- no neighbours behind the first break the rule
none_behind : (spec : IndexSpec) (row : Record) (rows : List Record) → NoneClash spec (row ∷ rows) → NoneClash spec rows
none_behind spec row rows none place a b at =
    let e : suc place + 1 ≡ suc (place + 1) = omega arith in
    none (suc place) a b (record {
      one = at.one;
      next = subst (λ k. slice_get (row ∷ rows) k ≡ Some b) (sym e) at.next;
      clash = at.clash;
    })

pairs_agree : (spec : IndexSpec) (order : List SortPart) (rows : List Record) → IsAscending order rows
    → NoneClash spec rows → Pairs (Agree spec) rows
pairs_agree spec order [] up none = tt
pairs_agree spec order (a ∷ []) up none = (All-nil (Agree spec a), tt)
pairs_agree spec order (a ∷ b ∷ rows) up none = (first, pairs_agree spec order (b ∷ rows) behind (none_behind spec a (b ∷ rows) none))
  where
    behind : IsAscending order (b ∷ rows)
    behind = sorted-tail (λ (x y : Record). is_lt (record_cmp order x y)) (record_weak order) a (b ∷ rows) up

    above_a : All (λ row. IsNotBelow order row a) (b ∷ rows)
    above_a = sorted-head (λ (x y : Record). is_lt (record_cmp order x y)) (record_weak order) a (b ∷ rows) up

    above_b : All (λ row. IsNotBelow order row b) rows
    above_b = sorted-head (λ (x y : Record). is_lt (record_cmp order x y)) (record_weak order) b rows behind

    near : Agree spec a b
    near clash = none 0 a b (record { one = refl; next = refl; clash = clash })

    first : All (Agree spec a) (b ∷ rows)
    first zero d inside = near
    first (suc k) d inside = λ clash.
        let c : Record = slice_index_or rows k d in
        near (clash_between spec.nulls_distinct order a.keys b.keys c.keys
        (keys_not_above order a b (All-head (λ row. IsNotBelow order row a) b rows above_a))
        (keys_not_above order b c (above_b k d (omega arith))) clash).0

-- rows that don't break the rule pair by pair have no neighbours that do
none_of_pairs : (spec : IndexSpec) (rows : List Record) → AllPairs (Agree spec) rows → NoneClash spec rows
none_of_pairs spec rows pairs place a b at =
    let one : slice_index_or rows place a ≡ a = get_or_from_slice_get rows place a a at.one in
    let next : slice_index_or rows (place + 1) a ≡ b = get_or_from_slice_get rows (place + 1) b a at.next in
    let inside = slice_get_within rows (place + 1) b at.next in
    let agree : Agree spec a b = subst (λ x. Agree spec x b) one
    (subst (Agree spec (slice_index_or rows place a)) next (pairs place (place + 1) a (omega arith) inside)) in
    agree at.clash

pub neighbours_tell : NeighboursTellOfClashes
neighbours_tell table spec heap sorted sound are = (
  λ none. Pairs-to (Agree spec) sorted (pairs_agree spec (order_of_index spec) sorted are.in_order.ascending none),
  none_of_pairs spec sorted,
)
