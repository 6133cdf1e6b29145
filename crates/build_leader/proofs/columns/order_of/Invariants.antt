use Rattle.std.proofs.Common.{◌≡◌, map, take}
use Rattle.opclass.specs.declared.spec.KeyCol.{KeyCol}
use Rattle.build_leader.proofs.columns.order_of.Given as goal

abbrev pub invariant-loop-key : goal.invariant-loop-key
invariant-loop-key l =
    l.parts.items
    ≡ map (λ (key : KeyCol). record { descending = key.descending; nulls_first = key.nulls_first })
    (take l.key-index l.spec.keys)
