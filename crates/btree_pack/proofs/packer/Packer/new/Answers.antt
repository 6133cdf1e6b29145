use Rattle.std.proofs.Common.{sym, ap, ◌∙◌, subst}
use Rattle.btree_pack.specs.Pass.Packing.{Packing}
use Rattle.btree_pack.specs.Pass.Taken.{LeafIsFirst}
use Rattle.btree_pack.proofs.Puts.{none-packed}
use Rattle.btree_pack.proofs.packer.Packer.new.Goals as goal

pub invariant_of-result : goal.invariant_of-result
invariant_of-result c =
    λ fresh.
    let none = ap (λ (p : Packing). p.pages) c.new-tower.ensures.packing ∙ none-packed c.args.spec.now.fillfactor in
    (c.new.ensures.ready, record { leaf = subst LeafIsFirst (sym none) tt; last = none })
