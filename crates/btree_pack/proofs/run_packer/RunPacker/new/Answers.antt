use Rattle.std.proofs.Common.{refl, sym, ap, ◌∙◌, subst, arith}
use Rattle.btree_pack.specs.Pass.Packing.{Packing}
use Rattle.btree_pack.specs.Pass.Taken.{LeafIsFirst}
use Rattle.btree_pack.proofs.Adding.{added-none}
use Rattle.btree_pack.proofs.Puts.{none-packed}
use Rattle.btree_pack.proofs.run_packer.RunPacker.new.Goals as goal

pub invariant_of-result : goal.invariant_of-result
invariant_of-result c =
    λ fresh.
    let none = ap (λ (p : Packing). p.pages) c.new.ensures.packing ∙ none-packed c.args.spec.now.fillfactor in
    record {
      keys_few = let all = c.requires.all in let keys = c.len.ensures in omega arith;
      few = c.requires.few;
      leaf = subst LeafIsFirst (sym none) tt;
      last = none;
    }

pub returns : goal.returns
returns c = added-none c.args.spec.now c.args.kinds _ c.requires refl c.len.ensures c.new.ensures.fillfactor c.new.ensures.packing c.new-2.ensures.items refl
