use Rattle.std.proofs.Common.{◌≡◌, ◌∷◌, ℕ, List, sym, subst}
use Rattle.std.specs.Vec.Iter.{into_iter_items}
use Rattle.brin_summary.specs.declared.ranges.SummedRange.{SummedRange}
use Rattle.build_leader.specs.Uniting.{HaveColumns}
use Rattle.build_leader.proofs.Lists.{one_more}
use Rattle.build_leader.proofs.UnitedRanges.{next_columns, told_next}
use Rattle.build_leader.proofs.brin.uniting.unite_part.Goals as goal

pub unite-requires : goal.unite-requires
unite-requires c =
    let rest : List SummedRange = into_iter_items c.loop-summed.summed-iterator in
    let behind : List SummedRange = into_iter_items c.next.new.self in
    let is : rest ≡ c.in-Some.summed ∷ behind = c.in-Some.ensures.steps.0 in
    let columns : ℕ = c.requires.alike.0 in
    let its = next_columns columns c.args.part c.loop-summed.yielded rest behind c.in-Some.summed c.requires.alike.2 c.loop-summed.invariant.are is in
    record {
      alike =
          subst (λ (n : ℕ). HaveColumns n c.loop-summed.known) (sym its)
          (c.loop-summed.invariant.alike columns c.requires.alike.1 c.requires.alike.2);
    }

pub loop-summed-preserved : goal.loop-summed-preserved
loop-summed-preserved c =
    let rest : List SummedRange = into_iter_items c.loop-summed.summed-iterator in
    let behind : List SummedRange = into_iter_items c.next.new.self in
    let one : SummedRange = c.in-Some.summed in
    let is : rest ≡ one ∷ behind = c.in-Some.ensures.steps.0 in
    record {
      can_next = tt;
      is_finite = tt;
      are = one_more c.args.part c.loop-summed.yielded one behind rest c.loop-summed.invariant.are is;
      alike = λ columns have all.
          let its = next_columns columns c.args.part c.loop-summed.yielded rest behind one all c.loop-summed.invariant.are is in
          subst (λ (n : ℕ). HaveColumns n c.unite.new.known) its c.unite.ensures.alike;
      told = λ columns ranges told.
          told_next columns ranges c.loop-summed.yielded one c.unite.new.known
          (c.unite.ensures.told columns _ (c.loop-summed.invariant.told columns ranges told));
    }
