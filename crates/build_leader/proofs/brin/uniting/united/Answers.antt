use Rattle.std.proofs.Common.{◌≡◌, ◌∷◌, ◌++◌, [], ℕ, List, length, sym, ap, subst, ◌∙◌, arith, rules}
use Rattle.std.specs.List.{flat_map}
use Rattle.std.specs.Vec.Iter.{into_iter_items}
use Rattle.std.proofs.lemmas.List.Elements.{All-nil}
use Rattle.std.proofs.lemmas.List.FromFn.{length-map-range_with_len}
use Rattle.brin_summary.specs.Summary.{RangeSummary}
use Rattle.brin_summary.specs.declared.ranges.SummedRange.{SummedRange}
use Rattle.build_leader.specs.Ranges.{told_of}
use Rattle.build_leader.specs.Tally.{AreOfColumns}
use Rattle.build_leader.specs.Uniting.{AreTold, HaveColumns, told_each}
use Rattle.build_leader.proofs.Lists.{one_more}
use Rattle.build_leader.proofs.UnitedRanges.{each_has_columns, flat_push, part_columns, whole}
use Rattle.build_leader.proofs.brin.uniting.united.Goals as goal

pub loop-part-init : goal.loop-part-init
loop-part-init c =
    let known : List RangeSummary = c.in_ok-known.known.items in
    let is : known ≡ told_each c.args.columns c.args.count [] = c.in_ok-known.ensures in
    let count : length known ≡ c.args.count =
    ap length is ∙ length-map-range_with_len (λ range. told_of c.args.columns range []) 0 c.args.count in
    record {
      can_next = tt;
      is_finite = tt;
      are = sym (c.into_iter-part-iterator.ensures.into_iter_gives.0 ∙ c.into_vec-part-items.ensures);
      alike = subst (HaveColumns c.args.columns) (sym is) (each_has_columns c.args.columns c.args.count [] (All-nil (λ (summed : SummedRange). length summed.summary.columns ≡ c.args.columns)));
      count = count;
      told = is ∙ ap (λ (n : ℕ). told_each c.args.columns n []) (sym count);
    }

pub unite_part-requires : goal.unite_part-requires
unite_part-requires c =
    let rest : List (List SummedRange) = into_iter_items c.loop-part.part-iterator in
    let behind : List (List SummedRange) = into_iter_items c.next.new.self in
    let is : rest ≡ c.in-Some.part ∷ behind = c.in-Some.ensures.steps.0 in
    let are : c.args.parts ≡ c.loop-part.yielded ++ c.in-Some.part ∷ behind =
    c.loop-part.invariant.are ∙ ap (λ (items : List (List SummedRange)). c.loop-part.yielded ++ items) is in
    record {
      alike = (
        c.args.columns,
        subst (HaveColumns c.args.columns) (sym c.deref_mut.ensures.value) c.loop-part.invariant.alike,
        part_columns c.args.columns c.loop-part.yielded c.in-Some.part behind
            (subst (λ (parts : List (List SummedRange)). AreOfColumns c.args.columns (flat_map (λ part. part) parts)) are c.requires),
      );
    }

pub loop-part-preserved : goal.loop-part-preserved
loop-part-preserved c =
    let rest : List (List SummedRange) = into_iter_items c.loop-part.part-iterator in
    let behind : List (List SummedRange) = into_iter_items c.next.new.self in
    let part : List SummedRange = c.in-Some.part in
    let before : List (List SummedRange) = c.loop-part.yielded in
    let is : rest ≡ part ∷ behind = c.in-Some.ensures.steps.0 in
    let are : c.args.parts ≡ before ++ part ∷ behind =
    c.loop-part.invariant.are ∙ ap (λ (items : List (List SummedRange)). before ++ items) is in
    let alike : AreOfColumns c.args.columns part =
    part_columns c.args.columns before part behind
    (subst (λ (parts : List (List SummedRange)). AreOfColumns c.args.columns (flat_map (λ part. part) parts)) are c.requires) in
    let old : List RangeSummary = c.loop-part.known.items in
    let new : List RangeSummary = c.unite_part.new.known in
    let value : c.deref_mut.result.now ≡ old = c.deref_mut.ensures.value in
    let size : length new ≡ length c.deref_mut.result.now = search rules in
    let same : length new ≡ length old = size ∙ ap length value in
    let count : c.loop-part.known.len ≡ length old = omega arith in
    let written = whole c.loop-part.known.len old new count same in
    let told : AreTold c.args.columns (flat_map (λ part. part) before) c.deref_mut.result.now =
    subst (AreTold c.args.columns (flat_map (λ part. part) before)) (sym value) c.loop-part.invariant.told in
    record {
      can_next = tt;
      is_finite = tt;
      are = one_more c.args.parts before part behind rest c.loop-part.invariant.are is;
      alike =
          subst (HaveColumns c.args.columns) (sym written)
          (c.unite_part.ensures.alike c.args.columns
          (subst (HaveColumns c.args.columns) (sym value) c.loop-part.invariant.alike) alike);
      count = ap length written ∙ same ∙ c.loop-part.invariant.count;
      told =
          subst (AreTold c.args.columns (flat_map (λ part. part) (before ++ part ∷ []))) (sym written)
          (subst (λ (ranges : List SummedRange). AreTold c.args.columns ranges new) (sym (flat_push before part))
          (c.unite_part.ensures.told c.args.columns (flat_map (λ part. part) before) told));
    }
