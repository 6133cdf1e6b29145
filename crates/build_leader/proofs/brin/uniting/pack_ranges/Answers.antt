use Rattle.std.proofs.Common.{◌≡◌, ◌<◌, ◌^◌, ℕ, None, List, length, sym, subst, ◌∙◌, arith}
use Rattle.std.specs.Prelude.{IfErr, IfOk, OnOk}
use Rattle.std.specs.List.{flat_map}
use Rattle.brin_summary.specs.Answer.{IsTold, tuple_size, wide_range}
use Rattle.brin_summary.specs.File.{brin_file}
use Rattle.brin_summary.specs.Summary.{RangeSummary}
use Rattle.brin_summary.specs.declared.ranges.SummedRange.{SummedRange}
use Rattle.build_leader.specs.Ranges.{range_count, told_of}
use Rattle.build_leader.specs.Tally.{AreOfColumns}
use Rattle.build_leader.specs.Uniting.{HaveColumns, told_each}
use Rattle.build_leader.proofs.UnitedRanges.{known_are, known_blocks, known_columns, told_ranges_are}
use Rattle.build_leader.proofs.brin.uniting.pack_ranges.Goals as goal

pub pack-requires-clause-columns : goal.pack-requires-clause-columns
pack-requires-clause-columns c =
    let ranges : List SummedRange = flat_map (λ part. part) c.args.parts in
    let known : List RangeSummary = c.deref.result.now in
    let each : known ≡ told_each c.len-columns.result c.count_ranges-count.result ranges = c.deref.ensures.value ∙ c.in_ok-summaries.ensures in
    let same : c.len-columns.result ≡ length c.args.spec.now.keys = c.len-columns.ensures in
    subst (λ (n : ℕ). HaveColumns n known) (same ∙ sym c.requires.kinds)
    (known_columns c.args.spec.now c.args.blocks c.len-columns.result c.count_ranges-count.result ranges known each
    (subst (λ (n : ℕ). AreOfColumns n ranges) (sym same) c.requires.columns))

pub pack-requires-clause-blocks : goal.pack-requires-clause-blocks
pack-requires-clause-blocks c =
    let ranges : List SummedRange = flat_map (λ part. part) c.args.parts in
    let known : List RangeSummary = c.deref.result.now in
    let each : known ≡ told_each c.len-columns.result c.count_ranges-count.result ranges = c.deref.ensures.value ∙ c.in_ok-summaries.ensures in
    let all : c.count_ranges-count.result ≡ range_count c.args.spec.now.pages_per_range c.args.blocks = c.count_ranges-count.ensures in
    let most = known_blocks c.args.spec.now c.args.blocks c.len-columns.result c.count_ranges-count.result ranges known each all c.requires.some_pages in
    let few = c.requires.few_pages in
    let blocks = c.requires.blocks in
    omega (arith, most, few, blocks)

pub pack-requires-clause-sizes : goal.pack-requires-clause-sizes
pack-requires-clause-sizes c =
    let ranges : List SummedRange = flat_map (λ part. part) c.args.parts in
    let known : List RangeSummary = c.deref.result.now in
    let each : known ≡ told_each c.len-columns.result c.count_ranges-count.result ranges = c.deref.ensures.value ∙ c.in_ok-summaries.ensures in
    let same : c.len-columns.result ≡ length c.args.spec.now.keys = c.len-columns.ensures in
    known_are c.args.spec.now c.args.blocks c.len-columns.result c.count_ranges-count.result ranges known each
    (λ (range : RangeSummary). tuple_size c.args.kinds.now range < 2 ^ 63)
    (λ range. subst (λ (n : ℕ). tuple_size c.args.kinds.now (told_of n range ranges) < 2 ^ 63) (sym same) (c.requires.sizes range))

pub returns-clause-file : goal.returns-clause-file
returns-clause-file c =
    let ranges : List SummedRange = flat_map (λ part. part) c.args.parts in
    let known : List RangeSummary = c.deref.result.now in
    let each : known ≡ told_each c.len-columns.result c.count_ranges-count.result ranges = c.deref.ensures.value ∙ c.in_ok-summaries.ensures in
    let is = told_ranges_are c.args.spec.now c.args.blocks c.len-columns.result c.count_ranges-count.result ranges known each c.len-columns.ensures c.count_ranges-count.ensures in
    subst (λ (all : List RangeSummary). IfOk c.pack.result (λ image. image ≡ brin_file c.args.kinds.now c.args.spec.now.pages_per_range all)) is c.pack.ensures.file

pub returns-clause-fit : goal.returns-clause-fit
returns-clause-fit c =
    let ranges : List SummedRange = flat_map (λ part. part) c.args.parts in
    let known : List RangeSummary = c.deref.result.now in
    let each : known ≡ told_each c.len-columns.result c.count_ranges-count.result ranges = c.deref.ensures.value ∙ c.in_ok-summaries.ensures in
    let is = told_ranges_are c.args.spec.now c.args.blocks c.len-columns.result c.count_ranges-count.result ranges known each c.len-columns.ensures c.count_ranges-count.ensures in
    subst (λ (all : List RangeSummary). OnOk c.pack.result (wide_range c.args.kinds.now all ≡ None)) is c.pack.ensures.fit

pub returns-clause-wide : goal.returns-clause-wide
returns-clause-wide c =
    let ranges : List SummedRange = flat_map (λ part. part) c.args.parts in
    let known : List RangeSummary = c.deref.result.now in
    let each : known ≡ told_each c.len-columns.result c.count_ranges-count.result ranges = c.deref.ensures.value ∙ c.in_ok-summaries.ensures in
    let is = told_ranges_are c.args.spec.now c.args.blocks c.len-columns.result c.count_ranges-count.result ranges known each c.len-columns.ensures c.count_ranges-count.ensures in
    subst (λ (all : List RangeSummary). IfErr c.pack.result (IsTold c.args.kinds.now all)) is c.pack.ensures.wide
