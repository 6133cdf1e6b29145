use Rattle.std.proofs.Common.{rules, ◌≡◌, ◌∙◌, ◌<◌, ◌^◌, refl}
use Rattle.std.proofs.lemmas.Result.{err_from_is_err_and}
use Rattle.pg_files.specs.Faults.{most_faults}
use Rattle.pg_files.specs.Files.{ToldSets}
use Rattle.pg_files.specs.Outside.{OnlyWrites}
use Rattle.segments.specs.Limits.{segment_bytes}
use Rattle.segments.specs.Names.{segment_name}
use Rattle.segments.specs.Writing.{HasFront, part_of, segments_for}
use Rattle.segments.proofs.SeriesWrites.{failure_raised, front_left, only_more, only_refl, told_more, told_none}
use Rattle.segments.proofs.writing.write_series.Goals as goal

pub loop-number-init : goal.loop-number-init
loop-number-init g c =
    let old = g.F.Files.outside c.args.files.now in (
      told_none (segment_bytes c.args.limits) c.args.names.now.name c.args.image.now old.files,
      refl,
      search rules,
      only_refl c.args.names.now.name old,
    )

pub returns-in_err-write_segment-clause-err : goal.returns-in_err-write_segment-clause-err
returns-in_err-write_segment-clause-err g c =
    let old = g.F.Files.outside c.args.files.now in
    let mid = g.F.Files.outside c.loop-number.files in
    let new = g.F.Files.outside c.write_segment.new.files in
    let size = segment_bytes c.args.limits in
    let within : c.loop-number.number < segments_for size c.args.image.now = search rules in
    let here : HasFront (segment_name c.args.names.now.name c.loop-number.number) (part_of size c.args.image.now c.loop-number.number) mid.files new.files = search rules in
    let p = err_from_is_err_and c.from_residual.result c.from_residual.ensures.1 in
    rw p.1 (front_left size c.args.names.now.name c.args.image.now c.loop-number.number old mid new within c.loop-number.invariant.0 here)

pub returns-in_err-write_segment-clause-faults : goal.returns-in_err-write_segment-clause-faults
returns-in_err-write_segment-clause-faults g c =
    let old = g.F.Files.outside c.args.files.now in
    let mid = g.F.Files.outside c.loop-number.files in
    let new = g.F.Files.outside c.write_segment.new.files in
    let size = segment_bytes c.args.limits in
    let name = c.args.names.now.name in
    let number = c.loop-number.number in
    let within : number < segments_for size c.args.image.now = search rules in
    let rose : mid.write_faults (segment_name name number) < most_faults → mid.write_faults (segment_name name number) < new.write_faults (segment_name name number) = search rules in
    let p = err_from_is_err_and c.from_residual.result c.from_residual.ensures.1 in
    rw (p.1, p.2) (record {
      raised = λ failed room. failure_raised size name c.args.image.now number old mid new within c.loop-number.invariant.1 rose room;
      kept = λ value. cc;
    })

pub returns-in_err-write_segment-clause-only : goal.returns-in_err-write_segment-clause-only
returns-in_err-write_segment-clause-only g c =
    let only : OnlyWrites (segment_name c.args.names.now.name c.loop-number.number) (g.F.Files.outside c.loop-number.files) (g.F.Files.outside c.write_segment.new.files) = search rules in
    only_more c.args.names.now.name c.loop-number.number (g.F.Files.outside c.args.files.now) (g.F.Files.outside c.loop-number.files) (g.F.Files.outside c.write_segment.new.files)
    c.loop-number.invariant.3 only

pub loop-number-preserved : goal.loop-number-preserved
loop-number-preserved g c =
    let old = g.F.Files.outside c.args.files.now in
    let mid = g.F.Files.outside c.loop-number.files in
    let new = g.F.Files.outside c.write_segment.new.files in
    let size = segment_bytes c.args.limits in
    let name = c.args.names.now.name in
    let number = c.loop-number.number in
    let only : OnlyWrites (segment_name name number) mid new = search rules in
    let kept : new.write_faults ≡ mid.write_faults = search rules in
    let sets : ToldSets (segment_name name number) (λ _. part_of size c.args.image.now number) mid.files new.files = search rules in
    let few : number < 2 ^ 64 = search rules in (
      told_more size name c.args.image.now number old.files mid.files new.files few c.loop-number.invariant.0 sets,
      kept ∙ c.loop-number.invariant.1,
      c.loop-number.invariant.2,
      only_more name number old mid new c.loop-number.invariant.3 only,
    )

pub returns-clause-ok : goal.returns-clause-ok
returns-clause-ok g c =
    let all : c.loop-number.number ≡ segments_for (segment_bytes c.args.limits) c.args.image.now = search rules in
    rw all at c.loop-number.invariant.0

pub returns-clause-faults : goal.returns-clause-faults
returns-clause-faults g c = record { raised = λ failed. cc; kept = λ value. c.loop-number.invariant.1 }

pub returns-clause-only : goal.returns-clause-only
returns-clause-only g c = c.loop-number.invariant.3
