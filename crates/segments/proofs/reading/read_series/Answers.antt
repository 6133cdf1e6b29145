use Rattle.std.proofs.Common.{rules, ◌≡◌, ◌∙◌, ℕ, ◌<◌, ◌++◌, length, take, drop, arith}
use Rattle.std.specs.Prelude.{IsErrOf}
use Rattle.std.proofs.lemmas.Result.{err_from_is_err_and}
use Rattle.segments.specs.Limits.{segment_bytes}
use Rattle.segments.specs.Names.{segment_name}
use Rattle.segments.specs.Reading.{HasSurplus, IsFaulty, IsOverlong, NextFailed, ReadFailed, SomeFailed}
use Rattle.segments.specs.Told.{OnTold}
use Rattle.pg_files.proofs.Frames.{OnlyReadsAndAsks-trans}
use Rattle.segments.specs.declared.fault.SeriesError.TheVariants.{Failed}
use Rattle.segments.proofs.SeriesReads.{beyond_failed, count_failure, lent_length, next_failed, next_to_read, not_error, on_fault, told_beyond, told_ended, told_more, told_overlong, told_surplus}
use Rattle.segments.proofs.reading.read_series.Goals as goal

pub returns-in_err-goes_on-clause-fault : goal.returns-in_err-goes_on-clause-fault
returns-in_err-goes_on-clause-fault g c =
    let old = g.F.Files.outside c.args.files.now in
    let mid = g.F.Files.outside c.loop-number.files in
    let p = err_from_is_err_and c.from_residual-in_err-goes_on.result c.from_residual-in_err-goes_on.ensures.1 in
    rw (p.1, p.2)
    (on_fault (λ fault. OnTold mid.files (IsOverlong c.args.limits c.args.name.now c.loop-number.number fault)) (λ fault. OnTold old.files (IsFaulty c.args.limits c.args.name.now fault))
    c.in_err-goes_on.field-0.0
    (λ fault. told_overlong c.args.limits c.args.name.now c.loop-number.number c.loop-number.bytes.items fault old.files mid.files
    c.loop-number.invariant.0.files c.loop-number-test.true c.loop-number.invariant.4)
    c.in_err-goes_on.ensures.fault)

pub returns-in_err-goes_on-clause-faults : goal.returns-in_err-goes_on-clause-faults
returns-in_err-goes_on-clause-faults g c =
    let old = g.F.Files.outside c.args.files.now in
    let mid = g.F.Files.outside c.loop-number.files in
    let new = g.F.Files.outside c.read_next.new.files in
    let size = segment_bytes c.args.limits in
    let p = err_from_is_err_and c.from_residual-in_err-goes_on.result c.from_residual-in_err-goes_on.ensures.1 in
    rw (p.1, p.2)
    (count_failure (NextFailed size c.args.name.now c.loop-number.number mid new) (SomeFailed size c.args.name.now old new) c.args.name.now c.in_err-goes_on.field-0.0 c.read_next.result old mid new
    c.in_err-goes_on.was c.loop-number.invariant.1 c.loop-number.invariant.2
    (next_failed size c.args.name.now c.loop-number.number c.loop-number.bytes.items old mid new c.loop-number.invariant.0 c.loop-number.invariant.1 c.loop-number.invariant.2 c.loop-number.invariant.4 c.loop-number.invariant.5)
    c.read_next.ensures.faults)

pub returns-then-not-goes_on-clause-bytes : goal.returns-then-not-goes_on-clause-bytes
returns-then-not-goes_on-clause-bytes g c =
    let ended = rw c.if-not-goes_on.true at c.in_ok-goes_on.ensures.bytes in
    told_ended c.args.limits c.args.name.now c.loop-number.number c.loop-number.bytes.items c.read_next.new.bytes.items
    (g.F.Files.outside c.args.files.now).files (g.F.Files.outside c.loop-number.files).files
    c.loop-number.invariant.0.files c.loop-number-test.true c.loop-number.invariant.4 ended

pub loop-number-preserved : goal.loop-number-preserved
loop-number-preserved g c =
    let old = g.F.Files.outside c.args.files.now in
    let mid = g.F.Files.outside c.loop-number.files in
    let new = g.F.Files.outside c.read_next.new.files in
    let more = rw c.if-not-goes_on.false at c.in_ok-goes_on.ensures.bytes in
    let size : ℕ = c.loop-number.buffer.len in
    let whole : length c.read_next.new.buffer ≡ size = search rules in
    let lent : length (take size (c.read_next.new.buffer ++ drop (length c.read_next.new.buffer) c.loop-number.buffer.items)) ≡ size =
    lent_length size c.read_next.new.buffer c.loop-number.buffer.items whole in
    let some : 0 < size = search rules in
    let kept : IsErrOf c.read_next.result Failed → ⊥ = λ failed. not_error c.in_ok-goes_on.was failed in (
      OnlyReadsAndAsks-trans old mid new c.loop-number.invariant.0 c.read_next.ensures.only,
      c.read_next.ensures.faults.reads_kept kept ∙ c.loop-number.invariant.1,
      c.read_next.ensures.faults.asks_kept kept ∙ c.loop-number.invariant.2,
      omega (arith, lent, some),
      told_more (segment_bytes c.args.limits) c.args.name.now c.loop-number.number c.loop-number.bytes.items c.read_next.new.bytes.items
          old.files mid.files c.loop-number.invariant.0.files c.loop-number.invariant.4 more,
      next_to_read (segment_bytes c.args.limits) c.args.name.now c.loop-number.number c.loop-number.bytes.items c.read_next.new.bytes.items
          old.files mid.files c.loop-number.invariant.0.files more,
    )

pub returns-in_err-read_beyond-clause-fault : goal.returns-in_err-read_beyond-clause-fault
returns-in_err-read_beyond-clause-fault g c =
    let old = g.F.Files.outside c.args.files.now in
    let mid = g.F.Files.outside c.loop-number.files in
    let all : c.loop-number.number ≡ c.args.limits.segments = search rules in
    let so_far = rw all at c.loop-number.invariant.4 in
    let p = err_from_is_err_and c.from_residual-in_err-read_beyond.result c.from_residual-in_err-read_beyond.ensures.1 in
    rw (p.1, p.2)
    (on_fault (λ fault. OnTold mid.files (HasSurplus c.args.limits c.args.name.now fault)) (λ fault. OnTold old.files (IsFaulty c.args.limits c.args.name.now fault))
    c.in_err-read_beyond.field-0.0
    (λ fault. told_surplus c.args.limits c.args.name.now c.loop-number.bytes.items fault old.files mid.files c.loop-number.invariant.0.files so_far)
    c.in_err-read_beyond.ensures.fault)

pub returns-in_err-read_beyond-clause-faults : goal.returns-in_err-read_beyond-clause-faults
returns-in_err-read_beyond-clause-faults g c =
    let old = g.F.Files.outside c.args.files.now in
    let mid = g.F.Files.outside c.loop-number.files in
    let new = g.F.Files.outside c.read_beyond.new.files in
    let size = segment_bytes c.args.limits in
    let all : c.loop-number.number ≡ c.args.limits.segments = search rules in
    let so_far = rw all at c.loop-number.invariant.4 in
    let to_read = rw all at c.loop-number.invariant.5 in
    let p = err_from_is_err_and c.from_residual-in_err-read_beyond.result c.from_residual-in_err-read_beyond.ensures.1 in
    rw (p.1, p.2)
    (count_failure (ReadFailed (segment_name c.args.name.now c.args.limits.segments) mid new) (SomeFailed size c.args.name.now old new) c.args.name.now
    c.in_err-read_beyond.field-0.0 c.read_beyond.result old mid new
    c.in_err-read_beyond.was c.loop-number.invariant.1 c.loop-number.invariant.2
    (beyond_failed size c.args.name.now c.args.limits.segments c.loop-number.bytes.items old mid new c.loop-number.invariant.1 so_far to_read)
    c.read_beyond.ensures.faults)

pub returns-clause-bytes : goal.returns-clause-bytes
returns-clause-bytes g c =
    let all : c.loop-number.number ≡ c.args.limits.segments = search rules in
    let so_far = rw all at c.loop-number.invariant.4 in
    told_beyond c.args.limits c.args.name.now c.loop-number.bytes.items (g.F.Files.outside c.args.files.now).files (g.F.Files.outside c.loop-number.files).files
    c.loop-number.invariant.0.files c.requires.limits so_far c.in_ok-read_beyond.ensures.empty
