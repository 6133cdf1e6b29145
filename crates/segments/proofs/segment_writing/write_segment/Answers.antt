use Rattle.std.proofs.Common.{◌+◌, take, rules}
use Rattle.segments.proofs.FileWrites.{Holds, holds_front, holds_more}
use Rattle.segments.specs.Writing.{HasFront}
use Rattle.segments.proofs.segment_writing.write_segment.Goals as goal

pub returns-in_err-written-clause-err : goal.returns-in_err-written-clause-err
returns-in_err-written-clause-err g c =
    let front : HasFront c.args.name.now c.args.part.now (g.F.Files.outside c.args.files.now).files (g.F.Files.outside c.append_page.new.files).files =
    holds_front c.args.name.now c.args.part.now c.writing.written (g.F.Files.outside c.args.files.now) (g.F.Files.outside c.writing.files) (g.F.Files.outside c.append_page.new.files)
    c.writing.invariant.0 c.writing.invariant.1 c.in_err-written.ensures.err in
    search rules

pub writing-preserved : goal.writing-preserved
writing-preserved g c =
    let more : Holds c.args.name.now (take (c.writing.written + c.in_ok-written.field-0) c.args.part.now) (g.F.Files.outside c.args.files.now) (g.F.Files.outside c.append_page.new.files) =
    holds_more c.args.name.now c.args.part.now c.writing.written c.in_ok-written.field-0 (g.F.Files.outside c.args.files.now) (g.F.Files.outside c.writing.files) (g.F.Files.outside c.append_page.new.files)
    c.writing.invariant.1 c.in_ok-written.ensures.ok in
    search rules
