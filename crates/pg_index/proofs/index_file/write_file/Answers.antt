use Rattle.std.proofs.Common.{◌+◌, take, rules}
use Rattle.pg_index.proofs.Growing.{holds_front, holds_more}
use Rattle.pg_index.specs.IndexFile.{Holds, HoldsFront}
use Rattle.pg_index.proofs.index_file.write_file.Goals as goal

pub returns-in_err-written-clause-err : goal.returns-in_err-written-clause-err
returns-in_err-written-clause-err g c =
    let front : HoldsFront c.args.name.now c.args.bytes.now (g.F.Files.outside c.args.files.now) (g.F.Files.outside c.append_page.new.files) =
    holds_front c.args.name.now c.args.bytes.now c.writing.written (g.F.Files.outside c.args.files.now) (g.F.Files.outside c.writing.files) (g.F.Files.outside c.append_page.new.files)
    c.writing.invariant.0 c.writing.invariant.1 c.in_err-written.ensures.err in
    search rules

pub writing-preserved : goal.writing-preserved
writing-preserved g c =
    let more : Holds c.args.name.now (take (c.writing.written + c.in_ok-written.field-0) c.args.bytes.now) (g.F.Files.outside c.args.files.now) (g.F.Files.outside c.append_page.new.files) =
    holds_more c.args.name.now c.args.bytes.now c.writing.written c.in_ok-written.field-0 (g.F.Files.outside c.args.files.now) (g.F.Files.outside c.writing.files) (g.F.Files.outside c.append_page.new.files)
    c.writing.invariant.1 c.in_ok-written.ensures.ok in
    search rules
