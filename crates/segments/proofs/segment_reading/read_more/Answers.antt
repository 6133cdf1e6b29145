use Rattle.std.proofs.Common.{◌≡◌, ◌++◌, take, rules}
use Rattle.segments.proofs.FileReads.{read_on}
use Rattle.segments.proofs.segment_reading.read_more.Goals as goal

pub returns-clause-bytes : goal.returns-clause-bytes
returns-clause-bytes g c =
    let read = read_on (g.F.Files.outside c.args.files.now) c.args.name.now c.args.bytes.now.items c.read.new.into c.args.place c.in_ok-count.count (search rules) (search rules) in
    let grown : c.extend_from_slice.new.self.items ≡ c.args.bytes.now.items ++ take c.in_ok-count.count c.read.new.into = search rules in
    rw grown read
