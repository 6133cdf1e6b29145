use Rattle.std.proofs.Common.{◌≡◌, ◌+◌, Option, subst, rules}
use Rattle.pg_files.specs.Outside.{FileMap}
use Rattle.segments.specs.Reading.{ReadsOn}
use Rattle.segments.specs.Told.{OnFile, OnTold}
use Rattle.segments.proofs.FileReads.{HasRead, has_more}
use Rattle.segments.proofs.segment_reading.read_segment.Goals as goal

pub reading-preserved : goal.reading-preserved
reading-preserved g c =
    let same : (g.F.Files.outside c.reading.files).files ≡ (g.F.Files.outside c.args.files.now).files = c.reading.invariant.0.files in
    let P : Option FileMap → Type 0 = λ told. OnTold told (λ files. OnFile (files c.args.name.now) (ReadsOn c.reading.count c.reading.bytes.items c.in_ok-more.more c.read_more.new.bytes.items)) in
    let more : HasRead (g.F.Files.outside c.args.files.now).files c.args.name.now c.args.bytes.now.items (c.reading.count + c.in_ok-more.more) c.read_more.new.bytes.items =
    has_more (g.F.Files.outside c.args.files.now).files c.args.name.now c.args.bytes.now.items c.reading.count c.reading.bytes.items c.in_ok-more.more c.read_more.new.bytes.items
    c.reading.invariant.3 (subst P same c.in_ok-more.ensures.bytes) in
    search rules
