use Rattle.std.proofs.Common.{None, Some}
use Rattle.pg_index.proofs.Answering.{answers}
use Rattle.pg_index.proofs.Headlines.{keeps}
use Rattle.pg_index.specs.Calls.BuiltIndex.{told_of_index}
use Rattle.pg_index.specs.Run.{nothing}
use Rattle.pg_index.specs.Words.{texts_of}
use Rattle.pg_index.proofs.command.run.Goals as goal

pub returns-in-Ok-clause-exact : goal.returns-in-Ok-clause-exact
returns-in-Ok-clause-exact g c =
    λ told outcome is has.
    rw (c.built.ensures.fault_told)
    (answers (texts_of c.args.words.now) (g.F.Files.outside c.args.files.now) (g.F.Files.outside c.build.new.files) (told_of_index c.in-Ok.index) None
    c.in-Ok.ensures.ok told outcome is has)

pub returns-in-Err-clause-exact : goal.returns-in-Err-clause-exact
returns-in-Err-clause-exact g c =
    λ told outcome is has.
    rw (c.refused.ensures.fault_told)
    (answers (texts_of c.args.words.now) (g.F.Files.outside c.args.files.now) (g.F.Files.outside c.build.new.files) nothing (Some c.in-Err.fault)
    c.in-Err.ensures.err told outcome is has)

pub returns-in-Ok-clause-headline : goal.returns-in-Ok-clause-headline
returns-in-Ok-clause-headline g c =
    λ told heap asked is there asks.
    rw (c.built.ensures.fault_told, c.built.ensures.told_is)
    (keeps (texts_of c.args.words.now) told heap asked asks (g.F.Files.outside c.args.files.now) (g.F.Files.outside c.build.new.files) is there
    (told_of_index c.in-Ok.index) None c.in-Ok.ensures.ok)

pub returns-in-Err-clause-headline : goal.returns-in-Err-clause-headline
returns-in-Err-clause-headline g c =
    λ told heap asked is there asks.
    rw (c.refused.ensures.fault_told, c.refused.ensures.told_is)
    (keeps (texts_of c.args.words.now) told heap asked asks (g.F.Files.outside c.args.files.now) (g.F.Files.outside c.build.new.files) is there
    nothing (Some c.in-Err.fault) c.in-Err.ensures.err)
