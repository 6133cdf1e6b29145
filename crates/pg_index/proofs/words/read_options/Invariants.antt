use Rattle.pg_index.specs.Calls.Options.{AreRead}
use Rattle.pg_index.specs.Words.{texts_of}
use Rattle.pg_index.proofs.words.read_options.Given as goal

abbrev pub invariant-loop-read : goal.invariant-loop-read
invariant-loop-read l = AreRead (texts_of l.words) l.read l.given
