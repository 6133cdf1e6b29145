use Rattle.std.proofs.Common.{◌≡◌, ◌≤◌, length, take}
use Rattle.std.specs.Io.KnownBytes.{Consumes}
use Rattle.pg_files.proofs.whole_io.fill.Given as goal

abbrev pub invariant-loop : goal.invariant-loop
invariant-loop g l = record {
  size : length l.into ≡ length l.initial.into;
  within : l.count ≤ length l.into;
  bytes : Consumes (g.R.Read.remaining l.initial.reader) (g.R.Read.remaining l.reader) (take l.count l.into);
}
