use Rattle.std.proofs.Common.{ap, refl, length, arith}
use Rattle.gin_pack.proofs.store.EntryStore.new.Goals as goal

pub returns : goal.returns
returns c = record {
  kind_is = refl;
  lists = tt;
  level = c.in_ok-leaves.ensures c.args.kind;
  count = refl;
  given = refl;
  grown = omega (arith, c.in_ok-append-2.ensures.size, c.in_ok-append.ensures.size, ap length c.new-image.ensures);
}
