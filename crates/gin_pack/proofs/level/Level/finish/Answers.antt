use Rattle.gin_pack.proofs.Fillings.{finished-pages}
use Rattle.gin_pack.proofs.level.Level.finish.Goals as goal

pub returns : goal.returns
returns c =
    λ kind flags items is.
    finished-pages kind flags items c.args.self _ c.in_ok-push.ensures.items is
