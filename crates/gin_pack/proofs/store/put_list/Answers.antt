use Rattle.gin_pack.proofs.Storings.{many-large}
use Rattle.gin_pack.proofs.store.put_list.Goals as goal

pub returns-then-ptrs-gt-MOST_SIZE-clause-fits : goal.returns-then-ptrs-gt-MOST_SIZE-clause-fits
returns-then-ptrs-gt-MOST_SIZE-clause-fits c =
    (λ none. absurd cc, λ small. absurd (many-large c.args.kind c.args.entry.now c.args.ptrs.now c.if-ptrs-gt-MOST_SIZE.true small))
