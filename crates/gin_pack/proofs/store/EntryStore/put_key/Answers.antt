use Rattle.std.proofs.Common.{◌∙◌, ◌++◌, List, ℕ, ap}
use Rattle.gin_pack.proofs.Storings.{names}
use Rattle.gin_file.specs.EntryTuple.{leading_tuple}
use Rattle.gin_pack.proofs.store.EntryStore.put_key.Goals as goal

pub returns-clause-names : goal.returns-clause-names
returns-clause-names c =
    names c.args.self.now.kind c.args.entry.now _ c.requires.entry c.requires.small
    (c.in_ok-put_leading_tuple.ensures
    ∙ ap (λ (l : List ℕ). l ++ leading_tuple c.args.self.now.kind c.args.entry.now (record { block = 0; offset = 0 })) c.clear.ensures.items)
