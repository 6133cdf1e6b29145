use Rattle.std.proofs.Common.{◌∙◌, ◌+◌, ap, subst}
use Rattle.gin_pack.specs.Pass.Filling.{NamesEntry}
use Rattle.gin_pack.proofs.Storings.{entry-stored, puts-same, store-takes, takes-same}
use Rattle.gin_pack.proofs.store.EntryStore.store.Goals as goal

pub put-requires : goal.put-requires
put-requires c =
    let puts = c.in_ok-put_tuple.ensures in
    let same = c.in_ok-put_key.ensures.others in
    takes-same _ _ _ _ _ _
    (ap (λ s. s.leaves) same ∙ puts.leaves) (c.deref.ensures.value ∙ ap (λ s. s.tuple.items) same) c.deref-2.ensures.value
    (store-takes c.args.self.now c.put_tuple.new.self (record { entry = c.args.entry.now; pointers = c.args.ptrs.now }) _ c.requires.storing puts
    (subst (λ k. NamesEntry k c.args.entry.now c.put_key.new.self.key.items) puts.kind c.in_ok-put_key.ensures.names))

pub returns : goal.returns
returns c =
    let puts = c.in_ok-put_tuple.ensures in
    let same = c.in_ok-put_key.ensures.others in
    entry-stored c.args.self.now c.put_tuple.new.self _ (record { entry = c.args.entry.now; pointers = c.args.ptrs.now }) _ puts
    (subst (λ k. NamesEntry k c.args.entry.now c.put_key.new.self.key.items) puts.kind c.in_ok-put_key.ensures.names)
    (puts-same _ _ _ _ _ _ _ (ap (λ s. s.leaves) same ∙ puts.leaves) (c.deref.ensures.value ∙ ap (λ s. s.tuple.items) same) c.deref-2.ensures.value c.in_ok-put.ensures)
    (ap (λ s. s.kind) same) (ap (λ s. s.image) same) (ap (λ s. s.entries + 1) same)
