use Rattle.std.proofs.Common.{◌∙◌, ◌++◌, List, ℕ, ap, refl, arith}
use Rattle.gin_file.specs.EntryTuple.{tree_tuple}
use Rattle.gin_pack.proofs.Storings.{few-pointers, puts-tree}
use Rattle.gin_pack.proofs.store.EntryStore.put_tuple.Goals as goal

pub overflow_cast-ptrs : goal.overflow_cast-ptrs
overflow_cast-ptrs c =
    let few = few-pointers c.args.self.now.kind c.args.entry.now c.args.ptrs.now
    (c.in_ok-put_list.ensures.fits.0 c.if-branch.true) in
    omega arith

pub returns : goal.returns
returns c =
    let grown = c.requires.storing.has.grown in
    puts-tree c.args.self.now _ (record { entry = c.args.entry.now; pointers = c.args.ptrs.now }) c.in_ok-root.root c.requires.listed
    (λ small. let yes = c.in_ok-put_list.ensures.fits.1 small in let no = c.if-branch.false in absurd cc) (omega arith) (omega arith) c.in_ok-root.ensures
    (c.in_ok-put_leading_tuple.ensures
    ∙ ap (λ (l : List ℕ). l ++ tree_tuple c.args.self.now.kind c.args.entry.now c.in_ok-root.root) c.clear.ensures.items) refl refl refl
