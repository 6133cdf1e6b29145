use Rattle.std.proofs.Common.{◌∙◌, ◌++◌, ◌∷◌, [], List, ℕ, take, ap, arith}
use Rattle.std.proofs.lemmas.List.{length-drop, length-take-le, take_rest}
use Rattle.btree_pack.proofs.LeafBuffer.{leaves_cut-push}
use Rattle.btree_pack.specs.Pass.Buffer.{leaves_cut}
use Rattle.btree_pack.proofs.leaves.Leaves.push.Goals as goal

pub returns-clause-ok : goal.returns-clause-ok
returns-clause-ok c =
    let within = c.requires.tuple in
    let tuple = length-take-le c.args.tuple c.args.bytes.now within in
    let separator = length-drop c.args.tuple c.args.bytes.now in
    rw (c.push_reserved.ensures.items, c.in_ok-extend_from_slice-2.ensures.items, c.in_ok-extend_from_slice.ensures.items, c.in_ok-reserve-2.ensures.items, c.in_ok-reserve.ensures.items, ← c.self.view_is)
    (leaves_cut-push c.self.inside.sizes.items c.self.inside.tuples.items c.self.inside.separators.items _ _ _ c.self.invariant (omega arith) (omega arith)
    ∙ ap (λ (s : List ℕ). leaves_cut c.self.inside.sizes.items c.self.inside.tuples.items c.self.inside.separators.items
    ++ record { tuple = take c.args.tuple c.args.bytes.now; extra = c.args.extra; separator = s } ∷ []) (take_rest c.args.bytes.now c.args.tuple))
