use Rattle.std.proofs.Common.{◌≡◌, ℕ, ◌+◌, ap, drop, ◌∙◌}
use Rattle.btree_pack.specs.Pass.Added.{last_key, leaves_came}
use Rattle.btree_pack.specs.Pass.Buffer.{leaves_between}
use Rattle.btree_pack.specs.Pass.Sight.{fillfactor_of, packing_of}
use Rattle.btree_pack.specs.declared.leaves.LeafPlace.{LeafPlace}
use Rattle.btree_pack.specs.declared.run_leaves.RunLeaves.{RunLeaves}
use Rattle.btree_pack.proofs.Adding.{page-laid}
use Rattle.btree_pack.proofs.run_leaves.RunLeaves.lay_others.Goals as goal

pub loop-last-preserved : goal.loop-last-preserved
loop-last-preserved c =
    let i = c.loop-last.invariant in
    let leaves = c.args.leaves.now in
    let fillfactor = fillfactor_of c.args.self.now.tower in
    let key = c.loop-last.high_key.now in
    let was = packing_of c.loop-last.self.tower in
    let made = c.in_ok-last.ensures in
    let first : c.behind-next.result.number ≡ c.loop-last.last.number + 1 = ap (λ (p : LeafPlace). p.number) c.behind-next.ensures in
    let laid = page-laid fillfactor key was leaves c.behind-next.result.number c.in_ok-last.last.number c.separator-high_key.result.now
    (packing_of c.lay_page.new.self.tower) made.order made.last.inside c.requires.leaves i.leaf c.separator-high_key.ensures
    (made.laid ∙ ap (λ (n : ℕ). leaves_came n key was (leaves_between c.behind-next.result.number c.in_ok-last.last.number leaves)) i.fillfactor) in
    record {
      place = made.last;
      laid = laid.laid ∙ ap (λ (n : ℕ). leaves_came fillfactor key was (drop n leaves)) first ∙ i.laid;
      key = laid.last_is ∙ ap (λ (n : ℕ). last_key key (drop n leaves)) first ∙ i.key;
      leaf = laid.leaf;
      room = laid.room;
      fillfactor = made.fillfactor ∙ i.fillfactor;
      others = made.others ∙ ap (λ (s : RunLeaves). record s { tower = c.lay_page.new.self.tower; tuple = c.lay_page.new.self.tuple }) i.others;
    }
