use Rattle.std.proofs.Common.{ℕ, ◌-◌, ap, ◌∙◌}
use Rattle.btree_pack.specs.Pass.Packed.{tuple_came}
use Rattle.btree_pack.specs.Pass.Sight.{fillfactor_of, packing_of}
use Rattle.btree_pack.specs.Pass.Taken.{last_image}
use Rattle.btree_pack.specs.declared.grouper.Grouper.{Grouper}
use Rattle.btree_pack.proofs.Bringing.{ready-brought}
use Rattle.btree_pack.proofs.open_leaves.OpenLeaves.bring.Goals as goal

pub returns-in-Some-clause-ready : goal.returns-in-Some-clause-ready
returns-in-Some-clause-ready c =
    rw (ap (λ (s : Grouper). s.kinds) c.in_ok-lay.ensures.rows, ap (λ (s : Grouper). s.keys) c.in_ok-lay.ensures.rows)
    (ready-brought c.args.rows.now c.args.self.now _ c.args.group c.requires.ready c.requires.group
    (record {
      packing = c.in_ok-lay.ensures.packing
          ∙ ap (λ (n : ℕ). tuple_came (fillfactor_of c.args.self.now.tower) (last_image c.args.rows.now.kinds c.args.rows.now.keys c.args.self.now.last)
          (packing_of c.args.self.now.tower) c.args.rows.now.tuple.items (n - c.args.group.size)) (c.len.ensures ∙ c.args.rows.now.tuple.ok.0);
      last = c.replace.ensures.after;
      fillfactor = c.in_ok-lay.ensures.fillfactor;
    }))

pub returns-in_default-clause-ready : goal.returns-in_default-clause-ready
returns-in_default-clause-ready c =
    rw (ap (λ (s : Grouper). s.kinds) c.in_ok-lay.ensures.rows, ap (λ (s : Grouper). s.keys) c.in_ok-lay.ensures.rows)
    (ready-brought c.args.rows.now c.args.self.now _ c.args.group c.requires.ready c.requires.group
    (record {
      packing = c.in_ok-lay.ensures.packing
          ∙ ap (λ (n : ℕ). tuple_came (fillfactor_of c.args.self.now.tower) (last_image c.args.rows.now.kinds c.args.rows.now.keys c.args.self.now.last)
          (packing_of c.args.self.now.tower) c.args.rows.now.tuple.items (n - c.args.group.size)) (c.len.ensures ∙ c.args.rows.now.tuple.ok.0);
      last = c.replace.ensures.after;
      fillfactor = c.in_ok-lay.ensures.fillfactor;
    }))
