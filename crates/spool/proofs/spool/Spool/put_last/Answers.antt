use Rattle.std.proofs.Common.{◌≡◌, ◌≤◌, ◌∷◌, ◌++◌, [], List, length, ap, arith, subst, sym, ◌∙◌, length-append}
use Rattle.std.specs.List.Sorted.{IsPermutation}
use Rattle.opclass.specs.declared.spec.SortPart.{SortPart}
use Rattle.shared_tape.specs.declared.stored.Record.{Record}
use Rattle.shared_tape.specs.Runs.{RunView}
use Rattle.spool.specs.Spools.{SpoolView, AreBoundedRuns, spooled}
use Rattle.spool.proofs.Spooling.{put_last, bounded, bounded_more}
use Rattle.spool.proofs.spool.Spool.put_last.Goals as goal

-- the buffer keeps its order
same_order : (c : goal.After-push_back_reserved) → c.take_run.new.self.order ≡ c.self.inside.current.order
same_order c =
    ap (λ (run : RunView). run.order) c.take_run.ensures.emptied ∙ ap (λ (run : RunView). run.order) c.in_ok-put_copy.ensures.ok

put_behind : (c : goal.After-push_back_reserved)
    → c.push_back_reserved.new.self.items ≡ c.self.inside.full.items ++ c.take_run.result ∷ []
put_behind c =
    c.push_back_reserved.ensures.items
    ∙ ap (λ (runs : List RunView). runs ++ c.take_run.result ∷ []) c.reserve.ensures.items

pub invariant_of-self-2 : goal.invariant_of-self-2
invariant_of-self-2 c =
    let few : length c.put_copy.new.self.records ≤ c.self.inside.run_rows =
    omega (
      arith,
      c.self.invariant.room,
      ap (λ (run : RunView). length run.records) c.in_ok-put_copy.ensures.ok,
      length-append c.self.inside.current.records (c.args.row.now ∷ []),
    ) in
    record {
      full =
          subst (λ (order : List SortPart). AreBoundedRuns order c.self.inside.run_rows c.push_back_reserved.new.self.items)
          (sym (same_order c))
          (bounded_more _ _ _ _ _ c.self.invariant.full
          (bounded _ _ c.put_copy.new.self.records _ few
          (c.take_run.ensures.order ∙ ap (λ (run : RunView). run.order) c.in_ok-put_copy.ensures.ok) c.take_run.ensures.records c.take_run.ensures.run)
          (put_behind c));
      room = omega (arith, c.self.invariant.room, ap (λ (run : RunView). length run.records) c.take_run.ensures.emptied);
    }

pub returns-clause-ok : goal.returns-clause-ok
returns-clause-ok c = record {
  run_rows = ap (λ (spool : SpoolView). spool.run_rows) c.self.view_is;
  order = same_order c ∙ ap (λ (spool : SpoolView). spool.order) c.self.view_is;
  records =
      subst
      (λ (rows : List Record). IsPermutation (rows ++ c.args.row.now ∷ []) (spooled c.push_back_reserved.new.self.items c.take_run.new.self.records))
      (ap (λ (spool : SpoolView). spool.records) c.self.view_is)
      (subst
      (λ (rows : List Record). IsPermutation (spooled c.self.inside.full.items c.self.inside.current.records ++ c.args.row.now ∷ [])
      (spooled c.push_back_reserved.new.self.items rows))
      (sym (ap (λ (run : RunView). run.records) c.take_run.ensures.emptied))
      (put_last _ _ _ _ _ _ c.in_ok-put_copy.ensures.ok c.take_run.ensures.records (put_behind c)));
}
