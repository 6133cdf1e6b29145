use Rattle.std.proofs.Common.{◌≡◌, ◌∷◌, ◌++◌, [], ap, sym, subst, ◌∙◌, arith, List}
use Rattle.opclass.specs.declared.spec.SortPart.{SortPart}
use Rattle.shared_tape.specs.declared.stored.Record.{Record}
use Rattle.shared_tape.specs.Stored.{IsStorable}
use Rattle.shared_tape.specs.Runs.{RunView}
use Rattle.shared_tape.proofs.Held.{put_places, put_records}
use Rattle.shared_tape.proofs.run_buf.RunBuf.put_copy.Goals as goal

pub invariant_of-self : goal.invariant_of-self
invariant_of-self c =
    let same : c.self.inside.order ≡ c.args.self.now.order = ap (λ (v : RunView). v.order) c.self.view_is in
    let storable : IsStorable c.self.inside.order c.args.row.now = subst (λ (o : List SortPart). IsStorable o c.args.row.now) (sym same) c.requires in
    record {
      places = put_places _ _ _ _ _ _ storable c.in-Ok.ensures.bytes c.in-Ok.ensures.places c.self.invariant.places;
      ready = λ some. c.in-Ok.ensures.ready;
      empty = (c.add-added.ensures.ready_bytes ∙ c.self.invariant.empty.0, c.add-added.ensures.ready_starts ∙ c.self.invariant.empty.1);
      room = omega (arith, c.in-Ok.ensures.room);
      slots = omega (arith, c.in-Ok.ensures.slots);
    }

pub returns-in-Ok-clause-ok : goal.returns-in-Ok-clause-ok
returns-in-Ok-clause-ok c =
    let same : c.self.inside.order ≡ c.args.self.now.order = ap (λ (v : RunView). v.order) c.self.view_is in
    let storable : IsStorable c.self.inside.order c.args.row.now = subst (λ (o : List SortPart). IsStorable o c.args.row.now) (sym same) c.requires in
    ap (λ (rows : List Record). record { order = c.self.inside.order; records = rows })
    (put_records _ _ _ _ _ _ storable c.in-Ok.ensures.bytes c.in-Ok.ensures.places c.self.invariant.places)
    ∙ ap (λ (v : RunView). record { order = v.order; records = v.records ++ c.args.row.now ∷ [] }) c.self.view_is
