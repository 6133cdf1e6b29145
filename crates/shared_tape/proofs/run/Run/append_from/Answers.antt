use Rattle.std.proofs.Common.{◌≡◌, ◌∙◌, ◌++◌, ◌∷◌, [], List, ℕ, ap, length}
use Rattle.shared_tape.specs.Places.{stored_at}
use Rattle.shared_tape.proofs.Standing.{has_two}
use Rattle.shared_tape.proofs.RunSteps.{Puts, has_at_start, put_sound, put_view}
use Rattle.shared_tape.proofs.run.Run.append_from.Goals as goal

pub stored_at-stored-requires : goal.stored_at-stored-requires
stored_at-stored-requires c =
    rw c.deref.ensures.value
    (has_two _ _ _ _ (has_at_start _ _ _ _ _ _ _ c.other.invariant c.other.view_is c.requires.within c.index-start.ensures))

puts_of : (c : goal.After-lay)
    → Puts c.self.inside.order c.self.inside.laid.bytes.items c.self.inside.laid.starts.items c.self.inside.taken c.other.inside.order
    c.other.inside.laid.bytes.items c.other.inside.laid.starts.items c.other.inside.taken c.args.at c.index-start.result.now c.stored_at-stored.result.now
    c.args.self.now c.args.other.now
puts_of c = record {
  sound = c.self.invariant;
  seen = c.self.view_is;
  other_sound = c.other.invariant;
  other_seen = c.other.view_is;
  same_order = c.requires.order;
  within = c.requires.within;
  start_read = c.index-start.ensures;
  piece_is = c.stored_at-stored.ensures ∙ ap (λ (bytes : List ℕ). stored_at bytes c.index-start.result.now) c.deref.ensures.value;
  ascending = c.requires.ascending;
}

put_bytes : (c : goal.After-lay) → c.lay.new.laid.bytes.items ≡ c.self.inside.laid.bytes.items ++ c.stored_at-stored.result.now
put_bytes c = c.lay.ensures.bytes ∙ ap (λ (bytes : List ℕ). bytes ++ c.stored_at-stored.result.now) c.in_ok-make_room.ensures.bytes

put_starts : (c : goal.After-lay) → c.lay.new.laid.starts.items ≡ c.self.inside.laid.starts.items ++ length c.self.inside.laid.bytes.items ∷ []
put_starts c =
    c.lay.ensures.starts
    ∙ (λ i. c.in_ok-make_room.ensures.starts i ++ length (c.in_ok-make_room.ensures.bytes i) ∷ [])

pub invariant_of-self-2 : goal.invariant_of-self-2
invariant_of-self-2 c = put_sound (puts_of c) _ _ (put_bytes c) (put_starts c)

pub returns-clause-ok : goal.returns-clause-ok
returns-clause-ok c = put_view (puts_of c) _ _ (put_bytes c) (put_starts c)
