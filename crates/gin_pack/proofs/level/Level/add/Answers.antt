use Rattle.std.proofs.Common.{◌∙◌, ◌++◌, ap, refl, subst, sym, arith}
use Rattle.gin_pack.proofs.Fillings.{has_place, item-added}
use Rattle.gin_pack.specs.Pass.Filling.{NamesEntry}
use Rattle.gin_pack.proofs.level.Level.add.Goals as goal

pub overflow_add-self : goal.overflow_add-self
overflow_add-self c =
    let has = c.requires.takes.has in
    let p = has_place _ _ _ _ c.args.self.now c.args.tuple.now has.holds c.requires.takes.tuple_is c.requires.room in
    let few = p.few in omega arith

pub overflow_add-self-2 : goal.overflow_add-self-2
overflow_add-self-2 c =
    let has = c.requires.takes.has in
    let p = has_place _ _ _ _ c.args.self.now c.args.tuple.now has.holds c.requires.takes.tuple_is c.requires.room in
    let few = p.few in omega arith

pub put_item-requires-clause-upper : goal.put_item-requires-clause-upper
put_item-requires-clause-upper c =
    (has_place _ _ _ _ c.args.self.now c.args.tuple.now c.requires.takes.has.holds c.requires.takes.tuple_is c.requires.room).upper

pub put_item-requires-clause-room : goal.put_item-requires-clause-room
put_item-requires-clause-room c =
    (has_place _ _ _ _ c.args.self.now c.args.tuple.now c.requires.takes.has.holds c.requires.takes.tuple_is c.requires.room).room

pub returns : goal.returns
returns c =
    λ kind flags items entry has names.
    item-added kind flags items entry c.args.self.now _ c.args.tuple.now c.requires.takes.tuple_is c.requires.room refl refl refl refl
    c.put_item.ensures has (subst (λ bytes. NamesEntry kind entry bytes) (sym (c.in_ok-extend_from_slice.ensures.items ∙ ap (λ l. l ++ c.args.key.now) c.clear.ensures.items)) names)
