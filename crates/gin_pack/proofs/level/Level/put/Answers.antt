use Rattle.gin_pack.proofs.level.Level.put.Goals as goal

pub make_room-requires-clause-filling : goal.make_room-requires-clause-filling
make_room-requires-clause-filling c = record { kind = c.requires.kind; flags = c.requires.flags; items = c.requires.items; has = c.requires.has }

pub add-requires-clause-takes : goal.add-requires-clause-takes
add-requires-clause-takes c = record {
  kind = c.requires.kind;
  flags = c.requires.flags;
  items = c.requires.items;
  has = c.in_ok-make_room.ensures.kept c.requires.kind c.requires.flags c.requires.items c.requires.has;
  entry = c.requires.entry;
  names = c.requires.names;
  tuple_is = c.requires.tuple_is;
}

pub returns : goal.returns
returns c =
    λ kind flags items entry has names.
    c.in_ok-add.ensures kind flags items entry (c.in_ok-make_room.ensures.kept kind flags items has) names
