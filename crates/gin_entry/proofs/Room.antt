-- How large the tuple of an entry is at most.
use Rattle.std.proofs.Common.{ℕ, ◌+◌, ◌≤◌, Bool, true, false, cond, [], ◌∷◌, length, arith}
use Rattle.std.specs.Prelude.{◌==◌}
use Rattle.std.proofs.lemmas.List.Sums.{sum_by-cons}
use Rattle.pg_bytes.specs.Numbers.{rounded_up}
use Rattle.opclass.specs.declared.types.ColType.{ColType}
use Rattle.opclass.specs.Types.{facts_of}
use Rattle.tuple_data.specs.Laws.{room_of}
use Rattle.tuple_data.proofs.Room.{room-data}
use Rattle.gin_entry.specs.declared.entry.Entry.{Entry}
use Rattle.gin_entry.specs.declared.entry.Category.TheVariants.{Key}
use Rattle.gin_entry.specs.Entries.{number_of_category}
use Rattle.gin_entry.specs.EntrySize.{entry_size, key_data, key_end, key_kinds}

rounded_up_2 : (x : ℕ) → rounded_up 2 x ≤ x + 1
rounded_up_2 x = omega arith

rounded_up_8 : (x : ℕ) → rounded_up 8 x ≤ x + 7
rounded_up_8 x = omega arith

key_data_room : (kind : ColType) (entry : Entry) → length (key_data kind entry) ≤ room_of entry.key
key_data_room kind entry =
    omega (
      arith,
      room-data 0 (key_kinds (facts_of kind).form) (entry.key ∷ []),
      sum_by-cons room_of entry.key [],
    )

end_room : (is_key : Bool) (size room : ℕ) → size ≤ room → cond is_key (rounded_up 8 (8 + size)) 17 ≤ room + 17
end_room true size room fits = omega (arith, rounded_up_8 (8 + size))
end_room false size room fits = omega arith

pub entry_room : (kind : ColType) (entry : Entry) → entry_size kind entry ≤ room_of entry.key + 25
entry_room kind entry =
    omega (
      arith,
      end_room (entry.category == number_of_category Key) (length (key_data kind entry)) (room_of entry.key) (key_data_room kind entry),
      rounded_up_2 (key_end kind entry),
      rounded_up_8 (rounded_up 2 (key_end kind entry)),
    )
