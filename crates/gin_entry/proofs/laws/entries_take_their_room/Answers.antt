use Rattle.gin_entry.proofs.Room.{entry_room}
use Rattle.gin_entry.proofs.laws.entries_take_their_room.Goals as goal

pub returns : goal.returns
returns c = entry_room
