use Rattle.tuple_data.proofs.Room.{room-data}
use Rattle.tuple_data.proofs.laws.data_take_their_room.Goals as goal

pub returns : goal.returns
returns c = room-data 0
