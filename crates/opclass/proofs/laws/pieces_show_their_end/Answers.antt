use Rattle.opclass.proofs.Pieces.{piece_shows_end}
use Rattle.opclass.proofs.laws.pieces_show_their_end.Goals as goal

pub returns : goal.returns
returns c = piece_shows_end
