use Rattle.std.proofs.Common.{◌∙◌, ◌-◌, ap, length}
use Rattle.shared_tape.specs.Places.{head_of}
use Rattle.shared_tape.proofs.Heads.{head_of-padded}
use Rattle.shared_tape.proofs.place.head_of.Goals as goal

pub returns-else-bytes-gt-HALF : goal.returns-else-bytes-gt-HALF
unfolding head_of
returns-else-bytes-gt-HALF c = c.read_u128-else-bytes-gt-HALF.ensures ∙ ap head_of c.padded.ensures ∙ head_of-padded (16 - length c.args.bytes.now) c.args.bytes.now
