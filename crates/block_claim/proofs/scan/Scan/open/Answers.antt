use Rattle.block_claim.proofs.Tables.{opens}
use Rattle.block_claim.proofs.scan.Scan.open.Goals as goal

pub of_words-requires : goal.of_words-requires
of_words-requires c = opens (record { blocks = c.args.blocks; seats = c.args.seats })
