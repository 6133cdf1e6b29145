use Rattle.run_merge.proofs.Finding.{between_places}
use Rattle.run_merge.proofs.between.places_in.Goals as goal

pub returns-clause-records : goal.returns-clause-records
returns-clause-records c = between_places _ _ _ _ _ c.begin_of.ensures c.end_of.ensures.place
