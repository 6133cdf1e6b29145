-- What follows from the definition of a build's outcome.
use Rattle.std.specs.Prelude.{◌≡◌, List, ℕ, Some}
use Rattle.pg_files.specs.Outside.{FileMap}
use Rattle.pg_index.specs.Outcome.{HasOutcome, Outcome}

-- words and files that are told come to one outcome at most
abbrev pub OutcomeIsDetermined : Type 0
OutcomeIsDetermined =
    (words : List (List ℕ)) (told : FileMap) (a b : Outcome)
    → HasOutcome words (Some told) a → HasOutcome words (Some told) b → a ≡ b
