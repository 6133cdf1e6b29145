-- The end of a list that has one element at least, told by its first and the others.
use Rattle.std.specs.Prelude.{List, [], ◌∷◌}

abbrev pub last_of : {X : Type 0} → X → List X → X
last_of first [] = first
last_of first (next ∷ others) = last_of next others

abbrev pub all_but_last : {X : Type 0} → X → List X → List X
all_but_last first [] = []
all_but_last first (next ∷ others) = first ∷ all_but_last next others
