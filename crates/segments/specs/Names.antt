-- The names of a relation's segments (_mdfd_segpath of md.c): the first has the relation's own name, and each further
-- one has its number behind a point.
use Rattle.std.specs.Prelude.{ℕ, List, ◌∷◌, ◌++◌, nat_eq, if◌then◌else◌}
use Rattle.std.specs.Fmt.{decimal}

abbrev pub segment_name : List ℕ → ℕ → List ℕ
segment_name name number = if nat_eq number 0 then name else name ++ (46 ∷ decimal number)

-- the names of so many first segments of a relation
pub record Series : Type 0 where
  pub name : List ℕ
  pub count : ℕ
