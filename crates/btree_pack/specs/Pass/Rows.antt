-- One row more, at the end of rows in groups.
use Rattle.std.specs.Prelude.{ℕ, nat_lt, ◌&&◌, if◌then◌else◌, List, [], ◌∷◌, ◌++◌, length}
use Rattle.btree_pack.specs.Groups.{Row, Group, rows_of, have_same_keys}

-- a group with one row more
abbrev pub grown : Group → Row → Group
grown group row = record group { others = group.others ++ row ∷ [] }

-- a row by itself
abbrev pub alone : Row → Group
alone row = record { first = row; others = [] }

-- A row behind groups: it joins the last one where the keys are equal and fewer rows than the most are there, which
-- hangs on the group.
abbrev pub with_last : (Group → ℕ) → List Group → Row → List Group
with_last most [] row = alone row ∷ []
with_last most (group ∷ []) row =
    if have_same_keys group.first row && nat_lt (length (rows_of group)) (most group)
    then grown group row ∷ []
    else group ∷ alone row ∷ []
with_last most (group ∷ next ∷ groups) row = group ∷ with_last most (next ∷ groups) row
