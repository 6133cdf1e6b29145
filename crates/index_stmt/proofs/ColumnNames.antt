-- Columns by their names.
use Rattle.std.proofs.Common.{◌≡◌, ℕ, ◌+◌, ◌<◌, ◌≤◌, suc, Bool, true, false, cond, List, ◌∷◌, length, drop, get_or, Option, Some, None, option_and_then, refl, ap, sym, ◌∙◌, arith, drop-cons, add-one}
use Rattle.std.proofs.Math.ListN.{drop_of_length-le}
use Rattle.std.specs.Str.{bytes_eq}
use Rattle.std.proofs.lemmas.Slice.Eq.{bytes_eq-Decides}
use Rattle.opclass.specs.declared.table.Column.{Column}
use Rattle.index_stmt.specs.Columns.{column_from}
use Rattle.index_stmt.specs.declared.columns.Found.{Found}

passed_over : (b : Bool) (found : Option Found) (other : Option Found) → (b ≡ true → ⊥) → cond b found other ≡ other
passed_over true found other differs = absurd (differs refl)
passed_over false found other differs = refl

-- a column of another name is passed over
other_name : (number : ℕ) (column : Column) (columns : List Column) (name : Option (List ℕ)) → (name ≡ Some column.name → ⊥)
    → option_and_then (column_from number (column ∷ columns)) name ≡ option_and_then (column_from (number + 1) columns) name
other_name number column columns None differs = refl
other_name number column columns (Some name) differs =
    passed_over (bytes_eq column.name name) _ _ (λ same. differs (ap Some (sym ((bytes_eq-Decides column.name name).0 same))))

-- a column of this name is found
this_name : (number : ℕ) (column : Column) (columns : List Column) (name : Option (List ℕ)) → name ≡ Some column.name
    → option_and_then (column_from number (column ∷ columns)) name ≡ Some (record { number = number; kind = column.kind })
this_name number column columns name same =
    rw (same, (bytes_eq-Decides column.name column.name).1 refl) refl

-- what stands from a place on
from_place : (columns : List Column) (index : ℕ) (column : Column) → index < length columns → column ≡ get_or columns index column
    → drop index columns ≡ column ∷ drop (index + 1) columns
from_place columns index column inside is =
    drop-cons columns index column inside ∙ ap (λ c. c ∷ drop (suc index) columns) (sym is) ∙ ap (λ n. column ∷ drop n columns) (sym (add-one index))

pub passed_column : (columns : List Column) (index : ℕ) (column : Column) (name : Option (List ℕ)) → index < length columns
    → column ≡ get_or columns index column → (name ≡ Some column.name → ⊥)
    → option_and_then (column_from (1 + index) (drop index columns)) name
    ≡ option_and_then (column_from (1 + (index + 1)) (drop (index + 1) columns)) name
passed_column columns index column name inside is differs =
    ap (λ left. option_and_then (column_from (1 + index) left) name) (from_place columns index column inside is)
    ∙ other_name (1 + index) column (drop (index + 1) columns) name differs
    ∙ ap (λ n. option_and_then (column_from n (drop (index + 1) columns)) name) (let e : 1 + index + 1 ≡ 1 + (index + 1) = omega arith in e)

pub this_column : (columns : List Column) (index : ℕ) (column : Column) (name : Option (List ℕ)) → index < length columns
    → column ≡ get_or columns index column → name ≡ Some column.name
    → option_and_then (column_from (1 + index) (drop index columns)) name ≡ Some (record { number = index + 1; kind = column.kind })
this_column columns index column name inside is same =
    ap (λ left. option_and_then (column_from (1 + index) left) name) (from_place columns index column inside is)
    ∙ this_name (1 + index) column (drop (index + 1) columns) name same
    ∙ ap (λ n. Some (record { number = n; kind = column.kind })) (let e : 1 + index ≡ index + 1 = omega arith in e)

pub no_column : (columns : List Column) (index : ℕ) (name : Option (List ℕ)) → length columns ≤ index
    → option_and_then (column_from (1 + index) (drop index columns)) name ≡ None
no_column columns index None past = refl
no_column columns index (Some name) past = rw (drop_of_length-le columns past) refl
