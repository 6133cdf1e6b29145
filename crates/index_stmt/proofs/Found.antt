-- What was let through was found and is meant.
use Rattle.std.proofs.Common.{◌≡◌, ℕ, suc, ◌+◌, Bool, true, false, cond, List, [], ◌∷◌, Some, Result, Ok, Err, slice_get, refl, ap, arith}
use Rattle.std.specs.Str.{bytes_eq}
use Rattle.stmt_token.specs.Tokens.{TokenValue}
use Rattle.opclass.specs.declared.table.Column.{Column}
use Rattle.index_stmt.specs.declared.columns.Found.{Found}
use Rattle.index_stmt.specs.declared.fault.StmtCause.{StmtCause}
use Rattle.index_stmt.specs.declared.fault.StmtCause.TheVariants.{NotAllowed}
use Rattle.index_stmt.specs.Columns.{column_from}
use Rattle.index_stmt.specs.Rule.{Read, Rule, judged, meaning, refused}
use Rattle.index_stmt.specs.TypeNames.{number}
use Rattle.index_stmt.proofs.Lists.{both_read}
use Rattle.index_stmt.proofs.Tables.{same_value}

-- what isn't allowed wasn't read
pub not_allowed : {A : Type 0} (b : Bool) (tokens : List TokenValue) (otherwise : Read A) (value : A) (rest : List TokenValue)
    → cond b (refused NotAllowed tokens) otherwise ≡ Ok (value, rest) → otherwise ≡ Ok (value, rest)
not_allowed true tokens otherwise value rest e = cc
not_allowed false tokens otherwise value rest e = e

-- a column that is found stands in the table
pub record Stands (columns : List Column) (number : ℕ) (found : Found) : Type 0 where
  pub place : ℕ
  pub column : Column
  pub number_is : found.number ≡ number + place
  pub at : slice_get columns place ≡ Some column
  pub kind : column.kind ≡ found.kind

found_behind : (b : Bool) (number : ℕ) (first : Column) (others : List Column) (wanted : List ℕ) (found : Found)
    → (column_from (number + 1) others wanted ≡ Some found → Stands others (number + 1) found)
    → cond b (Some (record { number = number; kind = first.kind })) (column_from (number + 1) others wanted) ≡ Some found
    → Stands (first ∷ others) number found
found_behind true number first others wanted found rest e =
    let here : ◌≡◌ {A = Found} (record { number = number; kind = first.kind }) found = cc in
    let n = ap (λ (f : Found). f.number) here in
    record { place = 0; column = first; number_is = omega (arith, n); at = refl; kind = ap (λ (f : Found). f.kind) here }
found_behind false number first others wanted found rest e =
    let stands = rest e in
    let n = stands.number_is in
    record { place = suc stands.place; column = stands.column; number_is = omega (arith, n); at = stands.at; kind = stands.kind }

pub found_stands : (number : ℕ) (columns : List Column) (wanted : List ℕ) (found : Found) → column_from number columns wanted ≡ Some found
    → Stands columns number found
found_stands number [] wanted found e = cc
found_stands number (first ∷ others) wanted found e =
    found_behind (bytes_eq first.name wanted) number first others wanted found (found_stands (number + 1) others wanted found) e

-- what was meant was let through
pub let_through : {B : Type 0} (r : Result B StmtCause) (begun tokens rest : List TokenValue) (meant : B)
    → judged r begun tokens ≡ Ok (meant, rest) → r ≡ Ok meant
let_through (Ok value) begun tokens rest meant e = ap Ok (same_value value meant tokens rest e)
let_through (Err cause) begun tokens rest meant e = cc

pub meant_of : {A B : Type 0} (rule : Rule A) (judge : A → Result B StmtCause) (tokens rest : List TokenValue) (meant : B)
    → meaning rule judge tokens ≡ Ok (meant, rest) → (read : A) × (judge read ≡ Ok meant)
meant_of rule judge tokens rest meant e =
    let both = both_read (rule tokens) (λ read. judged (judge read) tokens) meant rest e in
    (both.0, let_through (judge both.0) tokens both.1 rest meant both.3)
