-- Which rows an index has: the conditions of WHERE, in three-valued logic (ExecQual of execExpr.c; NullTest and strict
-- comparisons of execExprInterp.c).
use Rattle.std.specs.Prelude.{◌≡◌, ℕ, Bool, true, false, ◌==◌, if◌then◌else◌, Option, Some, None, option_and_then, List, [], ◌∷◌, All}
use Rattle.std.specs.declared.cmp.Ordering.{Ordering}
use Rattle.std.specs.Ordering.{int_cmp, nat_cmp, is_eq, is_ne, is_lt, is_le, is_gt, is_ge}
use Rattle.std.specs.Cmp.Lexicographic.{slice_cmp}
use Rattle.opclass.specs.declared.value.KeyVal.{KeyVal}
use Rattle.opclass.specs.declared.value.KeyVal.TheVariants.{Nil, Num, Raw}
use Rattle.opclass.specs.declared.filter.Op.{Op}
use Rattle.opclass.specs.declared.filter.Op.TheVariants.{Eq, Ne, Lt, Le, Gt, Ge}
use Rattle.opclass.specs.declared.filter.Test.{Test}
use Rattle.opclass.specs.declared.filter.Test.TheVariants.{IsNull, NotNull, Num as Number, Raw as Text}
use Rattle.opclass.specs.declared.filter.Cond.{Cond}

-- a comparison is true of two values that stand to each other in this way
abbrev pub is_met : Op → Ordering → Bool
is_met Eq order = is_eq order
is_met Ne order = is_ne order
is_met Lt order = is_lt order
is_met Le order = is_le order
is_met Gt order = is_gt order
is_met Ge order = is_ge order

-- whether a test is true of a value, or None where that is unknown: a comparison with null is
abbrev pub verdict : Test → KeyVal → Option Bool
verdict IsNull Nil = Some true
verdict IsNull value = Some false
verdict NotNull Nil = Some false
verdict NotNull value = Some true
verdict (Number op literal) (Num number) = Some (is_met op (int_cmp number literal))
verdict (Text op literal) (Raw bytes) = Some (is_met op (slice_cmp nat_cmp bytes literal))
verdict test value = None

-- the value of a column, of the values of these columns
abbrev pub value_of : List ℕ → List KeyVal → ℕ → Option KeyVal
value_of [] values column = None
value_of (first ∷ columns) [] column = None
value_of (first ∷ columns) (value ∷ values) column =
    if first == column then Some value else value_of columns values column

-- a condition is true
abbrev pub CondHolds : List ℕ → List KeyVal → Cond → Type 0
CondHolds columns values cond = option_and_then (verdict cond.test) (value_of columns values cond.column) ≡ Some true

-- every condition of a filter is true
abbrev pub PassesFilter : List Cond → List ℕ → List KeyVal → Type 0
PassesFilter filter columns values = All (CondHolds columns values) filter
