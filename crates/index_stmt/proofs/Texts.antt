-- What texts come to.
use Rattle.std.proofs.Common.{◌≡◌, ℕ, ◌≤◌, ◌⊎◌, inl, inr, false, List, length, Result, Ok, Err, refl, nat_lt, arith}
use Rattle.std.proofs.lemmas.Bool.Decides.{nat_tests}
use Rattle.stmt_token.specs.Tokens.{tokens_of}
use Rattle.index_stmt.specs.declared.fault.StmtFault.{StmtFault}
use Rattle.index_stmt.specs.Faults.{most_bytes, told}
use Rattle.index_stmt.specs.Laws.{Alike, Comes, OnlyTokensCount}
use Rattle.index_stmt.specs.Rule.{Read, Rule}

some_of : {A : Type 0} (r : Result A StmtFault) → ((value : A) × (r ≡ Ok value)) ⊎ ((fault : StmtFault) × (r ≡ Err fault))
some_of (Ok value) = inl (value, refl)
some_of (Err fault) = inr (fault, refl)

ok_is_no_err : {A : Type 0} (r : Result A StmtFault) (value : A) (fault : StmtFault) → r ≡ Ok value → r ≡ Err fault → ⊥
ok_is_no_err r value fault a b = cc

one_value : {A : Type 0} (r : Result A StmtFault) (a b : A) → r ≡ Ok a → r ≡ Ok b → a ≡ b
one_value r a b p q = cc

one_fault : {A : Type 0} (r : Result A StmtFault) (a b : StmtFault) → r ≡ Err a → r ≡ Err b → a ≡ b
one_fault r a b p q = cc

pub comes : {A : Type 0} (read : List ℕ → Result A StmtFault) → Comes read
comes read = record {
  some = λ text. some_of (read text);
  either = λ text. ok_is_no_err (read text);
  value = λ text. one_value (read text);
  fault = λ text. one_fault (read text);
}

told_alike : {A : Type 0} (statement : ℕ) (one other : List ℕ) (read : Read A) → Alike statement one other (told statement one read) (told statement other read)
told_alike statement one other (Ok read) = refl
told_alike statement one other (Err fault) = (fault.0, length fault.1, refl, refl)

pub short_enough : (text : List ℕ) → length text ≤ 65536 → nat_lt most_bytes (length text) ≡ false
short_enough text short = grind (arith, nat_tests)

pub tokens_count : {A : Type 0} (statement : ℕ) (rule : Rule A) → OnlyTokensCount statement rule
tokens_count {A} statement rule one other short_one short_other same =
    rw (short_enough one short_one, short_enough other short_other, same) (told_alike statement one other (rule (tokens_of other)))
