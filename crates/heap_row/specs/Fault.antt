-- Why the values of a tuple can't be read, and how one reading follows another.
use Rattle.std.specs.Prelude.{◌≡◌, ℕ, Result, Ok, Err, ⊤}
use Rattle.heap_row.specs.declared.fault.RowCause.{RowCause}
use Rattle.heap_row.specs.declared.fault.RowCause.TheVariants.{PastEnd, Compressed, External, BadTruth, BadArray}
use Rattle.heap_row.specs.declared.fault.RowFault.{RowFault}
use Rattle.heap_row.specs.declared.fault.RowFault.TheVariants.{Value, Memory}

-- the number by which a cause is told
abbrev pub number_of_row_cause : RowCause → ℕ
number_of_row_cause PastEnd = 7
number_of_row_cause Compressed = 8
number_of_row_cause External = 9
number_of_row_cause BadTruth = 10
number_of_row_cause BadArray = 11

-- what was read goes into the next reading, and a cause ends both
infixl 10 ◌>>=◌
abbrev pub ◌>>=◌ : {A B : Type 0} → Result A RowCause → (A → Result B RowCause) → Result B RowCause
(Ok value) >>= next = next value
(Err cause) >>= next = Err cause

-- a fault is want of memory, or tells the cause that a reading comes to
abbrev pub IsFaultOf : {A : Type 0} → Result A RowCause → RowFault → Type 0
IsFaultOf reading Memory = ⊤
IsFaultOf reading (Value number) = (cause : RowCause) × (reading ≡ Err cause) × (number ≡ number_of_row_cause cause)

-- an answer is what a reading comes to, its cause told by number, or want of memory
abbrev pub IsAnswerOf : {A : Type 0} → Result A RowCause → Result A RowFault → Type 0
IsAnswerOf reading (Ok value) = reading ≡ Ok value
IsAnswerOf reading (Err fault) = IsFaultOf reading fault
