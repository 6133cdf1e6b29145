-- Words without a fault, one after the other.
use Rattle.std.proofs.Common.{◌⊎◌, ℕ, zero, suc, ◌+◌, ◌<◌, ◌≤◌, List, length, arith, below_more}
use Rattle.pg_index.specs.Words.{IsFaulty, IsFaultlessBelow, IsRepeated, IsUnknown}

-- no word is counted 0
pub faultless_none : (words : List (List ℕ)) → IsFaultlessBelow words 1
faultless_none words zero lt fault = fault
faultless_none words (suc j) lt fault = absurd (omega arith)

pub faultless_more : (words : List (List ℕ)) (k : ℕ) → IsFaultlessBelow words k → (IsFaulty words k → ⊥) → IsFaultlessBelow words (k + 1)
faultless_more words k below here = below_more (λ (j : ℕ). IsFaulty words j → ⊥) k below here

-- behind the statements a word is at fault where it is no option or repeats one
pub option_fault : (words : List (List ℕ)) (k : ℕ) → 5 < k → k ≤ length words → IsUnknown words k ⊎ IsRepeated words k → IsFaulty words k
option_fault words (suc (suc (suc (suc (suc (suc k)))))) behind there fault = (there, fault)
option_fault words (suc (suc (suc (suc (suc zero))))) behind there fault = absurd (omega arith)
option_fault words (suc (suc (suc (suc zero)))) behind there fault = absurd (omega arith)
option_fault words (suc (suc (suc zero))) behind there fault = absurd (omega arith)
option_fault words (suc (suc zero)) behind there fault = absurd (omega arith)
option_fault words (suc zero) behind there fault = absurd (omega arith)
option_fault words zero behind there fault = absurd (omega arith)

-- and nowhere else
pub of_option : (words : List (List ℕ)) (k : ℕ) → 5 < k → IsFaulty words k → (k ≤ length words) × (IsUnknown words k ⊎ IsRepeated words k)
of_option words (suc (suc (suc (suc (suc (suc k)))))) behind fault = fault
of_option words (suc (suc (suc (suc (suc zero))))) behind fault = absurd (omega arith)
of_option words (suc (suc (suc (suc zero)))) behind fault = absurd (omega arith)
of_option words (suc (suc (suc zero))) behind fault = absurd (omega arith)
of_option words (suc (suc zero)) behind fault = absurd (omega arith)
of_option words (suc zero) behind fault = absurd (omega arith)
of_option words zero behind fault = absurd (omega arith)
