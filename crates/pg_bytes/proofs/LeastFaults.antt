-- There is one least fault.
use Rattle.std.proofs.Common.{◌≡◌, ℕ, subst, sym, inl, inr, arith}
use Rattle.pg_bytes.specs.LeastFault.{IsLeastFault, IsNotBehind}

-- two faults of which neither is behind the other are one
one-place : (item number item' number' : ℕ) → IsNotBehind item number item' number' → IsNotBehind item' number' item number → (item ≡ item') × (number ≡ number')
one-place item number item' number' (inl h) (inl g) = absurd (omega (arith, h, g))
one-place item number item' number' (inl h) (inr g) = absurd (omega (arith, h, g.0))
one-place item number item' number' (inr h) (inl g) = absurd (omega (arith, h.0, g))
one-place item number item' number' (inr h) (inr g) = (h.0, omega (arith, h.1, g.1))

-- the least fault is one
pub least-fault-is-one : {Cause : Type 0} (number_of : Cause → ℕ) (HasFault : ℕ → Cause → Type 0) (item number item' number' : ℕ)
    → IsLeastFault number_of HasFault item number → IsLeastFault number_of HasFault item' number' → (item ≡ item') × (number ≡ number')
least-fault-is-one number_of HasFault item number item' number' a b =
    one-place item number item' number'
    (subst (λ (n : ℕ). IsNotBehind item number item' n) (sym b.told) (a.least item' b.cause b.there))
    (subst (λ (n : ℕ). IsNotBehind item' number' item n) (sym a.told) (b.least item a.cause a.there))
