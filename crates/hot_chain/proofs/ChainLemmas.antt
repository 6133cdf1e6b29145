-- What follows from the definition of a chain.
use Rattle.std.proofs.Common.{◌≡◌, ℕ, zero, suc, List, refl, sym, subst, ◌∙◌, arith}
use Rattle.heap_page.specs.Line.{IsLine, IsNormal}
use Rattle.hot_chain.specs.Chain.{Follows, IsHead, Own, Redirected, IsBehind, HasMember}

-- one item at most follows another
pub follows-is-one : (page : List ℕ) (item a b : ℕ) → Follows page item a → Follows page item b → a ≡ b
follows-is-one page item a b first second = first.named ∙ sym second.named

-- a chain has one head at most
pub head-is-one : (page : List ℕ) (start a b : ℕ) → IsHead page start a → IsHead page start b → a ≡ b
head-is-one page start a b (Own normal direct same) (Own normal' direct' same') = same ∙ sym same'
head-is-one page start a b (Own normal direct same) (Redirected redirect at target) = absurd (omega (arith, normal.1, redirect.1))
head-is-one page start a b (Redirected redirect at target) (Own normal direct same) = absurd (omega (arith, normal.1, redirect.1))
head-is-one page start a b (Redirected redirect at target) (Redirected redirect' at' target') = at ∙ sym at'

pub head-is-normal : (page : List ℕ) (start head : ℕ) → IsHead page start head → IsNormal page head
head-is-normal page start head (Own normal direct same) = subst (λ (k : ℕ). IsNormal page k) (sym same) normal
head-is-normal page start head (Redirected redirect at target) = target

pub start-is-line : (page : List ℕ) (start head : ℕ) → IsHead page start head → IsLine page start
start-is-line page start head (Own normal direct same) = normal.0
start-is-line page start head (Redirected redirect at target) = redirect.0

behind-is-normal : (page : List ℕ) (steps item later : ℕ) → IsNormal page item → IsBehind page item steps later → IsNormal page later
behind-is-normal page zero item later normal same = subst (λ (k : ℕ). IsNormal page k) same normal
behind-is-normal page (suc steps) item later normal b = behind-is-normal page steps b.0 later b.1.normal b.2

pub member-is-normal : (page : List ℕ) (start item : ℕ) → HasMember page start item → IsNormal page item
member-is-normal page start item m = behind-is-normal page m.2.0 m.0 item (head-is-normal page start m.0 m.1) m.2.1

pub member-of-line : (page : List ℕ) (start item : ℕ) → HasMember page start item → IsLine page start
member-of-line page start item m = start-is-line page start m.0 m.1

-- one step further along the chain
behind-more : (page : List ℕ) (steps item later next : ℕ) → IsBehind page item steps later → Follows page later next → IsBehind page item (suc steps) next
behind-more page zero item later next same f = (next, subst (λ (k : ℕ). Follows page k next) (sym same) f, refl)
behind-more page (suc steps) item later next b f = (b.0, b.1, behind-more page steps b.0 later next b.2 f)

-- a chain's head is a member of it, and so is what follows a member
pub head-is-member : (page : List ℕ) (start head : ℕ) → IsHead page start head → HasMember page start head
head-is-member page start head h = (head, h, (0, refl))

pub next-is-member : (page : List ℕ) (start item next : ℕ) → HasMember page start item → Follows page item next → HasMember page start next
next-is-member page start item next m f = (m.0, m.1, (suc m.2.0, behind-more page m.2.0 m.0 item next m.2.1 f))
