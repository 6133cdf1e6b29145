-- How many attributes a pivot keeps.
use Rattle.std.proofs.Common.{◌≡◌, ℕ, zero, suc, ◌-◌, ◌<◌, ◌≤◌, List, [], ◌∷◌, length, take, slice_index_or, Bool, IsTrue, Equal, refl, sym, ap, ◌∙◌, arith}
use Rattle.std.proofs.lemmas.List.{take-take}
use Rattle.std.specs.Prelude.{◌↔◌}
use Rattle.std.specs.Cmp.{Equal-is}
use Rattle.std.specs.Ordering.{is_eq, ordering_then}
use Rattle.std.specs.Cmp.Lexicographic.{slice_cmp}
use Rattle.std.proofs.lemmas.Cmp.{tied_itself}
use Rattle.opclass.specs.declared.value.Elem.{Elem}
use Rattle.opclass.specs.declared.value.KeyVal.{KeyVal}
use Rattle.opclass.specs.declared.value.KeyVal.TheVariants.{Items}
use Rattle.opclass.specs.Order.{elem_cmp}
use Rattle.opclass.proofs.KeyOrder.{elem_cmp_total, elements_cmp_exact}
use Rattle.btree_item.specs.Truncation.{KeepsUpToDifference}

-- of two numbers that are kept neither is less
not_less : (left right : List KeyVal) (one other : ℕ) → KeepsUpToDifference left right one → KeepsUpToDifference left right other → one < other → ⊥
not_less left right one other keeps keeps' less =
    let shorter : one ≤ other - 1 = omega arith in
    let inside : one ≤ length right = let within = keeps'.within in omega arith in
    keeps.apart inside (sym (take-take one (other - 1) left shorter) ∙ ap (take one) keeps'.alike ∙ take-take one (other - 1) right shorter)

pub keeps_one_number : (left right : List KeyVal) (one other : ℕ) → KeepsUpToDifference left right one → KeepsUpToDifference left right other → one ≡ other
keeps_one_number left right one other keeps keeps' =
    let up : one < other → ⊥ = not_less left right one other keeps keeps' in
    let down : other < one → ⊥ = not_less left right other one keeps' keeps in
    grind (arith, up, down)

-- two lists that are alike before a place and there are alike behind it
pub alike_more : (left right : List KeyVal) (at : ℕ) (x y : KeyVal) → at < length left → at < length right → x ≡ slice_index_or left at x
    → y ≡ slice_index_or right at y → take at left ≡ take at right → x ≡ y → take (suc at) left ≡ take (suc at) right
alike_more [] right at x y inside inside' here there alike same = absurd (omega arith)
alike_more (a ∷ left) [] at x y inside inside' here there alike same = absurd (omega arith)
alike_more (a ∷ left) (b ∷ right) zero x y inside inside' here there alike same = let e : a ≡ b = sym here ∙ same ∙ there in ap (λ v. v ∷ []) e
alike_more (a ∷ left) (b ∷ right) (suc at) x y inside inside' here there alike same =
    let head : a ≡ b = cc in
    let tail : take at left ≡ take at right = cc in
    let more = alike_more left right at x y (omega arith) (omega arith) here there tail same in
    cc

-- two lists that are alike behind a place are alike there
pub alike_at : (left right : List KeyVal) (at : ℕ) (x y : KeyVal) → at < length left → at < length right → x ≡ slice_index_or left at x
    → y ≡ slice_index_or right at y → take (suc at) left ≡ take (suc at) right → x ≡ y
alike_at [] right at x y inside inside' here there alike = absurd (omega arith)
alike_at (a ∷ left) [] at x y inside inside' here there alike = absurd (omega arith)
alike_at (a ∷ left) (b ∷ right) zero x y inside inside' here there alike = let e : a ≡ b = cc in here ∙ e ∙ sym there
alike_at (a ∷ left) (b ∷ right) (suc at) x y inside inside' here there alike =
    let tail : take (suc at) left ≡ take (suc at) right = cc in
    alike_at left right at x y (omega arith) (omega arith) here there tail

elements_level : (a : List Elem) → slice_cmp elem_cmp a a ≡ Equal
elements_level [] = refl
elements_level (x ∷ a) = ap (λ o. ordering_then o (slice_cmp elem_cmp a a)) (tied_itself elem_cmp_total x) ∙ elements_level a

-- what the order of elements tells of arrays
pub same_elements : (a b : List Elem) (answer : Bool) → answer ≡ is_eq (slice_cmp elem_cmp a b) → IsTrue answer ↔ (a ≡ b)
same_elements a b answer told = (
  (λ yes. elements_cmp_exact a b ((Equal-is (slice_cmp elem_cmp a b)).0 (sym told ∙ yes))),
  (λ same. told ∙ ap is_eq (ap (slice_cmp elem_cmp a) (sym same) ∙ elements_level a)),
)

pub same_arrays : (x y : KeyVal) (a b : List Elem) (answer : Bool) → x ≡ Items a → y ≡ Items b → IsTrue answer ↔ (a ≡ b) → IsTrue answer ↔ (x ≡ y)
same_arrays x y a b answer first second told = (
  (λ yes. first ∙ ap Items (told.0 yes) ∙ sym second),
  (λ same. told.1 (let e : Items a ≡ Items b = sym first ∙ same ∙ second in cc)),
)
