-- The deltas of pointers that ascend.
use Rattle.std.proofs.Common.{◌≡◌, ℕ, ◌^◌, ◌+◌, ◌-◌, ◌<◌, inl, inr, List, [], ◌∷◌, ◌++◌, length, take, drop, sym, ap, subst, ◌∙◌, arith, get_or}
use Rattle.std.proofs.lemmas.List.{append_assoc, append-nil, drop_more, take_more}
use Rattle.pg_bytes.specs.Pointers.{IsBefore}
use Rattle.pg_bytes.specs.declared.row_ptr.RowPtr.{RowPtr}
use Rattle.posting_tree.proofs.Lists.{all-push}
use Rattle.posting_tree.specs.Pass.{AscendBehind}
use Rattle.posting_tree.specs.Segments.{AreAscending, HaveBlocks, IsBeforeFirst, IsStorable, deltas_behind, number_of, varbyte}

-- the numbers of storable pointers are ordered as the pointers
pub number-before : (p q : RowPtr) → IsStorable p → IsStorable q → IsBefore p q → number_of p < number_of q
number-before p q sp sq (inl block) = let a = sp.below in omega arith
number-before p q sp sq (inr same) = omega arith

first-before : (ptr : RowPtr) (others : List RowPtr) → IsStorable ptr → IsBeforeFirst ptr others → AreAscending others → AscendBehind (number_of ptr) others
first-before ptr [] s b a = tt
first-before ptr (next ∷ others) s b a = (number-before ptr next s a.0 b, first-before next others a.0 a.1 a.2)

-- pointers behind the first ascend behind its number
pub ascend-behind : (first : RowPtr) (others : List RowPtr) → AreAscending (first ∷ others) → AscendBehind (number_of first) others
ascend-behind first others a = first-before first others a.0 a.1 a.2

-- What was put, with the deltas of whatever pointers behind it, are all deltas with these pointers at the end.
abbrev pub Telescopes : List ℕ → ℕ → List RowPtr → List ℕ → ℕ → Type 0
Telescopes old number taken now last =
    (more : List RowPtr) → now ++ deltas_behind last more ≡ old ++ deltas_behind number (taken ++ more)

pub telescopes-more : (old now next : List ℕ) (number last : ℕ) (taken : List RowPtr) (ptr : RowPtr) → Telescopes old number taken now last
    → next ≡ now ++ varbyte (number_of ptr - last) → Telescopes old number (taken ++ ptr ∷ []) next (number_of ptr)
telescopes-more old now next number last taken ptr t put more =
    ap (λ (bytes : List ℕ). bytes ++ deltas_behind (number_of ptr) more) put
    ∙ append_assoc now (varbyte (number_of ptr - last)) (deltas_behind (number_of ptr) more)
    ∙ t (ptr ∷ more)
    ∙ ap (λ (all : List RowPtr). old ++ deltas_behind number all) (sym (append_assoc taken (ptr ∷ []) more))

pub telescoped : (old now : List ℕ) (number last : ℕ) (taken : List RowPtr) → Telescopes old number taken now last
    → now ≡ old ++ deltas_behind number taken
telescoped old now number last taken t =
    sym (append-nil now) ∙ t [] ∙ ap (λ (all : List RowPtr). old ++ deltas_behind number all) (append-nil taken)

-- one pointer more
pub record Step (old next : List ℕ) (number now : ℕ) (ptrs : List RowPtr) (at : ℕ) : Type 0 where
  pub put : Telescopes old number (take (at + 1) ptrs) next now
  pub ascends : AscendBehind now (drop (at + 1) ptrs)

pub step : (old now next : List ℕ) (number last new : ℕ) (ptrs : List RowPtr) (at : ℕ) (d : RowPtr) → at < length ptrs
    → Telescopes old number (take at ptrs) now last → AscendBehind last (drop at ptrs) → new ≡ number_of (get_or ptrs at d)
    → next ≡ now ++ varbyte (new - last) → Step old next number new ptrs at
step old now next number last new ptrs at d inside t a number_is put =
    let ptr : RowPtr = get_or ptrs at d in
    let ascends : AscendBehind last (ptr ∷ drop (at + 1) ptrs) = subst (AscendBehind last) (drop_more ptrs at d inside) a in
    record {
      put = subst (λ (taken : List RowPtr). Telescopes old number taken next new) (sym (take_more ptrs at d inside))
          (subst (λ (n : ℕ). Telescopes old number (take at ptrs ++ ptr ∷ []) next n) (sym number_is)
          (telescopes-more old now next number last (take at ptrs) ptr t (put ∙ ap (λ (n : ℕ). now ++ varbyte (n - last)) number_is)));
      ascends = subst (λ (n : ℕ). AscendBehind n (drop (at + 1) ptrs)) (sym number_is) ascends.1;
    }

pub blocks-more : (ptrs : List RowPtr) (at : ℕ) (d : RowPtr) → at < length ptrs → HaveBlocks (take at ptrs) → (get_or ptrs at d).block < 2 ^ 32
    → HaveBlocks (take (at + 1) ptrs)
blocks-more ptrs at d inside before here =
    subst HaveBlocks (sym (take_more ptrs at d inside)) (all-push (λ ptr. ptr.block < 2 ^ 32) (take at ptrs) (get_or ptrs at d) before here)
