-- Rows on their way into a packer: the first of them, one more, the last, and two that clash.
use Rattle.std.proofs.Common.{◌≡◌, ℕ, zero, suc, ◌+◌, ◌<◌, List, [], ◌∷◌, ◌++◌, length, map, Some, IsTrue, refl, sym, ap, subst, ◌∙◌, inl, inr, arith, append_assoc}
use Rattle.std.specs.Prelude.{slice_get}
use Rattle.std.specs.Ordering.{is_lt}
use Rattle.std.specs.List.Sorted.{IsPermutation}
use Rattle.std.proofs.lemmas.Bool.{cases_lt}
use Rattle.std.proofs.lemmas.List.{map_push, length_push}
use Rattle.std.proofs.lemmas.List.Elements.{All-head, All-tail, All-weaker}
use Rattle.std.proofs.lemmas.List.Sorted.{All-permutation, IsPermutation-append_right, IsPermutation-refl, IsPermutation-trans, length_permutation}
use Rattle.std.proofs.lemmas.Option.{same_Some, slice_get_within}
use Rattle.opclass.specs.declared.spec.IndexSpec.{IndexSpec}
use Rattle.opclass.specs.declared.spec.SortPart.{SortPart}
use Rattle.opclass.specs.declared.types.ColType.{ColType}
use Rattle.shared_tape.specs.declared.stored.Record.{Record}
use Rattle.shared_tape.specs.Stored.{record_cmp}
use Rattle.run_merge.specs.Merging.{GivesOne, IsFirstOf, IsNotBelow, Merging}
use Rattle.run_merge.specs.Pass.{AreMerged}
use Rattle.run_merge.specs.Sorted.{IsSortedRecords}
use Rattle.run_merge.proofs.Ascending.{sorted-append, sorted-nil}
use Rattle.run_merge.proofs.Firsts.{record_weak}
use Rattle.run_merge.proofs.Merging.{all_merged, merged_more, none_merged}
use Rattle.btree_pack.specs.Groups.{Row}
use Rattle.btree_pack.specs.Pass.Taken.{row_of}
use Rattle.build_leader.specs.declared.fault.LeadFault.{LeadFault}
use Rattle.build_leader.specs.declared.fault.LeadFault.TheVariants as lead
use Rattle.build_leader.specs.Pass.{AreComing, AreRowsOf, IsClash, IsTypedRow, IsPackFault, PutsRow, TakesRowsOf, WerePut}
use Rattle.build_leader.specs.Unique.{Clash, ClashAt, IsFirstClash, NoneClash}
use Rattle.build_leader.proofs.InsertedRows.{in_order}

-- ---- places in lists that are joined

pub get-left : {X : Type 0} (xs ys : List X) (place : ℕ) → place < length xs → slice_get (xs ++ ys) place ≡ slice_get xs place
get-left [] ys place inside = absurd (omega arith)
get-left (x ∷ xs) ys zero inside = refl
get-left (x ∷ xs) ys (suc place) inside = get-left xs ys place (omega arith)

pub get-right : {X : Type 0} (xs ys : List X) (place : ℕ) → slice_get (xs ++ ys) (length xs + place) ≡ slice_get ys place
get-right [] ys place = ap (λ (k : ℕ). slice_get ys k) (omega arith)
get-right (x ∷ xs) ys place =
    (let e : length (x ∷ xs) + place ≡ suc (length xs + place) = omega arith in
    ap (λ (k : ℕ). slice_get ((x ∷ xs) ++ ys) k) e)
    ∙ get-right xs ys place

module _ (spec : IndexSpec) where
  -- ---- clashes of neighbours

  -- neighbours at a place before the last of these are neighbours among these
  clash_before : (rows more : List Record) (place : ℕ) (a b : Record) → place + 1 < length rows
      → ClashAt spec (rows ++ more) place a b → ClashAt spec rows place a b
  clash_before rows more place a b inside at = record {
    one = sym (get-left rows more place (omega arith)) ∙ at.one;
    next = sym (get-left rows more (place + 1) inside) ∙ at.next;
    clash = at.clash;
  }

  none_alone : (row : Record) → NoneClash spec (row ∷ [])
  none_alone row place a b at =
      let inside = slice_get_within (row ∷ []) (place + 1) b at.next in
      omega arith

  -- the last of these, and the one behind it
  last_two : (before more : List Record) (held next : Record) (place : ℕ) → place ≡ length before
      → (slice_get ((before ++ held ∷ []) ++ next ∷ more) place ≡ Some held)
      × (slice_get ((before ++ held ∷ []) ++ next ∷ more) (place + 1) ≡ Some next)
  last_two before more held next place is = (
    at (length before + 0) (omega arith) ∙ get-right before (held ∷ next ∷ more) 0,
    (let e : place + 1 ≡ length before + 1 = omega arith in whole (place + 1) ∙ ap (λ (k : ℕ). slice_get (before ++ held ∷ next ∷ more) k) e)
        ∙ get-right before (held ∷ next ∷ more) 1,
  )
    where
      whole : (k : ℕ) → slice_get ((before ++ held ∷ []) ++ next ∷ more) k ≡ slice_get (before ++ held ∷ next ∷ more) k
      whole k = ap (λ l. slice_get l k) (append_assoc before (held ∷ []) (next ∷ more))

      at : (k : ℕ) → place ≡ k
          → slice_get ((before ++ held ∷ []) ++ next ∷ more) place ≡ slice_get (before ++ held ∷ next ∷ more) k
      at k e = whole place ∙ ap (λ (k : ℕ). slice_get (before ++ held ∷ next ∷ more) k) e

  none_more : (before : List Record) (held next : Record) → NoneClash spec (before ++ held ∷ [])
      → (Clash spec held next → ⊥) → NoneClash spec ((before ++ held ∷ []) ++ next ∷ [])
  none_more before held next none agree place a b at =
      let rows = before ++ held ∷ [] in
      let size = length_push before held in
      let all = length_push rows next in
      let inside = slice_get_within (rows ++ next ∷ []) (place + 1) b at.next in
      elim (cases_lt (place + 1) (length rows)) [
        | inl earlier ↦ none place a b (clash_before rows (next ∷ []) place a b earlier at)
        | inr last ↦
            let ends = last_two before [] held next place (omega (arith, size, all, inside, last)) in
            let one : a ≡ held = same_Some a held (sym at.one ∙ ends.0) in
            let other : b ≡ next = same_Some b next (sym at.next ∙ ends.1) in
            agree (subst (λ x. Clash spec held x) other (subst (λ x. Clash spec x b) one at.clash))
      ]

  first_clash : (before more : List Record) (held next : Record) → NoneClash spec (before ++ held ∷ [])
      → Clash spec held next → IsFirstClash spec ((before ++ held ∷ []) ++ next ∷ more) held.ptr next.ptr
  first_clash before more held next none clash =
      let ends = last_two before more held next (length before) refl in
      let size = length_push before held in record {
        place = length before;
        a = held;
        b = next;
        clash = record { one = ends.0; next = ends.1; clash = clash };
        least = λ earlier a b less at. none earlier a b
            (clash_before (before ++ held ∷ []) (next ∷ more) earlier a b (omega (arith, size)) at);
        first_is = refl;
        second_is = refl;
      }

-- ---- rows that are merged

-- the rows that are left change places
merged_turned : (order : List SortPart) (whole merged left moved : List Record) → IsPermutation left moved
    → AreMerged order whole merged left → AreMerged order whole merged moved
merged_turned order whole merged left moved same was = record {
  same = IsPermutation-trans whole (merged ++ left) (merged ++ moved) was.same
      (IsPermutation-append_right merged left moved same);
  ascending = was.ascending;
  below = All-weaker (λ row. IsFirstOf order row left) (λ row. IsFirstOf order row moved)
      (λ row first. All-permutation (λ other. IsNotBelow order other row) left moved same first) merged was.below;
}

-- a merge gives the next row
merged_next : (order : List SortPart) (whole merged : List Record) (old new : Merging) (row : Record) → old.order ≡ order
    → GivesOne old row new → AreMerged order whole merged old.left → AreMerged order whole (merged ++ row ∷ []) new.left
merged_next order whole merged old new row is gives was =
    let first : IsFirstOf order row old.left = subst (λ parts. IsFirstOf parts row old.left) is gives.first in
    merged_more order whole merged (row ∷ new.left) new.left new.left row
    (merged_turned order whole merged old.left (row ∷ new.left) gives.taken was) refl
    (All-permutation (λ other. IsNotBelow order other row) old.left (row ∷ new.left) gives.taken first)
    (IsPermutation-refl new.left)

-- the rows that are left, in order behind those that are merged
all_in_order : (order : List SortPart) (whole merged left : List Record) → AreMerged order whole merged left
    → (rest : List Record) × IsSortedRecords order whole (merged ++ rest)
all_in_order order whole merged left was =
    let rest = in_order (λ (a b : Record). is_lt (record_cmp order a b)) (record_weak order) left in
    let turned = merged_turned order whole merged left rest.sorted rest.same was in (
      rest.sorted,
      record {
        same = turned.same;
        ascending = sorted-append (λ (a b : Record). is_lt (record_cmp order a b)) (record_weak order) merged rest.sorted
            was.ascending rest.ascending turned.below;
      },
    )

-- ---- rows on their way into a packer

-- a merge has fewer rows left once it gave one
pub fewer_left : (old new : Merging) (row : Record) → GivesOne old row new → length new.left < length old.left
fewer_left old new row gives =
    let same = length_permutation old.left (row ∷ new.left) gives.taken in
    omega (arith, same)

module _ {P : Type 0} (has : IndexSpec → List ColType → List Row → P → Type 0) where
  -- a packer takes a row
  put_more : (spec : IndexSpec) (kinds : List ColType) (packer packer' : P) (held : Record) → PutsRow has packer held packer'
      → (rows : List Record) → has spec kinds (map row_of rows) packer → has spec kinds (map row_of (rows ++ held ∷ [])) packer'
  put_more spec kinds packer packer' held takes rows put =
      subst (λ put. has spec kinds put packer') (sym (map_push row_of rows held)) (takes spec kinds (map row_of rows) put)

  module _ (spec : IndexSpec) (kinds : List ColType) (order : List SortPart) (whole : List Record) where
    -- the packer takes the row that is held back
    pub takes_held : (takes : P → Row → Type 0) → TakesRowsOf has takes → (left : List Record) (packer : P) (held : Record)
        → AreComing has spec kinds order whole left packer held → takes packer (row_of held)
    takes_held takes law left packer held was =
        law spec kinds (map row_of was.before) packer (row_of held) was.put
        (All-head (IsTypedRow spec kinds) held left was.rows)

    -- no rows are put already
    pub comes_none : (packer : P) → whole ≡ [] → has spec kinds [] packer → WerePut has spec kinds order whole packer
    comes_none packer none put =
        subst (λ rows. WerePut has spec kinds order rows packer) (sym none) (record {
          sorted = [];
          in_order = record {
            same = IsPermutation-refl [];
            ascending = sorted-nil (λ (a b : Record). is_lt (record_cmp order a b)) (record_weak order);
          };
          unique = λ said place a b at. cc;
          put = put;
        })

    pub comes_first : (old new : Merging) (packer : P) (held : Record) → old.order ≡ order → whole ≡ old.left
        → GivesOne old held new → AreRowsOf spec kinds old.left → has spec kinds [] packer
        → AreComing has spec kinds order whole new.left packer held
    comes_first old new packer held is whole_is gives rows put = record {
      before = [];
      merged = merged_next order whole [] old new held is gives
          (none_merged order whole old.left (subst (IsPermutation whole) whole_is (IsPermutation-refl whole)));
      unique = λ unique. none_alone spec held;
      put = put;
      rows = All-permutation (IsTypedRow spec kinds) old.left (held ∷ new.left) gives.taken rows;
    }

    pub comes_next : (old new : Merging) (packer packer' : P) (held next : Record) → old.order ≡ order
        → (was : AreComing has spec kinds order whole old.left packer held) → GivesOne old next new
        → PutsRow has packer held packer' → (IsTrue spec.unique → Clash spec held next → ⊥)
        → AreComing has spec kinds order whole new.left packer' next
    comes_next old new packer packer' held next is was gives put agree = record {
      before = was.before ++ held ∷ [];
      merged = merged_next order whole (was.before ++ held ∷ []) old new next is gives was.merged;
      unique = λ unique. none_more spec was.before held next (was.unique unique) (agree unique);
      put = put_more spec kinds packer packer' held put was.before was.put;
      rows = All-permutation (IsTypedRow spec kinds) old.left (next ∷ new.left) gives.taken
          (All-tail (IsTypedRow spec kinds) held old.left was.rows);
    }

    pub comes_last : (left : List Record) (packer packer' : P) (held : Record)
        → (was : AreComing has spec kinds order whole left packer held) → left ≡ [] → PutsRow has packer held packer'
        → WerePut has spec kinds order whole packer'
    comes_last left packer packer' held was none put = record {
      sorted = was.before ++ held ∷ [];
      in_order = all_merged order whole (was.before ++ held ∷ []) left was.merged none;
      unique = was.unique;
      put = put_more spec kinds packer packer' held put was.before was.put;
    }

    comes_clash : (old new : Merging) (packer : P) (held next : Record) → old.order ≡ order
        → (was : AreComing has spec kinds order whole old.left packer held) → GivesOne old next new
        → IsTrue spec.unique → Clash spec held next
        → (sorted : List Record) × IsSortedRecords order whole sorted × IsFirstClash spec sorted held.ptr next.ptr
    comes_clash old new packer held next is was gives unique clash =
        let merged = was.before ++ held ∷ [] in
        let all = all_in_order order whole (merged ++ next ∷ []) new.left
        (merged_next order whole merged old new next is gives was.merged) in (
          (merged ++ next ∷ []) ++ all.0,
          all.1,
          subst (λ rows. IsFirstClash spec rows held.ptr next.ptr) (sym (append_assoc merged (next ∷ []) all.0))
              (first_clash spec was.before all.0 held next (was.unique unique) clash),
        )

    -- why the row that is held back isn't put is why none are packed
    pub comes_to_fault : (old new : Merging) (packer : P) (held next : Record) (fault : LeadFault) → old.order ≡ order
        → AreComing has spec kinds order whole old.left packer held → GivesOne old next new
        → IsClash spec held next fault → IsPackFault spec order whole fault
    comes_to_fault old new packer held next (lead.Row block item cause) is was gives none = none
    comes_to_fault old new packer held next (lead.Duplicate first second) is was gives clash =
        let told = comes_clash old new packer held next is was gives clash.0 clash.1 in (
          clash.0,
          (
            told.0,
            told.1,
            subst (λ ptr. IsFirstClash spec told.0 first ptr) (sym clash.3)
                (subst (λ ptr. IsFirstClash spec told.0 ptr next.ptr) (sym clash.2) told.2),
          ),
        )
    comes_to_fault old new packer held next (lead.RangeWide range size) is was gives none = absurd none
    comes_to_fault old new packer held next lead.Memory is was gives memory = tt
