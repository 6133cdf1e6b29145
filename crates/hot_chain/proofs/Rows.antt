-- The steps by which a page's rows are taken, and what a root is.
use Rattle.std.proofs.Common.{◌≡◌, inl, inr, ℕ, ◌+◌, ◌<◌, ◌≤◌, List, [], ◌∷◌, ◌++◌, Any, Bool, true, false, length, get_or, refl, sym, ap, subst, ◌∙◌, arith, get_or-set_other, get_or-set_same}
use Rattle.std.proofs.Math.ListN.{set}
use Rattle.std.proofs.lemmas.List.{get_or_append_left, length_push}
use Rattle.std.proofs.lemmas.List.Elements.{All-push}
use Rattle.std.proofs.lemmas.List.Quantifiers.{Any-push, all_pairs_push}
use Rattle.std.proofs.lemmas.Bool.{cases_eq, cases_lt, both_ways}
use Rattle.pg_bytes.specs.LeastFault.{IsNotBehind}
use Rattle.heap_page.specs.Line.{heap_line_count}
use Rattle.hot_chain.specs.Roots.{IsLive, IsRoot, IsRootOfLesser, IsOrphan, Row, AreRows, HasChainFault, HasSoundChains, IsLeastChainFault, number_of_root_cause}
use Rattle.hot_chain.specs.Pass.Rows.{AreRowsOfItemsBelow, IsInIndex}
use Rattle.hot_chain.specs.declared.fault.RootCause.{RootCause}
use Rattle.hot_chain.specs.declared.fault.RootCause.TheVariants.{Orphan, SharedRoot}

-- an item has one root at most
pub root-is-one : (page : List ℕ) (item a b : ℕ) → IsRoot page item a → IsRoot page item b → a ≡ b
root-is-one page item a b (inl own) (inl same) = own.1 ∙ sym same.1
root-is-one page item a b (inl own) (inr other) = absurd (own.0 other.0)
root-is-one page item a b (inr own) (inl other) = absurd (other.0 own.0)
root-is-one page item a b (inr own) (inr same) = let up = own.1.1 b same.1.0 in let down = same.1.1 a own.1.0 in omega arith

-- an item with a fault is live
pub fault-is-live : (page : List ℕ) (item : ℕ) (cause : RootCause) → HasChainFault page item cause → IsLive page item
fault-is-live page item Orphan f = f.0
fault-is-live page item SharedRoot f = f.0

-- an item that has a root is no orphan
pub root-no-orphan : (page : List ℕ) (item root : ℕ) → IsRoot page item root → IsOrphan page item → ⊥
root-no-orphan page item root (inl own) f = own.0 f.1
root-no-orphan page item root (inr own) f = f.2 root own.1.0

pub rows_begin : (page : List ℕ) (in_index : List Bool) → ((root : ℕ) → get_or in_index root false ≡ false) → AreRowsOfItemsBelow page 1 [] in_index
rows_begin page in_index free = record {
  count = omega arith;
  each = λ i d below. absurd (omega arith);
  below = λ i d below. absurd (omega arith);
  ascending = λ i j d less below. absurd (omega arith);
  all = λ item below live. absurd (omega (arith, live.0.0.0));
  owned = λ root t. absurd (both_ways (get_or in_index root false) (free root) t);
  indexed = λ item root below live r. absurd (omega (arith, live.0.0.0));
  sound = λ item cause below f. let live = fault-is-live page item cause f in omega (arith, live.0.0.0);
}

-- a row of a list is one of the list with one more
Any-more : (P : Row → Type 0) (rows : List Row) (row : Row) → Any P rows → Any P (rows ++ row ∷ [])
Any-more P rows row a = (a.0, a.1, omega (arith, a.2, length_push rows row), get_or_append_left rows (row ∷ []) a.1 a.0 a.2 ∙ a.3, a.4)

module _ (page : List ℕ) (end : ℕ) (rows : List Row) (in_index : List Bool) (done : AreRowsOfItemsBelow page end rows in_index) where
  -- a fact of each item below one end, and of the end, holds below the next
  upto : (P : ℕ → Type 0) (item : ℕ) → item < end + 1 → (item < end → P item) → P end → P item
  upto P item below lesser here =
      elim (cases_lt item end) as (λ _. P item) [
        | inl less ↦ lesser less
        | inr most ↦ subst P (let e : end ≡ item = omega arith in e) here
      ]

  -- what is said of items below one end holds below the next
  one_more : (root : ℕ) → IsRootOfLesser page end root → IsRootOfLesser page (end + 1) root
  one_more root o = (o.0, omega (arith, o.1), o.2, o.3)

  pub rows_skip : (IsLive page end → ⊥) → AreRowsOfItemsBelow page (end + 1) rows in_index
  rows_skip dead = record {
    count = omega (arith, done.count);
    each = done.each;
    below = λ i d within. let b = done.below i d within in omega arith;
    ascending = done.ascending;
    all = λ item below live.
        upto (λ (k : ℕ). IsLive page k → Any (λ (row : Row). row.item ≡ k) rows) item below (done.all item) (λ here. absurd (dead here)) live;
    owned = λ root t. one_more root (done.owned root t);
    indexed = λ item root below live r.
        upto (λ (k : ℕ). IsLive page k → IsRoot page k root → IsInIndex in_index root) item below (λ less. done.indexed item root less) (λ here _. absurd (dead here)) live r;
    sound = λ item cause below f.
        upto (λ (k : ℕ). HasChainFault page k cause → ⊥) item below (done.sound item cause) (λ g. dead (fault-is-live page end cause g)) f;
  }

  -- of the faults from this item on, the item's own with no greater a cause is the least
  least_here : (number : ℕ) → ((its : RootCause) → HasChainFault page end its → number ≤ number_of_root_cause its)
      → (other : ℕ) (its : RootCause) → HasChainFault page other its → IsNotBehind end number other (number_of_root_cause its)
  least_here number least other its f =
      elim (cases_lt other end) as (λ _. IsNotBehind end number other (number_of_root_cause its)) [
        | inl less ↦ absurd (done.sound other its less f)
        | inr most ↦ elim (cases_eq other end) as (λ _. IsNotBehind end number other (number_of_root_cause its)) [
          | inl same ↦ inr (let e : end ≡ other = sym same in e, least its (subst (λ (k : ℕ). HasChainFault page k its) same f))
          | inr differ ↦ inl (omega arith)
        ]
      ]

  five_at_least : (its : RootCause) → HasChainFault page end its → 5 ≤ number_of_root_cause its
  five_at_least Orphan f = omega arith
  five_at_least SharedRoot f = omega arith

  pub fault_orphan : IsOrphan page end → IsLeastChainFault page end 5
  fault_orphan orphan = record { cause = Orphan; told = refl; there = orphan; least = least_here 5 five_at_least }

  six_at_least : (root : ℕ) → IsRoot page end root → (its : RootCause) → HasChainFault page end its → 6 ≤ number_of_root_cause its
  six_at_least root r Orphan f = absurd (root-no-orphan page end root r f)
  six_at_least root r SharedRoot f = omega arith

  pub fault_shared : (root : ℕ) → IsLive page end → IsRoot page end root → IsInIndex in_index root → IsLeastChainFault page end 6
  fault_shared root live r t = record {
    cause = SharedRoot;
    told = refl;
    there = (live, (root, r, done.owned root t));
    least = least_here 6 (six_at_least root r);
  }

  pub rows_end : heap_line_count page < end → AreRows page rows × HasSoundChains page
  rows_end last = (
    record {
      each = done.each;
      ascending = done.ascending;
      all = λ item live. done.all item (omega (arith, live.0.0.1)) live;
    },
    λ item cause f. let live = fault-is-live page item cause f in done.sound item cause (omega (arith, live.0.0.1)) f,
  )

  abbrev row_at : ℕ → Row
  row_at root = record { item = end; root = root }

  module _ (root : ℕ) (live : IsLive page end) (r : IsRoot page end root) (free : get_or in_index root false ≡ false) (inside : root < length in_index) where
    sound_here : (cause : RootCause) → HasChainFault page end cause → ⊥
    sound_here Orphan f = root-no-orphan page end root r f
    sound_here SharedRoot f =
        let same : f.1.0 ≡ root = root-is-one page end f.1.0 root f.1.1 r in
        let t = done.indexed f.1.2.0 f.1.0 f.1.2.1 f.1.2.2 f.1.2.3 in
        both_ways (get_or in_index root false) free (subst (λ (k : ℕ). get_or in_index k false ≡ true) same t)

    set_in_index : (other : ℕ) → IsInIndex in_index other → IsInIndex (set in_index root true) other
    set_in_index other t =
        elim (cases_eq other root) as (λ _. IsInIndex (set in_index root true) other) [
          | inl same ↦ ap (λ (k : ℕ). get_or (set in_index root true) k false) same ∙ get_or-set_same in_index root true false inside
          | inr ne ↦ get_or-set_other in_index root other true false ne ∙ t
        ]

    pub rows_add : AreRowsOfItemsBelow page (end + 1) (rows ++ row_at root ∷ []) (set in_index root true)
    rows_add = record {
      count = omega (arith, done.count, length_push rows (row_at root));
      each = All-push (λ (row : Row). IsLive page row.item × IsRoot page row.item row.root) rows (row_at root) done.each (live, r);
      below = All-push (λ (row : Row). row.item < end + 1) rows (row_at root) (λ i d within. let b = done.below i d within in omega arith) (omega arith);
      ascending = all_pairs_push (λ (row later : Row). row.item < later.item) rows (row_at root) done.ascending done.below;
      all = λ item below alive.
          upto (λ (k : ℕ). IsLive page k → Any (λ (row : Row). row.item ≡ k) (rows ++ row_at root ∷ [])) item below
          (λ less l. Any-more (λ (row : Row). row.item ≡ item) rows (row_at root) (done.all item less l))
          (λ l. Any-push (λ (row : Row). row.item ≡ end) rows (row_at root) refl)
          alive;
      owned = λ other t.
          elim (cases_eq other root) as (λ _. IsRootOfLesser page (end + 1) other) [
            | inl same ↦ (end, omega arith, live, subst (λ (k : ℕ). IsRoot page end k) (sym same) r)
            | inr ne ↦ one_more other (done.owned other (sym (get_or-set_other in_index root other true false ne) ∙ t))
          ];
      indexed = λ item other below alive its.
          upto (λ (k : ℕ). IsLive page k → IsRoot page k other → IsInIndex (set in_index root true) other) item below
          (λ less l i. set_in_index other (done.indexed item other less l i))
          (λ l i. ap (λ (k : ℕ). get_or (set in_index root true) k false) (root-is-one page end other root i r) ∙ get_or-set_same in_index root true false inside)
          alive its;
      sound = λ item cause below f. upto (λ (k : ℕ). HasChainFault page k cause → ⊥) item below (done.sound item cause) (sound_here cause) f;
    }
