-- The file of the rows that were put.
use Rattle.std.proofs.Common.{◌≡◌, ℕ, ◌<◌, Bool, true, false, List, [], ◌∷◌, ◌++◌, length, refl, sym, ap, ◌∙◌, subst, arith, inl, inr}
use Rattle.std.specs.Prelude.{All, Some, None, ◌==◌}
use Rattle.std.proofs.lemmas.Bool.Decides.{nat_tests}
use Rattle.opclass.specs.declared.spec.IndexSpec.{IndexSpec}
use Rattle.opclass.specs.declared.types.ColType.{ColType}
use Rattle.btree_pack.specs.Groups.{Row, Group, leaf_groups}
use Rattle.btree_pack.specs.Images.{images_of}
use Rattle.btree_pack.specs.Laws.{IsSmall}
use Rattle.btree_pack.specs.Leaves.{Images, leaf_items, leaf_items_behind, plain_of}
use Rattle.btree_pack.specs.Nodes.{btree_file, file_of, has_keys_alone, index_levels, shares_tuples}
use Rattle.btree_pack.specs.Tower.{levels}
use Rattle.btree_pack.specs.Pass.Finish.{ArePackable, BeginsAtMinusInfinity, IsFileOfThePacked}
use Rattle.btree_pack.specs.Pass.Packed.{packed}
use Rattle.btree_pack.specs.Pass.Packing.{Packing}
use Rattle.btree_pack.specs.Pass.Put.{AreColumnsOf}
use Rattle.btree_pack.specs.Pass.Sight.{fillfactor_of}
use Rattle.btree_pack.specs.Pass.Taken.{HasBrought, HasGrouped, HasLaid, HasPacked, HasPackedAll, HasTaken, HasTakenLast, IsDone, IsOfOneIndex, IsReady}
use Rattle.btree_pack.specs.declared.grouper.Grouper.{Grouper}
use Rattle.btree_pack.specs.declared.open_leaves.OpenLeaves.{OpenLeaves}
use Rattle.btree_pack.specs.declared.row_group.RowGroup.{RowGroup}
use Rattle.btree_pack.proofs.Grouping.{leaf_items_in_turn}
use Rattle.btree_pack.proofs.NodePages.{leaf_items_written}
use Rattle.btree_pack.proofs.Bringing.{laid-more}
use Rattle.btree_pack.proofs.TupleImages.{writes_whole}

begins : (images : Images) (shares : Bool) (rows : List Row) → BeginsAtMinusInfinity (leaf_items images shares rows)
unfolding leaf_items
begins images shares rows = go (leaf_groups (λ row. length (plain_of images row)) shares rows)
  where
    go : (groups : List Group) → BeginsAtMinusInfinity (leaf_items_behind images 1 None groups)
    go [] = tt
    go (group ∷ groups) = refl

packable : (kinds : List ColType) (keys : ℕ) (shares : Bool) (rows : List Row) → All IsSmall (leaf_items (images_of kinds keys) shares rows)
    → ArePackable (leaf_items (images_of kinds keys) shares rows)
packable kinds keys shares rows small = record {
  small = small;
  written = leaf_items_written (images_of kinds keys) shares rows (writes_whole kinds keys);
  turn = leaf_items_in_turn (images_of kinds keys) shares rows;
  begin = begins (images_of kinds keys) shares rows;
}

-- whether there are keys alone
pub alone-is : (spec : IndexSpec) (kinds : List ColType) (keys : ℕ) → keys ≡ length spec.keys → AreColumnsOf spec kinds → (keys == length kinds) ≡ has_keys_alone spec
alone-is spec kinds keys is columns = go spec.includes refl
  where
    eq-yes : (a b : ℕ) → a ≡ b → (a == b) ≡ true
    eq-yes a b same = grind (arith, nat_tests)

    eq-no : (a b : ℕ) → a < b → (a == b) ≡ false
    eq-no a b less = grind (arith, nat_tests)

    test : List ℕ → Bool
    test l = elim l as (λ l. Bool) [ [] ↦ true | c ∷ others ↦ false ]

    go : (l : List ℕ) → spec.includes ≡ l → (keys == length kinds) ≡ has_keys_alone spec
    go [] same = let all = columns.all in let none = ap length same in eq-yes keys (length kinds) (omega arith) ∙ sym (ap test same)
    go (c ∷ others) same = let all = columns.all in let some = ap length same in eq-no keys (length kinds) (omega arith) ∙ sym (ap test same)

pub none-packed : (fillfactor : ℕ) → (packed fillfactor []).pages ≡ []
unfolding packed
none-packed fillfactor = refl

-- the packing of all rows, finished
pub file-of-rows : (spec : IndexSpec) (kinds : List ColType) (keys fillfactor : ℕ) (shares equal : Bool) (rows : List Row) (packing : Packing) (file : List ℕ)
    → keys ≡ length spec.keys → shares ≡ shares_tuples spec → fillfactor ≡ spec.fillfactor → equal ≡ has_keys_alone spec
    → packing ≡ packed fillfactor (leaf_items (images_of kinds keys) shares rows) → All IsSmall (leaf_items (images_of kinds keys) shares rows)
    → IsFileOfThePacked fillfactor equal packing file → file ≡ btree_file (images_of kinds (length spec.keys)) spec rows
unfolding btree_file index_levels
file-of-rows spec kinds keys fillfactor shares equal rows packing file k s f e is small finished =
    finished (leaf_items (images_of kinds keys) shares rows) is (packable kinds keys shares rows small)
    ∙ ap (λ b. file_of b (levels fillfactor (leaf_items (images_of kinds keys) shares rows))) e
    ∙ ap (λ (n : ℕ). file_of (has_keys_alone spec) (levels n (leaf_items (images_of kinds keys) shares rows))) f
    ∙ ap (λ (n : ℕ). file_of (has_keys_alone spec) (levels spec.fillfactor (leaf_items (images_of kinds n) shares rows))) k
    ∙ ap (λ b. file_of (has_keys_alone spec) (levels spec.fillfactor (leaf_items (images_of kinds (length spec.keys)) b rows))) s

-- ---- groups of rows to the leaves

index-same : (s t : Grouper) (done : List Group) (leaves : OpenLeaves) → t.kinds ≡ s.kinds → t.keys ≡ s.keys → HasLaid s.kinds s.keys done leaves → HasLaid t.kinds t.keys done leaves
index-same s t done leaves kinds keys laid = rw (kinds, keys) laid

-- a grouper with other memory
pub grouped-same : (s t : Grouper) (rows : List Row) (done : List Group) → t ≡ record s { spare = t.spare; tuple = t.tuple } → HasGrouped rows done s → HasGrouped rows done t
grouped-same s t rows done same (inl none) = inl (none.0, none.1, ap (λ (x : Grouper). x.pending) same ∙ none.2)
grouped-same s t rows done same (inr there) =
    let p = there.1.1 in
    subst (HasGrouped rows done) (sym same) (inr (
      there.0,
      (
        there.1.0,
        record {
          is = p.is;
          groups = p.groups;
          values = p.values;
          keys_all = p.keys_all;
          pointers = p.pointers;
          separator = p.separator;
          rows_are = p.rows_are;
        },
      ),
    ))

pub ready-same : (s t : Grouper) → t ≡ record s { spare = t.spare; tuple = t.tuple } → IsReady s → IsReady t
ready-same s t same ready = subst IsReady (sym same) (record { keys_few = ready.keys_few; few = ready.few; keys_alone = ready.keys_alone; pending = ready.pending })

-- a row that joined the last group
pub packed-joined : (old new : Grouper) (leaves : OpenLeaves) (row : Row) → IsOfOneIndex old new → HasTaken old new row None
    → (rows : List Row) → HasPacked rows old leaves → HasPacked (rows ++ row ∷ []) new leaves
packed-joined old new leaves row one taken rows has =
    (has.0, (taken rows has.0 has.1.0, index-same old new has.0 leaves one.kinds one.keys has.1.1))

-- a row that didn't: the group went to the leaves
pub packed-over : (old mid new : Grouper) (was now : OpenLeaves) (row : Row) (p : RowGroup) → IsOfOneIndex old mid → HasTaken old mid row (Some p)
    → IsDone mid p → HasBrought mid was now p → new ≡ record mid { spare = new.spare; tuple = new.tuple }
    → (rows : List Row) → HasPacked rows old was → HasPacked (rows ++ row ∷ []) new now
packed-over old mid new was now row p one taken done made same rows has =
    let over = taken rows has.0 has.1.0 in
    let laid = laid-more mid was now has.0 over.0 p (index-same old mid has.0 was one.kinds one.keys has.1.1) done over.1.0 made in (
      has.0 ++ over.0 ∷ [],
      (
        grouped-same mid new (rows ++ row ∷ []) (has.0 ++ over.0 ∷ []) same over.1.1,
        index-same mid new (has.0 ++ over.0 ∷ []) now (ap (λ (x : Grouper). x.kinds) same) (ap (λ (x : Grouper). x.keys) same) laid,
      ),
    )

-- no rows
pub packed-none : (old new : Grouper) (leaves : OpenLeaves) → HasTakenLast old new None → (rows : List Row) → HasPacked rows old leaves → HasPackedAll rows old leaves
unfolding leaf_items
packed-none old new leaves taken rows has =
    let none = taken rows has.0 has.1.0 in
    let images = images_of old.kinds old.keys in
    let laid : HasLaid old.kinds old.keys [] leaves = subst (λ d. HasLaid old.kinds old.keys d leaves) none.1 has.1.1 in
    let items : leaf_items images old.shares rows ≡ [] = ap (leaf_items images old.shares) none.0 in
    record {
      packing = laid.packing ∙ ap (packed (fillfactor_of leaves.tower)) (sym items);
      small = subst (All IsSmall) (sym items) laid.small;
    }

-- the last group went to the leaves
pub packed-last : (old mid : Grouper) (was now : OpenLeaves) (p : RowGroup) → IsOfOneIndex old mid → HasTakenLast old mid (Some p)
    → IsDone mid p → HasBrought mid was now p → (rows : List Row) → HasPacked rows old was → HasPackedAll rows old now
unfolding leaf_items
packed-last old mid was now p one taken done made rows has =
    let over = taken rows has.0 has.1.0 in
    let images = images_of old.kinds old.keys in
    let laid = laid-more mid was now has.0 over.0 p (index-same old mid has.0 was one.kinds one.keys has.1.1) done over.1.0 made in
    let here : HasLaid old.kinds old.keys (has.0 ++ over.0 ∷ []) now = index-same mid old (has.0 ++ over.0 ∷ []) now (sym one.kinds) (sym one.keys) laid in
    let items : leaf_items images old.shares rows ≡ leaf_items_behind images 1 None (has.0 ++ over.0 ∷ []) = ap (leaf_items_behind images 1 None) over.1.1 in
    record {
      packing = here.packing ∙ ap (packed (fillfactor_of now.tower)) (sym items);
      small = subst (All IsSmall) (sym items) here.small;
    }
