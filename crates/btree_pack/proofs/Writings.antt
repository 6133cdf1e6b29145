-- Leaf tuples of rows written apart from the pages.
use Rattle.std.proofs.Common.{◌≡◌, ℕ, ◌+◌, ◌-◌, Bool, false, List, [], ◌∷◌, ◌++◌, length, map, take, refl, sym, ap, ◌∙◌, subst}
use Rattle.std.specs.Prelude.{Option, Some, None, MatchOption, IsSomeAnd}
use Rattle.std.specs.Option.{option_or}
use Rattle.std.proofs.lemmas.List.{map_push}
use Rattle.std.proofs.lemmas.List.Elements.{All-push}
use Rattle.opclass.specs.declared.spec.IndexSpec.{IndexSpec}
use Rattle.opclass.specs.declared.types.ColType.{ColType}
use Rattle.opclass.specs.declared.value.KeyVal.{KeyVal}
use Rattle.btree_pack.specs.Ends.{last_of}
use Rattle.btree_pack.specs.Groups.{Row, Group, leaf_groups}
use Rattle.btree_pack.specs.Images.{images_of}
use Rattle.btree_pack.specs.Leaves.{leaf_item, leaf_items, leaf_items_behind, plain_of, tuple_of_group}
use Rattle.btree_pack.specs.Nodes.{shares_tuples}
use Rattle.btree_pack.specs.Pass.Grouped.{IsGroupOf, separator_image}
use Rattle.btree_pack.specs.Pass.Run.{AreLeavesOf, HasFirstKeys, HasLastKeys, IsLeaf, IsOfTheFirst, IsRun, Leaf, leaf_of}
use Rattle.btree_pack.specs.Pass.Taken.{HasTaken, HasTakenLast, IsOfOneIndex, IsReady, Tells, last_group}
use Rattle.btree_pack.specs.Pass.Written.{AreWritten, HasKeysOfTheFirst, HasWritten, HasWrittenRows, IsWriting, leaf_done}
use Rattle.btree_pack.specs.declared.grouper.Grouper.{Grouper}
use Rattle.btree_pack.specs.declared.row_group.RowGroup.{RowGroup}
use Rattle.btree_pack.proofs.Bringing.{behind_of, items-push, last-behind}
use Rattle.btree_pack.proofs.Parting.{groups-begin, groups-end}
use Rattle.btree_pack.proofs.Puts.{grouped-same, ready-same}

-- ---- what holds of any run

of-first-behind : (f : RowGroup) (leaves : List Leaf) (leaf : Leaf) → IsOfTheFirst f leaves → IsOfTheFirst f (leaves ++ leaf ∷ [])
of-first-behind f [] leaf is = absurd is
of-first-behind f (x ∷ leaves) leaf is = is

-- a run with one leaf tuple more behind others
pub run-next : (kinds : List ColType) (keys : ℕ) (leaves : List Leaf) (leaf : Leaf) (f : RowGroup) (last : Option RowGroup)
    → IsRun (record { kinds = kinds; keys = keys; leaves = leaves; first = Some f; last = None }) → IsLeaf leaf → MatchOption last (Unit {0}) (IsGroupOf kinds keys)
    → IsRun (record { kinds = kinds; keys = keys; leaves = leaves ++ leaf ∷ []; first = Some f; last = last })
run-next kinds keys leaves leaf f last run is group = record {
  leaves = All-push IsLeaf leaves leaf run.leaves is;
  first = (run.first.0, of-first-behind f leaves leaf run.first.1);
  last = group;
}

pub run-same : (s t : Grouper) (leaves : List Leaf) (first last : Option RowGroup) → t.kinds ≡ s.kinds → t.keys ≡ s.keys
    → IsRun (record { kinds = s.kinds; keys = s.keys; leaves = leaves; first = first; last = last })
    → IsRun (record { kinds = t.kinds; keys = t.keys; leaves = leaves; first = first; last = last })
run-same s t leaves first last kinds keys run =
    subst (λ (n : ℕ). IsRun (record { kinds = t.kinds; keys = n; leaves = leaves; first = first; last = last })) (sym keys)
    (subst (λ k. IsRun (record { kinds = k; keys = s.keys; leaves = leaves; first = first; last = last })) (sym kinds) run)

-- ---- one group more

leaf-told : (s : Grouper) (moment : ℕ) (left : Option Group) (group : Group) (p : RowGroup) → Tells s left group p
    → leaf_done s p ≡ leaf_of (leaf_item (images_of s.kinds s.keys) moment left group)
leaf-told s moment left group p tells =
    let images = images_of s.kinds s.keys in
    let leaf : List ℕ → ℕ → List ℕ → Leaf = λ (t : List ℕ) (n : ℕ) (k : List ℕ). record { tuple = t; extra = length t - n; separator = k } in
    ap (λ t. leaf t p.size (separator_image s.kinds s.keys p)) tells.tuple
    ∙ ap (λ (n : ℕ). leaf (tuple_of_group images group) n (separator_image s.kinds s.keys p)) tells.size
    ∙ ap (leaf (tuple_of_group images group) (length (plain_of images group.first))) tells.separator

leaves-more : (s : Grouper) (leaves : List Leaf) (done : List Group) (group : Group) (p : RowGroup) → Tells s (last_group done) group p
    → leaves ≡ map leaf_of (leaf_items_behind (images_of s.kinds s.keys) 1 None done)
    → leaves ++ leaf_done s p ∷ [] ≡ map leaf_of (leaf_items_behind (images_of s.kinds s.keys) 1 None (done ++ group ∷ []))
leaves-more s leaves done group p tells are =
    let images = images_of s.kinds s.keys in
    let items = leaf_items_behind images 1 None done in
    let x = leaf_item images (1 + length done) (last_group done) group in
    ap (λ l. l ++ leaf_done s p ∷ []) are
    ∙ ap (λ y. map leaf_of items ++ y ∷ []) (leaf-told s (1 + length done) (last_group done) group p tells)
    ∙ sym (map_push leaf_of items x)
    ∙ ap (map leaf_of) (sym (items-push images 1 None done group (last_group done) (last-behind done) (1 + length done) refl))

keys-next : (keys : ℕ) (done : List Group) (group : Group) (f : RowGroup) → HasKeysOfTheFirst keys done (Some f) → HasKeysOfTheFirst keys (done ++ group ∷ []) (Some f)
keys-next keys [] group f none = cc
keys-next keys (g ∷ done) group f first = first

keys-first : (keys : ℕ) (done : List Group) (group : Group) (p : RowGroup) → HasKeysOfTheFirst keys done None → take keys p.values ≡ group.first.keys
    → HasKeysOfTheFirst keys (done ++ group ∷ []) (Some p)
keys-first keys [] group p none same = same
keys-first keys (g ∷ done) group p first same = absurd first

written-same : (s t : Grouper) (done : List Group) (leaves : List Leaf) (first : Option RowGroup) → t.kinds ≡ s.kinds → t.keys ≡ s.keys
    → AreWritten s done leaves first → AreWritten t done leaves first
written-same s t done leaves first kinds keys are = record {
  leaves = are.leaves ∙ ap (λ k. map leaf_of (leaf_items_behind (images_of k s.keys) 1 None done)) (sym kinds)
      ∙ ap (λ (n : ℕ). map leaf_of (leaf_items_behind (images_of t.kinds n) 1 None done)) (sym keys);
  first = subst (λ (n : ℕ). HasKeysOfTheFirst n done first) (sym keys) are.first;
}

written-first : (s : Grouper) (done : List Group) (group : Group) (p : RowGroup) (leaves : List Leaf) → Tells s (last_group done) group p → AreWritten s done leaves None
    → AreWritten s (done ++ group ∷ []) (leaves ++ leaf_done s p ∷ []) (Some p)
written-first s done group p leaves tells are =
    record { leaves = leaves-more s leaves done group p tells are.leaves; first = keys-first s.keys done group p are.first tells.keys }

written-next : (s : Grouper) (done : List Group) (group : Group) (p f : RowGroup) (leaves : List Leaf) → Tells s (last_group done) group p → AreWritten s done leaves (Some f)
    → AreWritten s (done ++ group ∷ []) (leaves ++ leaf_done s p ∷ []) (Some f)
written-next s done group p f leaves tells are =
    record { leaves = leaves-more s leaves done group p tells are.leaves; first = keys-next s.keys done group f are.first }

-- ---- one row more

pub tuple-same : (mid new : Grouper) → new ≡ record mid { tuple = new.tuple } → new ≡ record mid { spare = new.spare; tuple = new.tuple }
tuple-same mid new same = same ∙ ap (λ l. record mid { spare = l; tuple = new.tuple }) (sym (ap (λ (s : Grouper). s.spare) same))

pub spare-same : (mid new : Grouper) (spare : List KeyVal) → new ≡ record mid { tuple = new.tuple } → record new { spare = spare } ≡ record mid { spare = spare; tuple = new.tuple }
spare-same mid new spare same = ap (λ (s : Grouper). record s { spare = spare }) same

-- what holds of a writer with one leaf tuple more behind others
pub writing-next : (old mid new : Grouper) (leaves : List Leaf) (p f : RowGroup) → IsOfOneIndex old mid → IsReady mid
    → new ≡ record mid { spare = new.spare; tuple = new.tuple } → IsLeaf (leaf_done mid p)
    → IsWriting old leaves (Some f) → IsWriting new (leaves ++ leaf_done mid p ∷ []) (Some f)
writing-next old mid new leaves p f one ready same is writing = record {
  rows = ready-same mid new same ready;
  run = run-same mid new (leaves ++ leaf_done mid p ∷ []) (Some f) None (ap (λ (s : Grouper). s.kinds) same) (ap (λ (s : Grouper). s.keys) same)
      (run-next mid.kinds mid.keys leaves (leaf_done mid p) f None (run-same old mid leaves (Some f) None one.kinds one.keys writing.run) is tt);
}

pub rows-joined : (old new : Grouper) (row : Row) (leaves : List Leaf) (first : Option RowGroup) → IsOfOneIndex old new → HasTaken old new row None
    → (rows : List Row) → HasWrittenRows rows old leaves first → HasWrittenRows (rows ++ row ∷ []) new leaves first
rows-joined old new row leaves first one taken rows has =
    (has.0, (taken rows has.0 has.1.0, written-same old new has.0 leaves first one.kinds one.keys has.1.1))

pub rows-first : (old mid new : Grouper) (row : Row) (p : RowGroup) (leaves : List Leaf) → IsOfOneIndex old mid → HasTaken old mid row (Some p)
    → new ≡ record mid { spare = new.spare; tuple = new.tuple }
    → (rows : List Row) → HasWrittenRows rows old leaves None → HasWrittenRows (rows ++ row ∷ []) new (leaves ++ leaf_done mid p ∷ []) (Some p)
rows-first old mid new row p leaves one taken same rows has =
    let over = taken rows has.0 has.1.0 in
    let done = has.0 ++ over.0 ∷ [] in (
      done,
      (
        grouped-same mid new (rows ++ row ∷ []) done same over.1.1,
        written-same mid new done (leaves ++ leaf_done mid p ∷ []) (Some p) (ap (λ (x : Grouper). x.kinds) same) (ap (λ (x : Grouper). x.keys) same)
            (written-first mid has.0 over.0 p leaves over.1.0 (written-same old mid has.0 leaves None one.kinds one.keys has.1.1)),
      ),
    )

pub rows-next : (old mid new : Grouper) (row : Row) (p f : RowGroup) (leaves : List Leaf) → IsOfOneIndex old mid → HasTaken old mid row (Some p)
    → new ≡ record mid { spare = new.spare; tuple = new.tuple }
    → (rows : List Row) → HasWrittenRows rows old leaves (Some f) → HasWrittenRows (rows ++ row ∷ []) new (leaves ++ leaf_done mid p ∷ []) (Some f)
rows-next old mid new row p f leaves one taken same rows has =
    let over = taken rows has.0 has.1.0 in
    let done = has.0 ++ over.0 ∷ [] in (
      done,
      (
        grouped-same mid new (rows ++ row ∷ []) done same over.1.1,
        written-same mid new done (leaves ++ leaf_done mid p ∷ []) (Some f) (ap (λ (x : Grouper). x.kinds) same) (ap (λ (x : Grouper). x.keys) same)
            (written-next mid has.0 over.0 p f leaves over.1.0 (written-same old mid has.0 leaves (Some f) one.kinds one.keys has.1.1)),
      ),
    )

-- ---- all rows

-- the group that has the keys of the last of groups, if there are some
abbrev HasKeysOfTheLast : ℕ → Option Group → Option RowGroup → Type 0
HasKeysOfTheLast keys None last = last ≡ None
HasKeysOfTheLast keys (Some group) last = IsSomeAnd last (λ last. take keys last.values ≡ group.first.keys)

first-keys : (size_of : Row → ℕ) (shares : Bool) (keys : ℕ) (rows : List Row) (first : Option RowGroup)
    → HasKeysOfTheFirst keys (leaf_groups size_of shares rows) first → HasFirstKeys keys rows first
first-keys size_of shares keys [] first has = has
first-keys size_of shares keys (row ∷ rows) first has =
    let begin = groups-begin size_of shares row rows in
    go first (subst (λ g. HasKeysOfTheFirst keys g first) begin.are has) (ap (λ (r : Row). r.keys) begin.first)
  where
    go : (first : Option RowGroup) → IsSomeAnd first (λ f. take keys f.values ≡ (groups-begin size_of shares row rows).group.first.keys)
        → (groups-begin size_of shares row rows).group.first.keys ≡ row.keys → IsSomeAnd first (λ f. take keys f.values ≡ row.keys)
    go None has same = has
    go (Some f) has same = has ∙ same

last-keys : (size_of : Row → ℕ) (shares : Bool) (keys : ℕ) (rows : List Row) (last : Option RowGroup)
    → HasKeysOfTheLast keys (behind_of None (leaf_groups size_of shares rows)) last → HasLastKeys keys rows last
last-keys size_of shares keys [] last has = has
last-keys size_of shares keys (row ∷ rows) last has =
    let end = groups-end size_of shares row rows in
    go last (subst (λ g. HasKeysOfTheLast keys g last) end.is has) end.keys
  where
    go : (last : Option RowGroup) → IsSomeAnd last (λ f. take keys f.values ≡ (groups-end size_of shares row rows).group.first.keys)
        → (last_of row rows).keys ≡ (groups-end size_of shares row rows).group.first.keys → IsSomeAnd last (λ f. take keys f.values ≡ (last_of row rows).keys)
    go None has same = has
    go (Some f) has same = has ∙ sym same

-- the leaf tuples of all groups are those of the rows
are-leaves : (spec : IndexSpec) (kinds : List ColType) (rows : List Row) (s : Grouper) (groups : List Group) (leaves : List Leaf) (first last : Option RowGroup)
    → s.kinds ≡ kinds → s.keys ≡ length spec.keys → s.shares ≡ shares_tuples spec
    → leaf_groups (λ row. length (plain_of (images_of s.kinds s.keys) row)) s.shares rows ≡ groups → AreWritten s groups leaves first
    → HasKeysOfTheLast s.keys (behind_of None groups) (option_or last first)
    → AreLeavesOf spec kinds rows (record { kinds = s.kinds; keys = s.keys; leaves = leaves; first = first; last = last })
unfolding leaf_items
are-leaves spec kinds rows s groups leaves first last k n b are written end =
    let size_of : Row → ℕ = λ row. length (plain_of (images_of s.kinds s.keys) row) in
    record {
      kinds_are = k;
      keys = n;
      leaves = written.leaves ∙ ap (λ g. map leaf_of (leaf_items_behind (images_of s.kinds s.keys) 1 None g)) (sym are)
          ∙ ap (λ c. map leaf_of (leaf_items (images_of c s.keys) s.shares rows)) k
          ∙ ap (λ (m : ℕ). map leaf_of (leaf_items (images_of kinds m) s.shares rows)) n
          ∙ ap (λ t. map leaf_of (leaf_items (images_of kinds (length spec.keys)) t rows)) b;
      first = subst (λ (m : ℕ). HasFirstKeys m rows first) n
          (first-keys size_of s.shares s.keys rows first (subst (λ g. HasKeysOfTheFirst s.keys g first) (sym are) written.first));
      last = subst (λ (m : ℕ). HasLastKeys m rows (option_or last first)) n
          (last-keys size_of s.shares s.keys rows (option_or last first) (subst (λ g. HasKeysOfTheLast s.keys (behind_of None g) (option_or last first)) (sym are) end));
    }

behind-push : (left : Option Group) (done : List Group) (group : Group) → behind_of left (done ++ group ∷ []) ≡ Some group
behind-push left [] group = refl
behind-push left (g ∷ done) group = behind-push (Some g) done group

pub all-none : (spec : IndexSpec) (kinds : List ColType) (rows : List Row) (old new : Grouper) (leaves : List Leaf) (first : Option RowGroup)
    → IsOfOneIndex old new → HasTakenLast old new None
    → HasWritten spec kinds rows (record { rows = old; leaves = leaves; first = first; spent = false })
    → AreLeavesOf spec kinds rows (record { kinds = new.kinds; keys = new.keys; leaves = leaves; first = first; last = None })
all-none spec kinds rows old new leaves first one taken has =
    let none = taken rows has.written.0 has.written.1.0 in
    let are : AreWritten new [] leaves first = written-same old new [] leaves first one.kinds one.keys (subst (λ d. AreWritten old d leaves first) none.1 has.written.1.1) in
    are-leaves spec kinds rows new [] leaves first None (one.kinds ∙ has.kinds_are) (one.keys ∙ has.keys) (one.shares ∙ has.shares)
    (ap (leaf_groups (λ row. length (plain_of (images_of new.kinds new.keys) row)) new.shares) none.0) are are.first

module _ (spec : IndexSpec) (kinds : List ColType) (rows : List Row) (old mid : Grouper) (leaves : List Leaf) (p : RowGroup) where
  groups-same : (done : List Group) (group : Group) → IsOfOneIndex old mid
      → leaf_groups (λ row. length (plain_of (images_of old.kinds old.keys) row)) old.shares rows ≡ done ++ group ∷ []
      → leaf_groups (λ row. length (plain_of (images_of mid.kinds mid.keys) row)) mid.shares rows ≡ done ++ group ∷ []
  groups-same done group one are =
      ap (λ k. leaf_groups (λ row. length (plain_of (images_of k mid.keys) row)) mid.shares rows) one.kinds
      ∙ ap (λ (n : ℕ). leaf_groups (λ row. length (plain_of (images_of old.kinds n) row)) mid.shares rows) one.keys
      ∙ ap (λ b. leaf_groups (λ row. length (plain_of (images_of old.kinds old.keys) row)) b rows) one.shares
      ∙ are

  pub all-one : IsOfOneIndex old mid → HasTakenLast old mid (Some p)
      → HasWritten spec kinds rows (record { rows = old; leaves = leaves; first = None; spent = false })
      → AreLeavesOf spec kinds rows (record { kinds = mid.kinds; keys = mid.keys; leaves = leaves ++ leaf_done mid p ∷ []; first = Some p; last = None })
  all-one one taken has =
      let done = has.written.0 in
      let over = taken rows done has.written.1.0 in
      are-leaves spec kinds rows mid (done ++ over.0 ∷ []) (leaves ++ leaf_done mid p ∷ []) (Some p) None (one.kinds ∙ has.kinds_are) (one.keys ∙ has.keys) (one.shares ∙ has.shares)
      (groups-same done over.0 one over.1.1)
      (written-first mid done over.0 p leaves over.1.0 (written-same old mid done leaves None one.kinds one.keys has.written.1.1))
      (subst (λ g. HasKeysOfTheLast mid.keys g (Some p)) (sym (behind-push None done over.0)) over.1.0.keys)

  pub all-more : (f : RowGroup) → IsOfOneIndex old mid → HasTakenLast old mid (Some p)
      → HasWritten spec kinds rows (record { rows = old; leaves = leaves; first = Some f; spent = false })
      → AreLeavesOf spec kinds rows (record { kinds = mid.kinds; keys = mid.keys; leaves = leaves ++ leaf_done mid p ∷ []; first = Some f; last = Some p })
  all-more f one taken has =
      let done = has.written.0 in
      let over = taken rows done has.written.1.0 in
      are-leaves spec kinds rows mid (done ++ over.0 ∷ []) (leaves ++ leaf_done mid p ∷ []) (Some f) (Some p) (one.kinds ∙ has.kinds_are) (one.keys ∙ has.keys) (one.shares ∙ has.shares)
      (groups-same done over.0 one over.1.1)
      (written-next mid done over.0 p f leaves over.1.0 (written-same old mid done leaves (Some f) one.kinds one.keys has.written.1.1))
      (subst (λ g. HasKeysOfTheLast mid.keys g (Some p)) (sym (behind-push None done over.0)) over.1.0.keys)
