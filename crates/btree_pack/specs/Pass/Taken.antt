-- What the packer keeps once rows were put: the last group of them, which another row may join, and the leaf items of
-- the groups before it.
use Rattle.std.specs.Prelude.{◌≡◌, ◌⊎◌, ℕ, ◌-◌, ◌<◌, ◌≤◌, IsTrue, List, [], ◌∷◌, ◌++◌, length, map, take, All, Option, Some, None, MatchOption}
use Rattle.pg_bytes.specs.declared.row_ptr.RowPtr.{RowPtr}
use Rattle.opclass.specs.declared.types.ColType.{ColType}
use Rattle.opclass.specs.declared.value.KeyVal.{KeyVal}
use Rattle.shared_tape.specs.declared.stored.Record.{Record}
use Rattle.btree_item.specs.Tuple.{size_of}
use Rattle.btree_pack.specs.Groups.{Row, Group, rows_of, leaf_groups}
use Rattle.btree_pack.specs.Images.{images_of}
use Rattle.btree_pack.specs.Laws.{IsSmall}
use Rattle.btree_pack.specs.Leaves.{leaf_items, leaf_items_behind, pivot_between, plain_of, tuple_of_group}
use Rattle.btree_pack.specs.Pass.Finish.{last_separator}
use Rattle.btree_pack.specs.Pass.Grouped.{HasRoom, IsGroupOf, separator_image}
use Rattle.btree_pack.specs.Pass.Packed.{packed, tuple_came}
use Rattle.btree_pack.specs.Pass.Packing.{IsTuple, PageState, high_key_room}
use Rattle.btree_pack.specs.Pass.Sight.{fillfactor_of, packing_of}
use Rattle.btree_pack.specs.declared.grouper.Grouper.{Grouper}
use Rattle.btree_pack.specs.declared.open_leaves.OpenLeaves.{OpenLeaves}
use Rattle.btree_pack.specs.declared.row_group.RowGroup.{RowGroup}

-- a record as a row
abbrev pub row_of : Record → Row
row_of record' = record { keys = record'.keys; extra = record'.extra; pointer = record'.ptr }

-- a record of an index with these columns, of which so many are keys, whose tuple is no larger than a third of a page
pub record IsRowOf (kinds : List ColType) (keys : ℕ) (row : Row) : Type 0 where
  pub keys_all : length row.keys ≡ keys
  pub columns : length (row.keys ++ row.extra) ≡ length kinds
  pub small : size_of kinds (row.keys ++ row.extra) ≤ 2704

-- ---- rows in groups

-- what holds whatever rows were taken
pub record IsReady (s : Grouper) : Type 0 where
  pub keys_few : s.keys ≤ length s.kinds
  pub few : length s.kinds ≤ 32
  pub keys_alone : IsTrue s.shares → s.keys ≡ length s.kinds
  pub pending : MatchOption s.pending (Unit {0}) (λ group.
      IsGroupOf s.kinds s.keys group × (0 < length s.ptrs.items) × HasRoom s.kinds s.keys group (length s.ptrs.items))

-- the index is the same
pub record IsOfOneIndex (old new : Grouper) : Type 0 where
  pub kinds : new.kinds ≡ old.kinds
  pub keys : new.keys ≡ old.keys
  pub shares : new.shares ≡ old.shares

-- no row can join the group any more, and its tuple is written
pub record IsDone (s : Grouper) (group : RowGroup) : Type 0 where
  pub is : IsGroupOf s.kinds s.keys group
  pub tuple : IsTuple s.tuple.items
  pub size : group.size ≤ length s.tuple.items
  pub small : length s.tuple.items ≤ 2704

-- a row has begun a group, and all else is as it was
pub record HasBegun (old new : Grouper) (values : List KeyVal) (ptr : RowPtr) (kept : ℕ) (pointer : Option RowPtr) : Type 0 where
  pub pending : new.pending
      ≡ Some (record { values = values; size = size_of old.kinds values; kept = kept; pointer = pointer })
  pub ptrs : new.ptrs.items ≡ ptr ∷ []
  pub kinds : new.kinds ≡ old.kinds
  pub keys : new.keys ≡ old.keys
  pub shares : new.shares ≡ old.shares
  pub tuple : new.tuple ≡ old.tuple

-- the last of groups, if there is one
abbrev pub last_group : List Group → Option Group
last_group [] = None
last_group (group ∷ []) = Some group
last_group (group ∷ next ∷ groups) = last_group (next ∷ groups)

-- Rows were taken: their groups are those done and the last, which is pending.
pub record IsPending (s : Grouper) (rows : List Row) (done : List Group) (group : Group) (pending : RowGroup) : Type 0 where
  pub is : s.pending ≡ Some pending
  pub groups :
      leaf_groups (λ row. length (plain_of (images_of s.kinds s.keys) row)) s.shares rows ≡ done ++ group ∷ []
  pub values : pending.values ≡ group.first.keys ++ group.first.extra
  pub keys_all : length group.first.keys ≡ s.keys
  pub pointers : s.ptrs.items ≡ map (λ row. row.pointer) (rows_of group)
  pub separator :
      separator_image s.kinds s.keys pending ≡ pivot_between (images_of s.kinds s.keys) (last_group done) group
  pub rows_are : All (IsRowOf s.kinds s.keys) rows

-- what is kept of rows once these groups of them are done
abbrev pub HasGrouped : List Row → List Group → Grouper → Type 0
HasGrouped rows done s =
    ((rows ≡ []) × (done ≡ []) × (s.pending ≡ None))
    ⊎ ((group : Group) × ((pending : RowGroup) × IsPending s rows done group pending))

-- what is kept of a group that is done is that of this one behind another
pub record Tells (s : Grouper) (left : Option Group) (group : Group) (done : RowGroup) : Type 0 where
  pub tuple : s.tuple.items ≡ tuple_of_group (images_of s.kinds s.keys) group
  pub size : done.size ≡ length (plain_of (images_of s.kinds s.keys) group.first)
  pub keys : take s.keys done.values ≡ group.first.keys
  pub separator : separator_image s.kinds s.keys done ≡ pivot_between (images_of s.kinds s.keys) left group

-- one row more was taken, and the group that it didn't join is done
abbrev pub HasTaken : Grouper → Grouper → Row → Option RowGroup → Type 0
HasTaken old new row result =
    (rows : List Row) (done : List Group) → HasGrouped rows done old
    → MatchOption result (HasGrouped (rows ++ row ∷ []) done new) (λ over.
    (group : Group) × (Tells new (last_group done) group over × HasGrouped (rows ++ row ∷ []) (done ++ group ∷ []) new))

-- no row comes any more, and the last group is done
abbrev pub HasTakenLast : Grouper → Grouper → Option RowGroup → Type 0
HasTakenLast old new result =
    (rows : List Row) (done : List Group) → HasGrouped rows done old
    → MatchOption result ((rows ≡ []) × (done ≡ [])) (λ over.
    (group : Group) × (Tells new (last_group done) group over
    × (leaf_groups (λ row. length (plain_of (images_of old.kinds old.keys) row)) old.shares rows ≡ done ++ group ∷ [])))

-- ---- groups on the leaves

-- the first of the open pages is a leaf
abbrev pub LeafIsFirst : List PageState → Type 0
LeafIsFirst [] = Unit {0}
LeafIsFirst (page ∷ above) = page.level ≡ 0

-- the separator of the group that came last to the leaves
abbrev pub last_image : List ColType → ℕ → Option RowGroup → List ℕ
last_image kinds keys None = []
last_image kinds keys (Some group) = separator_image kinds keys group

-- what holds whatever groups came to the leaves
pub record AreReady (kinds : List ColType) (keys : ℕ) (leaves : OpenLeaves) : Type 0 where
  pub leaf : LeafIsFirst (packing_of leaves.tower).pages
  pub last : MatchOption leaves.last ((packing_of leaves.tower).pages ≡ []) (λ group.
      IsGroupOf kinds keys group × (length (separator_image kinds keys group) ≤ high_key_room (packing_of leaves.tower)))

-- a group's tuple has come to the leaves
pub record HasBrought (s : Grouper) (old new : OpenLeaves) (group : RowGroup) : Type 0 where
  pub packing :
      packing_of new.tower
      ≡ tuple_came (fillfactor_of old.tower) (last_image s.kinds s.keys old.last) (packing_of old.tower) s.tuple.items
      (length s.tuple.items - group.size)
  pub last : new.last ≡ Some group
  pub fillfactor : fillfactor_of new.tower ≡ fillfactor_of old.tower

-- what the leaves have of groups
pub record HasLaid (kinds : List ColType) (keys : ℕ) (done : List Group) (leaves : OpenLeaves) : Type 0 where
  pub packing :
      packing_of leaves.tower
      ≡ packed (fillfactor_of leaves.tower) (leaf_items_behind (images_of kinds keys) 1 None done)
  pub last :
      MatchOption leaves.last (done ≡ []) (λ last. separator_image kinds keys last
      ≡ last_separator [] (leaf_items_behind (images_of kinds keys) 1 None done))
  pub small : All IsSmall (leaf_items_behind (images_of kinds keys) 1 None done)

-- what is kept once these rows were put
abbrev pub HasPacked : List Row → Grouper → OpenLeaves → Type 0
HasPacked rows s leaves = (done : List Group) × (HasGrouped rows done s × HasLaid s.kinds s.keys done leaves)

-- what the leaves have once all groups of these rows came to them
pub record HasPackedAll (rows : List Row) (s : Grouper) (leaves : OpenLeaves) : Type 0 where
  pub packing :
      packing_of leaves.tower
      ≡ packed (fillfactor_of leaves.tower) (leaf_items (images_of s.kinds s.keys) s.shares rows)
  pub small : All IsSmall (leaf_items (images_of s.kinds s.keys) s.shares rows)
