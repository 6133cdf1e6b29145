-- One row more is put, and what the packer keeps then.
use Rattle.std.proofs.Common.{◌≡◌, ℕ, zero, suc, ◌+◌, ◌-◌, ◌<◌, ◌≤◌, ◌&&◌, Bool, true, false, nat_le, nat_lt, List, [], ◌∷◌, ◌++◌, length, map, take, get_or, Vec, Global, refl, sym, ap, ◌∙◌, subst, inl, inr, arith, length-append, append-nil, append_assoc}
use Rattle.std.specs.Prelude.{Option, Some, None, MatchOption, All, if◌then◌else◌}
use Rattle.std.specs.List.{common_prefix_len}
use Rattle.std.proofs.lemmas.Bool.Decides.{nat_tests}
use Rattle.std.proofs.lemmas.List.{length-map, map_push, take_at, take-append-le, length-take-le}
use Rattle.std.proofs.lemmas.List.Elements.{All-cons, All-push}
use Rattle.pg_bytes.specs.declared.row_ptr.RowPtr.{RowPtr}
use Rattle.opclass.specs.declared.types.ColType.{ColType}
use Rattle.opclass.specs.declared.value.KeyVal.{KeyVal}
use Rattle.btree_item.specs.Leaf.{plain_image, posting_image}
use Rattle.btree_item.specs.Pivot.{image_of_attributes}
use Rattle.btree_item.specs.Truncation.{KeepsUpToDifference}
use Rattle.btree_item.specs.Tuple.{size_of}
use Rattle.btree_item.proofs.Sizes.{length-index_tuple, minus_infinity-image}
use Rattle.btree_pack.specs.Ends.{last_of}
use Rattle.btree_pack.specs.Groups.{Row, Group, have_same_keys, leaf_groups, most_sharing, posting_size, rows_of}
use Rattle.btree_pack.specs.Images.{images_of}
use Rattle.btree_pack.specs.Leaves.{Images, pivot_between, plain_of, tuple_of_group}
use Rattle.btree_pack.specs.Separators.{Separator, greatest_pointer, is_same_value, separator}
use Rattle.btree_item.specs.Pivot.{minus_infinity}
use Rattle.btree_pack.specs.Pass.Grouped.{HasRoom, IsGroupOf, group_image, separator_image}
use Rattle.btree_pack.specs.Pass.Rows.{alone, grown, with_last}
use Rattle.btree_pack.specs.Pass.Taken.{HasBegun, HasGrouped, IsOfOneIndex, IsPending, IsReady, IsRowOf, Tells, last_group}
use Rattle.btree_pack.specs.declared.grouper.Grouper.{Grouper}
use Rattle.btree_pack.specs.declared.row_group.RowGroup.{RowGroup}
use Rattle.btree_pack.proofs.Sharing.{AllAre, groups-push, pieces_of, pieces_of-alone, room-sharing, same-keys, with_last-behind}
use Rattle.btree_pack.proofs.TupleImages.{kept-beyond, kept-within, prefix-alike}

-- ---- the first row

pub separator-none : (kinds : List ColType) (keys : ℕ) (values : List KeyVal) (size : ℕ)
    → separator_image kinds keys (record { values = values; size = size; kept = 0; pointer = None }) ≡ minus_infinity 0
separator-none kinds keys values size = minus_infinity-image (take keys kinds) (take keys values) 0

one-group : (size_of : Row → ℕ) (shares : Bool) (row : Row) → leaf_groups size_of shares (row ∷ []) ≡ alone row ∷ []
one-group size_of shares row = append-nil (pieces_of (λ r. if shares then most_sharing (size_of r) else 1) (alone row)) ∙ pieces_of-alone (λ r. if shares then most_sharing (size_of r) else 1) row

pub took-first : (old new : Grouper) (row : Row) (values : List KeyVal) → old.pending ≡ None → IsRowOf old.kinds old.keys row
    → values ≡ row.keys ++ row.extra → HasBegun old new values row.pointer 0 None
    → (rows : List Row) (done : List Group) → HasGrouped rows done old → HasGrouped (rows ++ row ∷ []) done new
took-first old new row values none is same begun rows done (inl started) =
    inr (
      alone row,
      (
        record { values = values; size = size_of old.kinds values; kept = 0; pointer = None },
        record {
          is = begun.pending;
          groups = ap (λ l. leaf_groups (λ r. length (plain_of (images_of new.kinds new.keys) r)) new.shares (l ++ row ∷ [])) started.0
              ∙ one-group (λ r. length (plain_of (images_of new.kinds new.keys) r)) new.shares row
              ∙ ap (λ l. l ++ alone row ∷ []) (sym started.1);
          values = same;
          keys_all = is.keys_all ∙ sym begun.keys;
          pointers = begun.ptrs;
          separator = separator-none new.kinds new.keys values (size_of old.kinds values)
              ∙ ap (λ d. pivot_between (images_of new.kinds new.keys) (last_group d) (alone row)) (sym started.1);
          rows_are = subst (λ l. All (IsRowOf new.kinds new.keys) (l ++ row ∷ [])) (sym started.0)
              (subst (λ k. All (IsRowOf k new.keys) (row ∷ [])) (sym begun.kinds)
              (subst (λ (n : ℕ). All (IsRowOf old.kinds n) (row ∷ [])) (sym begun.keys)
              (All-cons (IsRowOf old.kinds old.keys) row [] is (λ k d inside. absurd (omega arith)))));
        },
      ),
    )
took-first old new row values none is same begun rows done (inr pending) =
    let some = pending.1.1.is in let impossible : None ≡ Some pending.1.0 = sym none ∙ some in cc

-- ---- the groups of one row more

no-extra : (kinds : List ColType) (keys : ℕ) (row : Row) → IsRowOf kinds keys row → keys ≡ length kinds → row.extra ≡ []
no-extra kinds keys row is all =
    let parts = length-append row.keys row.extra in
    let a = is.keys_all in let b = is.columns in
    go row.extra (omega arith)
  where
    go : (l : List KeyVal) → length l ≡ 0 → l ≡ []
    go [] none = refl
    go (x ∷ l) none = absurd (omega arith)

module _ (kinds : List ColType) (keys : ℕ) (shares : Bool) where
  weight : Row → ℕ
  weight row = if shares then most_sharing (length (plain_of (images_of kinds keys) row)) else 1

  abbrev pub Is : Row → Type 0
  Is row = shares ≡ true → row.extra ≡ []

  most-some : (plain : ℕ) → 1 ≤ most_sharing plain
  unfolding most_sharing
  most-some plain = omega arith

  least : (row : Row) → 1 ≤ weight row
  unfolding weight
  least row = go shares
    where
      go : (t : Bool) → 1 ≤ (if t then most_sharing (length (plain_of (images_of kinds keys) row)) else 1)
      go true = most-some (length (plain_of (images_of kinds keys) row))
      go false = omega arith

  even : (a b : Row) → Is a → Is b → a.keys ≡ b.keys → weight a ≡ weight b
  unfolding weight
  even a b one other same = go shares refl
    where
      plain : Row → ℕ
      plain row = length (plain_of (images_of kinds keys) row)

      long : (row : Row) → plain row ≡ size_of kinds (row.keys ++ row.extra)
      long row = length-index_tuple row.pointer _ kinds (row.keys ++ row.extra)

      go : (t : Bool) → shares ≡ t → (if t then most_sharing (plain a) else 1) ≡ (if t then most_sharing (plain b) else 1)
      go true is = ap most_sharing (long a ∙ ap (λ l. size_of kinds (a.keys ++ l)) (one is) ∙ ap (λ l. size_of kinds (l ++ [])) same ∙ sym (ap (λ l. size_of kinds (b.keys ++ l)) (other is)) ∙ sym (long b))
      go false is = refl

  groups-more : (rows : List Row) (row : Row) (done : List Group) (group : Group) → All Is rows
      → leaf_groups (λ r. length (plain_of (images_of kinds keys) r)) shares rows ≡ done ++ group ∷ []
      → leaf_groups (λ r. length (plain_of (images_of kinds keys) r)) shares (rows ++ row ∷ []) ≡ done ++ with_last (λ g. weight g.first) (group ∷ []) row
  unfolding weight
  groups-more rows row done group are is =
      groups-push weight Is even rows row least (all-are rows are)
      ∙ ap (λ l. with_last (λ g. weight g.first) l row) is
      ∙ with_last-behind (λ g. weight g.first) done (group ∷ []) row (omega arith)
    where
      all-are : (rows : List Row) → All Is rows → AllAre weight Is even rows
      all-are [] all = tt
      all-are (r ∷ rows) all = (all 0 r (omega arith), all-are rows (λ k d inside. all (suc k) d (omega arith)))

  -- whether the row joins the last group
  pub join-test : Group → Row → Bool
  join-test group row = have_same_keys group.first row && nat_lt (length (rows_of group)) (weight group.first)

  pub groups-join : (rows : List Row) (row : Row) (done : List Group) (group : Group) → All Is rows
      → leaf_groups (λ r. length (plain_of (images_of kinds keys) r)) shares rows ≡ done ++ group ∷ [] → join-test group row ≡ true
      → leaf_groups (λ r. length (plain_of (images_of kinds keys) r)) shares (rows ++ row ∷ []) ≡ done ++ grown group row ∷ []
  unfolding join-test
  groups-join rows row done group are is joins =
      groups-more rows row done group are is ∙ ap (λ t. done ++ (if t then grown group row ∷ [] else group ∷ alone row ∷ [])) joins

  pub groups-begin : (rows : List Row) (row : Row) (done : List Group) (group : Group) → All Is rows
      → leaf_groups (λ r. length (plain_of (images_of kinds keys) r)) shares rows ≡ done ++ group ∷ [] → join-test group row ≡ false
      → leaf_groups (λ r. length (plain_of (images_of kinds keys) r)) shares (rows ++ row ∷ []) ≡ (done ++ group ∷ []) ++ alone row ∷ []
  unfolding join-test
  groups-begin rows row done group are is joins =
      groups-more rows row done group are is ∙ ap (λ t. done ++ (if t then grown group row ∷ [] else group ∷ alone row ∷ [])) joins
      ∙ sym (append_assoc done (group ∷ []) (alone row ∷ []))

  -- the test of the program
  pub join-is : (group : Group) (row : Row) (size count kept : ℕ) → 1 ≤ count → count ≡ length (rows_of group)
      → size ≡ length (plain_of (images_of kinds keys) group.first) → (nat_lt keys kept ≡ have_same_keys group.first row)
      → join-test group row ≡ (shares && (nat_lt keys kept && nat_le (posting_size size (count + 1)) 812))
  unfolding join-test weight
  join-is group row size count kept some rows same keep = go shares
    where
      plain : ℕ
      plain = length (plain_of (images_of kinds keys) group.first)

      go : (t : Bool) → (have_same_keys group.first row && nat_lt (length (rows_of group)) (if t then most_sharing plain else 1))
          ≡ (t && (nat_lt keys kept && nat_le (posting_size size (count + 1)) 812))
      go true =
          ap (λ (n : ℕ). have_same_keys group.first row && nat_lt n (most_sharing plain)) (sym rows)
          ∙ ap (λ t. have_same_keys group.first row && t) (room-sharing plain count some)
          ∙ ap (λ (n : ℕ). have_same_keys group.first row && nat_le (posting_size n (count + 1)) 812) (sym same)
          ∙ ap (λ t. t && nat_le (posting_size size (count + 1)) 812) (sym keep)
      go false =
          ap (λ t. have_same_keys group.first row && t) (lt-one (length (rows_of group)) (omega arith)) ∙ and-false (have_same_keys group.first row)
        where
          lt-one : (n : ℕ) → 1 ≤ n → nat_lt n 1 ≡ false
          lt-one n some = grind (arith, nat_tests)

          and-false : (t : Bool) → (t && false) ≡ false
          and-false true = refl
          and-false false = refl

-- ---- a row joins the last group

-- how many values a separator keeps tells whether keys are equal
pub keep-is : (keys : ℕ) (left right : Row) (kept : ℕ) → length left.keys ≡ keys → length right.keys ≡ keys
    → KeepsUpToDifference (left.keys ++ left.extra) (right.keys ++ right.extra) kept → nat_lt keys kept ≡ have_same_keys left right
keep-is keys left right kept l r keeps = go (nat_lt keys kept) refl
  where
    other : nat_lt keys kept ≡ false → (t : Bool) → have_same_keys left right ≡ t → false ≡ t
    other is false same = refl
    other is true same =
        let few : kept ≤ keys = lt-not keys kept is in
        let equal : left.keys ≡ right.keys = (same-keys left right).0 same in
        let front : take kept (left.keys ++ left.extra) ≡ take kept (right.keys ++ right.extra) =
        take-append-le kept left.keys left.extra (omega arith) ∙ ap (take kept) equal ∙ sym (take-append-le kept right.keys right.extra (omega arith)) in
        absurd (keeps.apart (let long = length-append right.keys right.extra in omega arith) front)
      where
        lt-not : (a b : ℕ) → nat_lt a b ≡ false → b ≤ a
        lt-not a b is = grind (arith, nat_tests)

    go : (t : Bool) → nat_lt keys kept ≡ t → t ≡ have_same_keys left right
    go true is = sym ((same-keys left right).1 (kept-beyond left.keys right.keys left.extra right.extra kept (l ∙ sym r) keeps (let many = lt-is keys kept is in omega arith)))
      where
        lt-is : (a b : ℕ) → nat_lt a b ≡ true → a < b
        lt-is a b is = grind (arith, nat_tests)
    go false is = other is (have_same_keys left right) refl

separator-grown : (images : Images) (left : Option Group) (group : Group) (row : Row) → pivot_between images left (grown group row) ≡ pivot_between images left group
unfolding separator
separator-grown images None group row = refl
separator-grown images (Some left) group row = refl

all-is : (kinds : List ColType) (keys : ℕ) (shares : Bool) (rows : List Row) → (shares ≡ true → keys ≡ length kinds) → All (IsRowOf kinds keys) rows → All (Is kinds keys shares) rows
all-is kinds keys shares rows alone' are = λ k d inside. λ yes. no-extra kinds keys (get_or rows k d) (are k d inside) (alone' yes)

plain-long : (kinds : List ColType) (keys : ℕ) (group : Group) (p : RowGroup) → p.values ≡ group.first.keys ++ group.first.extra → p.size ≡ size_of kinds p.values
    → p.size ≡ length (plain_of (images_of kinds keys) group.first)
plain-long kinds keys group p values size =
    size ∙ ap (size_of kinds) values ∙ sym (let e : length (plain_of (images_of kinds keys) group.first) ≡ size_of kinds (group.first.keys ++ group.first.extra) = length-index_tuple group.first.pointer _ kinds (group.first.keys ++ group.first.extra) in e)

-- the test of the program on the last group
pub joins-is : (old : Grouper) (rows : List Row) (done : List Group) (group : Group) (p : RowGroup) (row : Row) (kept : ℕ) → IsPending old rows done group p
    → IsGroupOf old.kinds old.keys p → IsRowOf old.kinds old.keys row → KeepsUpToDifference p.values (row.keys ++ row.extra) kept → 0 < length old.ptrs.items
    → join-test old.kinds old.keys old.shares group row ≡ (old.shares && (nat_lt old.keys kept && nat_le (posting_size p.size (length old.ptrs.items + 1)) 812))
joins-is old rows done group p row kept pending is row_is keeps some =
    join-is old.kinds old.keys old.shares group row p.size (length old.ptrs.items) kept some
    (ap length pending.pointers ∙ length-map (rows_of group) (λ (r : Row). r.pointer))
    (plain-long old.kinds old.keys group p pending.values is.size)
    (keep-is old.keys group.first row kept pending.keys_all row_is.keys_all (subst (λ l. KeepsUpToDifference l (row.keys ++ row.extra) kept) pending.values keeps))

pub took-joins : (old : Grouper) (rows : List Row) (done : List Group) (group : Group) (p : RowGroup) (row : Row) (kept : ℕ) (ptrs : Vec RowPtr Global)
    (spare : List KeyVal) → IsReady old → IsPending old rows done group p → IsGroupOf old.kinds old.keys p → IsRowOf old.kinds old.keys row
    → KeepsUpToDifference p.values (row.keys ++ row.extra) kept → 0 < length old.ptrs.items
    → (old.shares && (nat_lt old.keys kept && nat_le (posting_size p.size (length old.ptrs.items + 1)) 812)) ≡ true
    → ptrs.items ≡ old.ptrs.items ++ row.pointer ∷ []
    → IsPending (record old { pending = Some p; ptrs = ptrs; spare = spare }) (rows ++ row ∷ []) done (grown group row) p
took-joins old rows done group p row kept ptrs spare ready pending is row_is keeps some joins pointers = record {
  is = refl;
  groups = groups-join old.kinds old.keys old.shares rows row done group (all-is old.kinds old.keys old.shares rows ready.keys_alone pending.rows_are) pending.groups
      (joins-is old rows done group p row kept pending is row_is keeps some ∙ joins);
  values = pending.values;
  keys_all = pending.keys_all;
  pointers = pointers ∙ ap (λ l. l ++ row.pointer ∷ []) pending.pointers ∙ sym (map_push (λ (r : Row). r.pointer) (rows_of group) row);
  separator = pending.separator ∙ sym (separator-grown (images_of old.kinds old.keys) (last_group done) group row);
  rows_are = All-push (IsRowOf old.kinds old.keys) rows row pending.rows_are row_is;
}

-- ---- a row begins a group behind the last

last_group-push : (done : List Group) (group : Group) → last_group (done ++ group ∷ []) ≡ Some group
last_group-push [] group = refl
last_group-push (g ∷ []) group = refl
last_group-push (g ∷ next ∷ done) group = last_group-push (next ∷ done) group

image-is : (kinds : List ColType) (keys : ℕ) (group : Group) (p : RowGroup) (ptrs : List RowPtr) → p.values ≡ group.first.keys ++ group.first.extra
    → length group.first.keys ≡ keys → ptrs ≡ map (λ row. row.pointer) (rows_of group)
    → group_image kinds keys p ptrs ≡ tuple_of_group (images_of kinds keys) group
image-is kinds keys group p ptrs values all pointers =
    ap (group_image kinds keys p) pointers ∙ go group.first group.others values all
  where
    go : (first : Row) (others : List Row) → p.values ≡ first.keys ++ first.extra → length first.keys ≡ keys
        → group_image kinds keys p (map (λ row. row.pointer) (first ∷ others)) ≡ tuple_of_group (images_of kinds keys) (record { first = first; others = others })
    go first [] values all = ap (λ l. plain_image kinds l first.pointer) values
    go first (next ∷ others) values all =
        ap (λ l. posting_image (take keys kinds) l (first.pointer ∷ next.pointer ∷ map (λ row. row.pointer) others))
        (ap (take keys) values ∙ take_at first.keys first.extra keys all)

-- the group that is done is the last of the rows' groups
pub tells-done : (old mid : Grouper) (rows : List Row) (done : List Group) (group : Group) (p : RowGroup)
    → IsPending old rows done group p → IsGroupOf old.kinds old.keys p → mid.kinds ≡ old.kinds → mid.keys ≡ old.keys
    → mid.tuple.items ≡ group_image old.kinds old.keys p old.ptrs.items → Tells mid (last_group done) group p
tells-done old mid rows done group p pending is kinds keys tuple =
    rw (kinds, keys)
    (let front : take old.keys p.values ≡ group.first.keys = ap (take old.keys) pending.values ∙ take_at group.first.keys group.first.extra old.keys pending.keys_all in
    record {
      tuple = tuple ∙ image-is old.kinds old.keys group p old.ptrs.items pending.values pending.keys_all pending.pointers;
      size = plain-long old.kinds old.keys group p pending.values is.size;
      keys = front;
      separator = pending.separator;
    })

pub took-begins : (old mid new : Grouper) (rows : List Row) (done : List Group) (group : Group) (p : RowGroup) (row : Row) (values : List KeyVal) (kept : ℕ) (pointer : Option RowPtr)
    → IsReady old → IsPending old rows done group p → IsRowOf old.kinds old.keys row
    → join-test old.kinds old.keys old.shares group row ≡ false → IsOfOneIndex old mid → HasBegun mid new values row.pointer kept pointer
    → values ≡ row.keys ++ row.extra
    → separator_image old.kinds old.keys (record { values = values; size = size_of mid.kinds values; kept = kept; pointer = pointer })
    ≡ pivot_between (images_of old.kinds old.keys) (Some group) (alone row)
    → IsPending new (rows ++ row ∷ []) (done ++ group ∷ []) (alone row) (record { values = values; size = size_of mid.kinds values; kept = kept; pointer = pointer })
took-begins old mid new rows done group p row values kept pointer ready pending row_is begins made begun same tells =
    let kinds : new.kinds ≡ old.kinds = begun.kinds ∙ made.kinds in
    let keys : new.keys ≡ old.keys = begun.keys ∙ made.keys in
    let shares : new.shares ≡ old.shares = begun.shares ∙ made.shares in
    record {
      is = begun.pending;
      groups = rw (kinds, shares) (groups-begin old.kinds old.keys old.shares rows row done group (all-is old.kinds old.keys old.shares rows ready.keys_alone pending.rows_are) pending.groups begins);
      values = same;
      keys_all = row_is.keys_all ∙ sym keys;
      pointers = begun.ptrs;
      separator = rw (kinds, keys, last_group-push done group) tells;
      rows_are = rw (kinds, keys) (All-push (IsRowOf old.kinds old.keys) rows row pending.rows_are row_is);
    }

-- the group that is done and the one that a row begins
pub took-over : (old mid new : Grouper) (rows : List Row) (done : List Group) (group : Group) (p : RowGroup) (row : Row) (values : List KeyVal) (kept : ℕ) (pointer : Option RowPtr)
    → IsReady old → IsPending old rows done group p → IsGroupOf old.kinds old.keys p → IsRowOf old.kinds old.keys row
    → join-test old.kinds old.keys old.shares group row ≡ false → IsOfOneIndex old mid → mid.tuple.items ≡ group_image old.kinds old.keys p old.ptrs.items
    → HasBegun mid new values row.pointer kept pointer → values ≡ row.keys ++ row.extra
    → separator_image old.kinds old.keys (record { values = values; size = size_of mid.kinds values; kept = kept; pointer = pointer })
    ≡ pivot_between (images_of old.kinds old.keys) (Some group) (alone row)
    → (x : Group) × (Tells new (last_group done) x p × HasGrouped (rows ++ row ∷ []) (done ++ x ∷ []) new)
took-over old mid new rows done group p row values kept pointer ready pending is row_is begins one tuple begun same tells = (
  group,
  (
    tells-done old new rows done group p pending is (begun.kinds ∙ one.kinds) (begun.keys ∙ one.keys) (ap (λ (v : Vec ℕ Global). v.items) begun.tuple ∙ tuple),
    inr (
      alone row,
      (
        record { values = values; size = size_of mid.kinds values; kept = kept; pointer = pointer },
        took-begins old mid new rows done group p row values kept pointer ready pending row_is begins one begun same tells,
      ),
    ),
  ),
)

-- what tells the row's group from the last one
take-again : {X : Type 0} (n : ℕ) (xs : List X) → take n (take n xs) ≡ take n xs
take-again zero xs = refl
take-again (suc n) [] = refl
take-again (suc n) (x ∷ xs) = ap (λ l. x ∷ l) (take-again n xs)

lt-yes : (a b : ℕ) → a < b → nat_lt a b ≡ true
lt-yes a b less = grind (arith, nat_tests)

lt-less : (a b : ℕ) → nat_lt a b ≡ true → a < b
lt-less a b is = grind (arith, nat_tests)

no-cut : (left right : List KeyVal) → length left ≡ length right → left ≡ right → nat_lt (common_prefix_len is_same_value left right) (length right) ≡ false
no-cut left right same equal = go (nat_lt at (length right)) refl
  where
    at : ℕ
    at = common_prefix_len is_same_value left right

    go : (t : Bool) → nat_lt at (length right) ≡ t → t ≡ false
    go false is = refl
    go true is = absurd ((prefix-alike left right same).apart (lt-less at (length right) is) (ap (take (suc at)) equal))

pub tells-pointer : (kinds : List ColType) (keys size : ℕ) (group : Group) (row : Row) (values : List KeyVal) (last : RowPtr) (kept : ℕ) → length group.first.keys ≡ keys → length row.keys ≡ keys
    → values ≡ row.keys ++ row.extra → KeepsUpToDifference (group.first.keys ++ group.first.extra) (row.keys ++ row.extra) kept → keys < kept
    → last ≡ greatest_pointer group
    → separator_image kinds keys (record { values = values; size = size; kept = keys; pointer = Some last }) ≡ pivot_between (images_of kinds keys) (Some group) (alone row)
unfolding separator
tells-pointer kinds keys size group row values last kept l r same keeps many is =
    let left = group.first.keys in
    let right = row.keys in
    let equal : left ≡ right = kept-beyond left right group.first.extra row.extra kept (l ∙ sym r) keeps (omega arith) in
    let alike : ℕ = common_prefix_len is_same_value left right in
    let pivot : Separator → List ℕ = (images_of kinds keys).pivot in
    let cut : Separator = record { keys = take (alike + 1) right; pointer = None } in
    let all : Separator = record { keys = right; pointer = Some (greatest_pointer group) } in
    let image : ℕ → List KeyVal → RowPtr → List ℕ = λ (n : ℕ) (k : List KeyVal) (q : RowPtr). image_of_attributes (take n (take keys kinds)) k n (Some q) 0 in
    ap (λ k. image keys k last) (take-again keys values ∙ ap (take keys) same ∙ take_at right row.extra keys r)
    ∙ ap (λ q. image keys right q) is
    ∙ ap (λ (n : ℕ). image n right (greatest_pointer group)) (sym r)
    ∙ sym (ap (λ t. pivot (if t then cut else all)) (no-cut left right (l ∙ sym r) equal))

pub tells-keys : (kinds : List ColType) (keys size : ℕ) (group : Group) (row : Row) (values : List KeyVal) (kept : ℕ) → length group.first.keys ≡ keys → length row.keys ≡ keys
    → values ≡ row.keys ++ row.extra → KeepsUpToDifference (group.first.keys ++ group.first.extra) (row.keys ++ row.extra) kept → kept ≤ keys
    → separator_image kinds keys (record { values = values; size = size; kept = kept; pointer = None }) ≡ pivot_between (images_of kinds keys) (Some group) (alone row)
unfolding separator
tells-keys kinds keys size group row values kept l r same keeps few =
    let left = group.first.keys in
    let right = row.keys in
    let alike : ℕ = common_prefix_len is_same_value left right in
    let next : kept ≡ alike + 1 = kept-within left right group.first.extra row.extra kept (l ∙ sym r) keeps (omega arith) in
    let pivot : Separator → List ℕ = (images_of kinds keys).pivot in
    let cut : Separator = record { keys = take (alike + 1) right; pointer = None } in
    let all : Separator = record { keys = right; pointer = Some (greatest_pointer group) } in
    let image : ℕ → List KeyVal → List ℕ = λ (n : ℕ) (k : List KeyVal). image_of_attributes (take n (take keys kinds)) k n None 0 in
    let test : nat_lt alike (length right) ≡ true = lt-yes alike (length right) (omega arith) in
    ap (λ k. image kept (take kept k)) (ap (take keys) same ∙ take_at right row.extra keys r)
    ∙ ap (λ (n : ℕ). image n (take kept right)) (sym (length-take-le kept right (omega arith)))
    ∙ ap (λ (m : ℕ). image (length (take m right)) (take m right)) next
    ∙ sym (ap (λ t. pivot (if t then cut else all)) test)

pub last-pointer : (first : Row) (others : List Row) (d : RowPtr) → get_or (map (λ row. row.pointer) (first ∷ others)) (length others) d ≡ (last_of first others).pointer
last-pointer first [] d = refl
last-pointer first (next ∷ others) d = last-pointer next others d

-- ---- the last group is pending

pub record Found (old : Grouper) (rows : List Row) (done : List Group) (p : RowGroup) : Type 0 where
  pub group : Group
  pub pending : IsPending old rows done group p

pub found : (old : Grouper) (rows : List Row) (done : List Group) (p : RowGroup) → old.pending ≡ Some p → HasGrouped rows done old → Found old rows done p
found old rows done p some (inl started) = let none = started.2 in let impossible : None ≡ Some p = sym none ∙ some in cc
found old rows done p some (inr there) =
    let pending = there.1.1 in
    let both : Some there.1.0 ≡ Some p = sym pending.is ∙ some in
    let same : there.1.0 ≡ p = cc in
    record { group = there.0; pending = subst (IsPending old rows done there.0) same pending }

pub pending-facts : (old : Grouper) (p : RowGroup) → IsReady old → old.pending ≡ Some p
    → IsGroupOf old.kinds old.keys p × (0 < length old.ptrs.items) × HasRoom old.kinds old.keys p (length old.ptrs.items)
pending-facts old p ready some =
    subst (λ o. MatchOption o (Unit {0}) (λ g. IsGroupOf old.kinds old.keys g × (0 < length old.ptrs.items) × HasRoom old.kinds old.keys g (length old.ptrs.items))) some ready.pending

pub greatest-is : (ptrs : List RowPtr) (group : Group) (at : ℕ) (last : RowPtr) → ptrs ≡ map (λ row. row.pointer) (rows_of group) → at ≡ length ptrs - 1
    → last ≡ get_or ptrs at last → last ≡ greatest_pointer group
greatest-is ptrs group at last pointers place is =
    let count = ap length pointers in
    let long = length-map group.others (λ (r : Row). r.pointer) in
    is ∙ ap (λ l. get_or l at last) pointers
    ∙ ap (λ (n : ℕ). get_or (map (λ row. row.pointer) (rows_of group)) n last) (let e : at ≡ length group.others = omega arith in e)
    ∙ last-pointer group.first group.others last
