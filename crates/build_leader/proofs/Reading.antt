-- How an item is read, and what its record is.
use Rattle.std.proofs.Common.{◌≡◌, ◌≢◌, ℕ, ◌+◌, ◌^◌, ◌<◌, ◌≤◌, List, [], ◌∷◌, ◌++◌, length, map, take, drop, get_or, Bool, true, false, Some, Result, Ok, slice_get, refl, sym, ap, ap₂, subst, ◌∙◌, arith, rules, All}
use Rattle.std.specs.Prelude.{◌↔◌, IfSome, IsTrue}
use Rattle.std.specs.List.{AllZip}
use Rattle.std.proofs.lemmas.Bool.{true≢false}
use Rattle.std.proofs.lemmas.List.{drop_at, length-append, length-drop, length-map, map-append, take-append-drop, take_at}
use Rattle.std.proofs.lemmas.List.Elements.{All-cons, All-drop, All-nil, All-same, All-take, All-weaker}
use Rattle.std.proofs.lemmas.List.Kept.{AllPairs-from_increasing}
use Rattle.std.proofs.lemmas.List.Sums.{sum_by-le}
use Rattle.run_merge.proofs.Sorting.{Pairs, Pairs-from}
use Rattle.pg_bytes.specs.PageLayout.{page_size}
use Rattle.pg_bytes.specs.declared.row_ptr.RowPtr.{RowPtr}
use Rattle.tuple_data.specs.Laws.{room_of}
use Rattle.opclass.specs.declared.spec.IndexSpec.{IndexSpec}
use Rattle.opclass.specs.declared.spec.KeyCol.{KeyCol}
use Rattle.opclass.specs.declared.table.Column.{Column}
use Rattle.opclass.specs.declared.table.Table.{Table}
use Rattle.opclass.specs.declared.types.ColType.{ColType}
use Rattle.opclass.specs.declared.types.Method.{Method}
use Rattle.opclass.specs.declared.types.KeyUse.{KeyUse}
use Rattle.opclass.specs.declared.types.KeyUse.TheVariants as key
use Rattle.opclass.specs.declared.types.Method.TheVariants as method
use Rattle.opclass.specs.Types.{facts_of, takes_key}
use Rattle.opclass.specs.Values.{IsValueOf}
use Rattle.opclass.specs.declared.value.KeyVal.{KeyVal}
use Rattle.opclass.specs.declared.value.KeyVal.TheVariants.{Nil, Num, Raw, Items}
use Rattle.opclass.specs.Filter.{PassesFilter, value_of}
use Rattle.opclass.specs.Indexes.{IsKeyOf, most_columns}
use Rattle.opclass.specs.Norm.{IsKeyValue}
use Rattle.hot_chain.specs.Roots.{IsLive}
use Rattle.heap_row.specs.declared.fault.RowCause.{RowCause}
use Rattle.heap_row.specs.declared.fault.RowFault.{RowFault}
use Rattle.heap_row.specs.declared.fault.RowFault.TheVariants.{Value, Memory}
use Rattle.heap_row.specs.Attribute.{AreColumnsOf, values_of}
use Rattle.heap_row.specs.Fault.{IsFaultOf}
use Rattle.heap_row.specs.Tuple.{tuple_of}
use Rattle.heap_row.specs.Typed.{AreReadOf, HasAtMost, IsReadOf}
use Rattle.heap_row.proofs.ReadValues.{as_many}
use Rattle.shared_tape.specs.declared.stored.Record.{Record}
use Rattle.shared_tape.specs.Laws.{value_room}
use Rattle.shared_tape.specs.Stored.{IsPointer, IsStorable}
use Rattle.spool.specs.Gathers.{AreStorableEntries}
use Rattle.shared_tape.proofs.Lengths.{stored_short}
use Rattle.btree_item.specs.Tuple.{size_of}
use Rattle.btree_item.proofs.Sizes.{few_size}
use Rattle.build_leader.specs.declared.scan.row_reader.RowReader.TheInside.{Inside}
use Rattle.build_leader.specs.declared.scan.width.WidthCause.{WidthCause}
use Rattle.build_leader.specs.Entries.{array_of}
use Rattle.build_leader.specs.Holding.{IsTakeableBy}
use Rattle.build_leader.specs.IndexRow.{AreTooWide, AreValuesOf, HasIndexValues, IsLeftOut, TooWide, Unread, index_columns, index_kinds, key_columns, needed_of}
use Rattle.build_leader.specs.Outcome.{order_of_index}
use Rattle.build_leader.specs.Reader.{AreAt, AreNeeded, AreNeededOrLeft, AreRead, AreReadOrLeft, IsItemFault, IsReadRecord, IsReadable, IsSoundItem, IsSoundReader, IsWidthFault, ReaderView}
use Rattle.build_leader.proofs.EntryRecords.{row_is_storable, short_values, typed_values}
use Rattle.build_leader.proofs.Needed.{columns_are_keys, needed_ascends, needed_columns}
use Rattle.build_leader.proofs.PickedValues.{Less, are_key_values, own_values, picks, places_inside, places_of_keys}

-- ---- the columns of an index

brin_is_tree : (key_use : KeyUse) → takes_key method.Brin key_use ≡ true → takes_key method.BTree key_use ≡ true
brin_is_tree key.Never e = absurd (true≢false (sym e))
brin_is_tree key.BTree e = absurd (true≢false (sym e))
brin_is_tree key.BTreeAndBrin e = refl
brin_is_tree key.Gin e = absurd (true≢false (sym e))

-- what no array is taken for, a B-tree takes
as_tree : (table : Table) (m : Method) (number : ℕ) → m ≢ method.Gin → IsKeyOf table m number → IsKeyOf table method.BTree number
as_tree table method.BTree number no_array is = is
as_tree table method.Brin number no_array is =
    record { column = is.column; above = is.above; found = is.found; taken = brin_is_tree (facts_of is.column.kind).key_use is.taken }
as_tree table method.Gin number no_array is = absurd (no_array refl)

tree_keys : (table : Table) (spec : IndexSpec) → IsReadable table spec → spec.method ≢ method.Gin
    → All (IsKeyOf table method.BTree) (index_columns spec)
tree_keys table spec index no_array =
    All-weaker (IsKeyOf table spec.method) (IsKeyOf table method.BTree) (λ number. as_tree table spec.method number no_array)
    (index_columns spec) (columns_are_keys table spec index.over)

most_are_few : (m : Method) → most_columns m ≤ 32
most_are_few method.BTree = omega arith
most_are_few method.Brin = omega arith
most_are_few method.Gin = omega arith

module _ (table : Table) (spec : IndexSpec) where
  pub columns_count : length (index_columns spec) ≡ length spec.keys + length spec.includes
  columns_count =
      length-append (key_columns spec) spec.includes
      ∙ ap (λ (n : ℕ). n + length spec.includes) (length-map spec.keys (λ (key : KeyCol). key.column))

  pub few_columns : IsReadable table spec → length spec.keys + length spec.includes ≤ 32
  few_columns index = let most = index.over.most in let few = most_are_few spec.method in omega arith

-- ---- what a reader has inside

abbrev pub seen : Inside → ReaderView
seen inside = record { table = inside.table.now; spec = inside.spec.now }

-- it is of the table and the index as which the reader is seen
pub record IsInsideOf (reader : ReaderView) (inside : Inside) : Type 0 where
  pub table : inside.table.now ≡ reader.table
  pub spec : inside.spec.now ≡ reader.spec
  pub index : IsReadable reader.table reader.spec
  pub needed : inside.needed ≡ needed_of reader.table reader.spec
  pub kinds : inside.kinds ≡ index_kinds reader.table reader.spec
  pub places : AreAt (needed_of reader.table reader.spec) inside.places.items (index_columns reader.spec)
  pub as_needed : IsTrue inside.as_needed → needed_of reader.table reader.spec ≡ index_columns reader.spec

pub inside_of : (reader : ReaderView) (inside : Inside) → IsSoundReader inside → seen inside ≡ reader → IsInsideOf reader inside
inside_of reader inside sound is = subst (λ (r : ReaderView). IsInsideOf r inside) is (record {
  table = refl;
  spec = refl;
  index = sound.index;
  needed = sound.needed;
  kinds = sound.kinds;
  places = subst (λ (needed : List ℕ). AreAt needed inside.places.items (index_columns inside.spec.now)) sound.needed sound.places;
  as_needed = λ told. sym sound.needed ∙ sound.as_needed told;
})

module _ (reader : ReaderView) (inside : Inside) (of : IsInsideOf reader inside) where
  abbrev needed_here : List ℕ
  needed_here = needed_of reader.table reader.spec

  needed_up : Pairs Less needed_here
  needed_up =
      Pairs-from Less needed_here (AllPairs-from_increasing needed_here (needed_ascends reader.table reader.spec))

  pub needed_are : AreColumnsOf inside.table.now.columns inside.needed
  needed_are =
      subst (λ (needed : List ℕ). AreColumnsOf inside.table.now.columns needed) (sym of.needed)
      (subst (λ (table : Table). AreColumnsOf table.columns needed_here) (sym of.table) (needed_columns reader.table reader.spec))

  -- an index of arrays has one column
  pub one_place : reader.spec.method ≡ method.Gin → length inside.places.items ≡ 1
  one_place gin =
      let most : length reader.spec.keys + length reader.spec.includes ≤ most_columns method.Gin =
      subst (λ (m : Method). length reader.spec.keys + length reader.spec.includes ≤ most_columns m) gin of.index.over.most in
      let some = of.index.over.some in
      let places = length-map inside.places.items (slice_get needed_here) in
      let columns = length-map (index_columns reader.spec) Some in
      let same = ap length of.places in
      let count = columns_count reader.table reader.spec in
      omega (arith, most, some, places, columns, same, count)

  pub its_place : reader.spec.method ≡ method.Gin → (place : ℕ) → place ≡ get_or inside.places.items 0 place
      → place ∷ [] ≡ inside.places.items
  its_place gin place is = alone inside.places.items place (one_place gin) is
    where
      alone : (places : List ℕ) (place : ℕ) → length places ≡ 1 → place ≡ get_or places 0 place → place ∷ [] ≡ places
      alone [] place one is = absurd (omega arith)
      alone (first ∷ []) place one is = ap (λ (p : ℕ). p ∷ []) is
      alone (first ∷ other ∷ places) place one is = absurd (omega arith)

  module _ (page : List ℕ) (item : ℕ) where
    -- what the tuple has for the needed columns
    abbrev reading : Result (List KeyVal) RowCause
    reading = values_of (tuple_of page item) inside.table.now.columns inside.needed

    abbrev reading_here : Result (List KeyVal) RowCause
    reading_here = values_of (tuple_of page item) reader.table.columns needed_here

    same_reading : reading ≡ reading_here
    same_reading =
        ap₂ (λ (table : Table) (needed : List ℕ). values_of (tuple_of page item) table.columns needed) of.table of.needed

    -- a column that can't be read is the item's fault
    pub unread : (fault : RowFault) → IsLive page item → IsFaultOf reading fault
        → IsItemFault reader.table reader.spec page item fault
    unread (Value number) live is = (Unread is.0, (live, sym same_reading ∙ is.1), is.2)
    unread Memory live is = tt

    -- what was read of the needed columns, and what WHERE says of it
    pub needed_or_left : (values : List KeyVal) (kept : Bool) → length page ≡ page_size → reading ≡ Ok values
        → AreReadOf inside.table.now.columns (length page) inside.needed values
        → (IsTrue kept ↔ PassesFilter inside.spec.now.filter inside.needed values)
        → AreNeededOrLeft reader.table reader.spec page item kept values
    needed_or_left values kept size read typed is =
        by_where kept (subst (λ (spec : IndexSpec). IsTrue kept ↔ PassesFilter spec.filter needed_here values) of.spec
        (subst (λ (needed : List ℕ). IsTrue kept ↔ PassesFilter inside.spec.now.filter needed values) of.needed is))
      where
        by_where : (kept : Bool) → (IsTrue kept ↔ PassesFilter reader.spec.filter needed_here values)
            → AreNeededOrLeft reader.table reader.spec page item kept values
        by_where true is = record {
          read = sym same_reading ∙ read;
          kept = is.0 (search rules);
          typed =
              subst (λ (most : ℕ). AreReadOf reader.table.columns most needed_here values) size
              (subst (λ (table : Table). AreReadOf table.columns (length page) needed_here values) of.table
              (subst (λ (needed : List ℕ). AreReadOf inside.table.now.columns (length page) needed values) of.needed typed));
        }
        by_where false is = record {
          values = values;
          read = sym same_reading ∙ read;
          left_out = λ passes. true≢false (sym (search (rules, is.1 passes)));
        }

    -- ---- the values of the index's columns, out of those of the needed ones

    -- as they stand
    pub as_they_stand : (kept : Bool) (values : List KeyVal) → IsTrue inside.as_needed
        → AreNeededOrLeft reader.table reader.spec page item kept values
        → AreReadOrLeft reader.table reader.spec page item kept values
    as_they_stand false values as_needed out = out
    as_they_stand true values as_needed here =
        let same = of.as_needed as_needed in
        record {
          values = values;
          read = here.read;
          kept = here.kept;
          are = subst (λ (columns : List ℕ). AreValuesOf needed_here values columns values) same
              (own_values reader.table.columns page_size needed_here values needed_up here.typed);
          typed = subst (λ (columns : List ℕ). AreReadOf reader.table.columns page_size columns values) same here.typed;
        }

    module _ (values : List KeyVal) (here : AreNeeded reader.table reader.spec page item values) where
      pub are_inside : All (λ place. place < length values) inside.places.items
      are_inside =
          places_inside reader.table page_size needed_here values here.typed inside.places.items (index_columns reader.spec) of.places

      pub are_keys : reader.spec.method ≢ method.Gin → All (λ place. IfSome (slice_get values place) IsKeyValue) inside.places.items
      are_keys no_array =
          places_of_keys reader.table page_size needed_here values here.typed inside.places.items (index_columns reader.spec)
          of.places (tree_keys reader.table reader.spec of.index no_array)

      -- from their places
      pub picked_out : (picked : List KeyVal) → AreAt values inside.places.items picked
          → AreRead reader.table reader.spec page item picked
      picked_out picked at =
          let both = picks reader.table.columns page_size needed_here values needed_up here.typed inside.places.items
          (index_columns reader.spec) picked of.places at in
          record { values = values; read = here.read; kept = here.kept; are = both.0; typed = both.1 }

-- ---- what is read has few bytes

pub few_bytes : (value : KeyVal) → HasAtMost page_size value → room_of value ≤ 10011
few_bytes Nil has = omega arith
few_bytes (Num number) has = omega arith
few_bytes (Raw bytes) has = omega (arith, has)
few_bytes (Items elements) has = omega arith

few_order_bytes : (value : KeyVal) → HasAtMost page_size value → value_room value ≤ 20000
few_order_bytes Nil has = omega arith
few_order_bytes (Num number) has = omega arith
few_order_bytes (Raw bytes) has = omega (arith, has)
few_order_bytes (Items elements) has = omega arith

-- the first one is read of the first column
first_read : (columns : List Column) (numbers : List ℕ) (values : List KeyVal) → AreReadOf columns page_size numbers values
    → (keys extra : List KeyVal) → values ≡ keys ++ extra → 0 < length keys
    → (number : ℕ) × IsReadOf columns page_size number (get_or keys 0 Nil)
first_read columns numbers values read [] extra are some = absurd (omega (arith, some))
first_read columns numbers [] read (k ∷ keys) extra are some = cc
first_read columns [] (v ∷ vs) read (k ∷ keys) extra are some = absurd read
first_read columns (n ∷ ns) (v ∷ vs) read (k ∷ keys) extra are some =
    let same : v ≡ k = cc in
    (n, subst (IsReadOf columns page_size n) same read.0)

pub all_have : (columns : List Column) (numbers : List ℕ) (values : List KeyVal) → AreReadOf columns page_size numbers values
    → All (HasAtMost page_size) values
all_have columns [] [] read = All-nil (HasAtMost page_size)
all_have columns [] (v ∷ vs) read = absurd read
all_have columns (n ∷ ns) [] read = absurd read
all_have columns (n ∷ ns) (v ∷ vs) read = All-cons (HasAtMost page_size) v vs read.0.short (all_have columns ns vs read.1)

-- ---- the record

some_values : (a b : List KeyVal) → map Some a ≡ map Some b → a ≡ b
some_values [] [] e = refl
some_values [] (y ∷ b) e = cc
some_values (x ∷ a) [] e = cc
some_values (x ∷ a) (y ∷ b) e =
    let head : x ≡ y = cc in
    let tail : map Some a ≡ map Some b = cc in
    ap₂ (λ v vs. v ∷ vs) head (some_values a b tail)

front_same : {X : Type 0} (a b c d : List X) → length a ≡ length c → a ++ b ≡ c ++ d → a ≡ c
front_same a b c d len e = sym (take_at a b (length c) len) ∙ ap (take (length c)) e ∙ take_at c d (length c) refl

back_same : {X : Type 0} (a b c d : List X) → length a ≡ length c → a ++ b ≡ c ++ d → b ≡ d
back_same a b c d len e = sym (drop_at a b (length c) len) ∙ ap (drop (length c)) e ∙ drop_at c d (length c) refl

module _ (table : Table) (spec : IndexSpec) (page : List ℕ) (item : ℕ) where
  -- a row that WHERE leaves out has no fault
  pub left_is_sound : IsLeftOut table spec page item → IsSoundItem table spec page item
  left_is_sound out (Unread cause) fault =
      let ok = out.read in
      let err = fault.1 in
      cc
  left_is_sound out (TooWide cause) fault =
      let has = fault.1.2 in
      let same : has.values ≡ out.values = cc (has.read, out.read) in
      out.left_out (subst (PassesFilter spec.filter (needed_of table spec)) same has.kept)

  module _ (index : IsReadable table spec) (picked : List KeyVal) (read : AreRead table spec page item picked) where
    pub picked_count : length picked ≡ length spec.keys + length spec.includes
    picked_count = as_many table.columns page_size (index_columns spec) picked read.typed ∙ columns_count table spec

    pub picked_typed : AllZip IsValueOf (index_kinds table spec) picked
    picked_typed = typed_values table spec page_size picked read.typed

    pub short : All (HasAtMost page_size) picked
    short = short_values table.columns page_size (index_columns spec) picked read.typed

    -- its size can be counted
    pub size_fits : (kinds : List ColType) → size_of kinds picked < 2 ^ 63
    size_fits kinds =
        let small = All-weaker (HasAtMost page_size) (λ value. room_of value ≤ 10011) few_bytes picked short in
        let count = picked_count in
        let few = few_columns table spec index in
        let size = few_size kinds picked (omega arith) small in
        omega arith

    -- the values of the keys, and those of INCLUDE
    pub halves : (keys extra : List KeyVal) → picked ≡ keys ++ extra → length extra ≡ length spec.includes
        → HasIndexValues table spec page item keys extra
    halves keys extra are count =
        let f = value_of (needed_of table spec) read.values in
        let whole : map f (key_columns spec) ++ map f spec.includes ≡ map Some keys ++ map Some extra =
        sym (map-append f (key_columns spec) spec.includes) ∙ read.are ∙ ap (map Some) are ∙ map-append Some keys extra in
        let all = picked_count in
        let sum = ap length are ∙ length-append keys extra in
        let listed = length-map spec.keys (λ (key : KeyCol). key.column) in
        let front = length-map (key_columns spec) f in
        let some = length-map keys Some in
        let len : length (map f (key_columns spec)) ≡ length (map Some keys) = omega arith in
        record {
          values = read.values;
          read = read.read;
          kept = read.kept;
          keys_are = front_same (map f (key_columns spec)) (map f spec.includes) (map Some keys) (map Some extra) len whole;
          extra_are = back_same (map f (key_columns spec)) (map f spec.includes) (map Some keys) (map Some extra) len whole;
        }

    -- values that are too large are the item's fault
    pub too_wide : IsLive page item → (fault : RowFault) → IsWidthFault spec (index_kinds table spec) picked fault
        → IsItemFault table spec page item fault
    too_wide live (Value number) wide =
        let n = length spec.keys in
        let whole : picked ≡ take n picked ++ drop n picked = sym (take-append-drop n picked) in
        let all = picked_count in
        let back = length-drop n picked in (
          TooWide wide.0,
          (
            live,
            (
              take n picked,
              drop n picked,
              halves (take n picked) (drop n picked) whole (omega arith),
              subst (λ (values : List KeyVal). AreTooWide wide.0 spec (index_kinds table spec) values) whole wide.1,
            ),
          ),
          wide.2,
        )
    too_wide live Memory wide = tt

    -- and any others have none
    pub picked_is_sound : ((cause : WidthCause) → AreTooWide cause spec (index_kinds table spec) picked → ⊥)
        → IsSoundItem table spec page item
    picked_is_sound narrow (Unread cause) fault =
        let ok = read.read in
        let err = fault.1 in
        cc
    picked_is_sound narrow (TooWide cause) fault =
        let keys = fault.1.0 in
        let extra = fault.1.1 in
        let has = fault.1.2 in
        let wide = fault.1.3 in
        let same : has.values ≡ read.values = cc (has.read, read.read) in
        let f = value_of (needed_of table spec) has.values in
        let f_same : map f (index_columns spec) ≡ map (value_of (needed_of table spec) read.values) (index_columns spec) =
        ap (λ (values : List KeyVal). map (value_of (needed_of table spec) values) (index_columns spec)) same in
        let all : map Some (keys ++ extra) ≡ map Some picked =
        map-append Some keys extra ∙ ap₂ (λ a b. a ++ b) (sym has.keys_are) (sym has.extra_are)
        ∙ sym (map-append f (key_columns spec) spec.includes) ∙ f_same ∙ read.are in
        let one = some_values (keys ++ extra) picked all in
        narrow cause (subst (λ (values : List KeyVal). AreTooWide cause spec (index_kinds table spec) values) one wide)

    -- ---- a sink takes the record

    module _ (keys extra : List KeyVal) (ptr : RowPtr) (are : picked ≡ keys ++ extra) (count : length extra ≡ length spec.includes)
        (pointer : IsPointer ptr) where
      abbrev row : Record
      row = record { keys = keys; extra = extra; ptr = ptr }

      keys_count : length keys ≡ length spec.keys
      keys_count =
          let all = picked_count in
          let sum = ap length are ∙ length-append keys extra in
          omega arith

      is_storable : spec.method ≡ method.BTree → IsStorable (order_of_index spec) row
      is_storable tree =
          let order = order_of_index spec in
          let no_array : spec.method ≢ method.Gin = λ gin. cc in
          let values = are_key_values table page_size (index_columns spec) picked read.typed (tree_keys table spec index no_array) in
          let n = length keys in
          let front : keys ≡ take n picked = sym (take_at keys extra n refl) ∙ ap (take n) (sym are) in
          let back : extra ≡ drop n picked = sym (drop_at keys extra n refl) ∙ ap (drop n) (sym are) in
          let own = keys_count in
          let parts : length (order_of_index spec) ≡ length spec.keys = length-map spec.keys _ in
          let few = few_columns table spec index in
          let rooms = All-weaker (HasAtMost page_size) (λ value. value_room value ≤ 20000) few_order_bytes picked short in
          let key_rooms = All-same (λ value. value_room value ≤ 20000) keys (take n picked) front (All-take (λ value. value_room value ≤ 20000) n picked rooms) in
          let extra_rooms = All-same (λ value. value_room value ≤ 20000) extra (drop n picked) back (All-drop (λ value. value_room value ≤ 20000) n picked rooms) in
          let key_sum = sum_by-le value_room 20000 keys key_rooms in
          let extra_sum = sum_by-le value_room 20000 extra extra_rooms in
          let lengths = stored_short order row in
          record {
            keys = record {
              columns = omega arith;
              each = All-same IsKeyValue keys (take n picked) front (All-take IsKeyValue n picked values);
            };
            extra = All-same IsKeyValue extra (drop n picked) back (All-drop IsKeyValue n picked values);
            pointer = pointer;
            order_fits = omega (arith, lengths.0);
            extra_fits = omega (arith, lengths.1);
          }

      some_keys : 0 < length keys
      some_keys = let some = index.over.some in let own = keys_count in omega arith

      entries_storable : AreStorableEntries (array_of row) ptr
      entries_storable =
          let first = first_read table.columns (index_columns spec) picked read.typed keys extra are some_keys in
          row_is_storable table.columns first.0 (array_of row) ptr first.1 pointer

      is_takeable_by : (m : Method) → spec.method ≡ m → IsTakeableBy m spec row
      is_takeable_by method.BTree is = is_storable is
      is_takeable_by method.Brin is = keys_count
      is_takeable_by method.Gin is = (some_keys, entries_storable)

      pub is_record : IsReadRecord table spec page item ptr row
      is_record = record {
        values = halves keys extra are count;
        pointer = refl;
        takeable = is_takeable_by spec.method refl;
      }
