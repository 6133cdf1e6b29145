-- A run takes the entries of the values that columns have.
use Rattle.std.proofs.Common.{◌≡◌, ℕ, zero, suc, ◌+◌, ◌^◌, ◌<◌, ◌≤◌, pos, true, List, [], ◌∷◌, map, refl, arith, FitsSigned, w64}
use Rattle.std.specs.Prelude.{All}
use Rattle.std.proofs.lemmas.Int.{ints}
use Rattle.std.proofs.lemmas.List.Elements.{All-cons, All-head, All-map, All-nil, All-tail}
use Rattle.std.proofs.lemmas.List.Sums.{sum_by-cons}
use Rattle.std.proofs.lemmas.Map.Views.{All-insert_key}
use Rattle.pg_bytes.specs.declared.row_ptr.RowPtr.{RowPtr}
use Rattle.opclass.specs.declared.types.ColType.{ColType}
use Rattle.opclass.specs.declared.types.ColType.TheVariants as ty
use Rattle.opclass.specs.declared.types.Method.TheVariants.{BTree}
use Rattle.opclass.specs.declared.value.Elem.{Elem}
use Rattle.opclass.specs.declared.value.Elem.TheVariants as elem
use Rattle.opclass.specs.declared.value.KeyVal.{KeyVal}
use Rattle.opclass.specs.declared.value.KeyVal.TheVariants.{Nil, Num, Raw, Items}
use Rattle.opclass.specs.Norm.{IsKeyValue}
use Rattle.opclass.specs.Order.{elem_cmp}
use Rattle.opclass.specs.Types.{facts_of, takes_key}
use Rattle.opclass.specs.Values.{IsElementOf, IsValueOf}
use Rattle.opclass.proofs.KeyValues.{key_types_have_key_values}
use Rattle.gin_entry.specs.declared.entry.Category.{Category}
use Rattle.gin_entry.specs.declared.entry.Category.TheVariants.{Key, NullKey, EmptyItem, NullItem}
use Rattle.gin_entry.specs.declared.entry.Entry.{Entry}
use Rattle.gin_entry.specs.Entries.{distinct, entry_of, placeholder}
use Rattle.gin_entry.specs.EntryOrder.{category_column, entry_order}
use Rattle.shared_tape.specs.Laws.{value_room}
use Rattle.shared_tape.specs.Stored.{IsPointer, IsStorable}
use Rattle.shared_tape.proofs.Lengths.{stored_short}
use Rattle.spool.specs.Gathers.{AreStorable, AreStorableEntries, entry_record}
use Rattle.spool.specs.Laws.{HasShortElements, IsShort}

-- a small number has 64 bits
small : (n : ℕ) → n < 4 → FitsSigned w64 (pos n)
small n few = record { sfits = omega (arith, ints, few) }

-- the column of a small category is a value of a key column, and takes no more room than a number
column_is : (category : ℕ) → category < 4 → IsKeyValue (category_column category) × (value_room (category_column category) ≤ value_room (Num (pos 0)))
column_is zero few = (tt, omega arith)
column_is (suc number) few = (small (suc number) few, omega arith)

-- the record of an entry whose category is small and whose key is a short key value
entry_storable : (ptr : RowPtr) (entry : Entry) → IsPointer ptr → entry.category < 4 → IsKeyValue entry.key → value_room entry.key < 2 ^ 31 + 4
    → IsStorable entry_order (entry_record ptr entry)
entry_storable ptr entry pointer category key short =
    let lengths = stored_short entry_order (entry_record ptr entry) in
    let column = column_is entry.category category in
    record {
      keys = record {
        columns = refl;
        each =
            All-cons IsKeyValue (category_column entry.category) (entry.key ∷ []) column.0
            (All-cons IsKeyValue entry.key [] key (All-nil IsKeyValue));
      };
      extra = All-nil IsKeyValue;
      pointer = pointer;
      order_fits =
          omega (
            arith,
            short,
            column.1,
            lengths.0,
            sum_by-cons value_room (category_column entry.category) (entry.key ∷ []),
            sum_by-cons value_room entry.key [],
          );
      extra_fits = omega (arith, lengths.1);
    }

placeholder_storable : (ptr : RowPtr) (category : Category) → IsPointer ptr → IsStorable entry_order (entry_record ptr (placeholder category))
placeholder_storable ptr Key pointer = entry_storable ptr (placeholder Key) pointer (omega arith) tt (omega arith)
placeholder_storable ptr NullKey pointer = entry_storable ptr (placeholder NullKey) pointer (omega arith) tt (omega arith)
placeholder_storable ptr EmptyItem pointer = entry_storable ptr (placeholder EmptyItem) pointer (omega arith) tt (omega arith)
placeholder_storable ptr NullItem pointer = entry_storable ptr (placeholder NullItem) pointer (omega arith) tt (omega arith)

-- the record of an element of a type that a B-tree would take
element_storable : (ptr : RowPtr) (kind : ColType) (element : Elem) → takes_key BTree (facts_of kind).key_use ≡ true → IsPointer ptr
    → IsElementOf kind element → IsShort element → IsStorable entry_order (entry_record ptr (entry_of element))
element_storable ptr kind elem.Null takes pointer is short = placeholder_storable ptr NullKey pointer
element_storable ptr kind (elem.Num number) takes pointer is short =
    entry_storable ptr (entry_of (elem.Num number)) pointer (omega arith) (key_types_have_key_values kind (Num number) takes is) (omega arith)
element_storable ptr kind (elem.Raw bytes) takes pointer is short =
    entry_storable ptr (entry_of (elem.Raw bytes)) pointer (omega arith) (key_types_have_key_values kind (Raw bytes) takes is) (omega (arith, short))

-- what holds of each element holds of each distinct one
All-distinct : (P : Elem → Type 0) (elements : List Elem) → All P elements → All P (distinct elements)
All-distinct P [] all = all
All-distinct P (element ∷ elements) all =
    All-insert_key elem_cmp element P (distinct elements)
    (All-distinct P elements (All-tail P element elements all)) (All-head P element elements all)

elements_storable : (ptr : RowPtr) (kind : ColType) (elements : List Elem) → takes_key BTree (facts_of kind).key_use ≡ true → IsPointer ptr
    → All (IsElementOf kind) elements → All IsShort elements → AreStorable (map (entry_record ptr) (map entry_of (distinct elements)))
elements_storable ptr kind elements takes pointer are short =
    let Stored : Elem → Type 0 = λ element. IsStorable entry_order (entry_record ptr (entry_of element)) in
    let each : All Stored elements = λ k d inside. element_storable ptr kind _ takes pointer (are k d inside) (short k d inside) in
    All-map (IsStorable entry_order) (entry_record ptr) (map entry_of (distinct elements))
    (All-map (λ entry. IsStorable entry_order (entry_record ptr entry)) entry_of (distinct elements) (All-distinct Stored elements each))

array_storable : (kind : ColType) (ptr : RowPtr) (elements : List Elem) → IsPointer ptr → IsValueOf kind (Items elements)
    → All IsShort elements → AreStorable (map (entry_record ptr) (map entry_of (distinct elements)))
array_storable ty.Int4Array ptr elements pointer are short = elements_storable ptr ty.Int4 elements refl pointer are short
array_storable ty.Int8Array ptr elements pointer are short = elements_storable ptr ty.Int8 elements refl pointer are short
array_storable ty.TextArray ptr elements pointer are short = elements_storable ptr ty.Text elements refl pointer are short
array_storable ty.Bool ptr elements pointer are short = absurd are
array_storable ty.Int2 ptr elements pointer are short = absurd are
array_storable ty.Int4 ptr elements pointer are short = absurd are
array_storable ty.Int8 ptr elements pointer are short = absurd are
array_storable ty.Oid ptr elements pointer are short = absurd are
array_storable ty.Date ptr elements pointer are short = absurd are
array_storable ty.Timestamp ptr elements pointer are short = absurd are
array_storable ty.Timestamptz ptr elements pointer are short = absurd are
array_storable ty.Time ptr elements pointer are short = absurd are
array_storable ty.Uuid ptr elements pointer are short = absurd are
array_storable ty.Text ptr elements pointer are short = absurd are
array_storable ty.Varchar ptr elements pointer are short = absurd are
array_storable ty.Bytea ptr elements pointer are short = absurd are
array_storable ty.Float4 ptr elements pointer are short = absurd are
array_storable ty.Float8 ptr elements pointer are short = absurd are
array_storable ty.Numeric ptr elements pointer are short = absurd are
array_storable ty.Bpchar ptr elements pointer are short = absurd are
array_storable ty.Name ptr elements pointer are short = absurd are
array_storable ty.Interval ptr elements pointer are short = absurd are
array_storable ty.Json ptr elements pointer are short = absurd are
array_storable ty.Jsonb ptr elements pointer are short = absurd are

pub entries_storable : (kind : ColType) (value : KeyVal) (ptr : RowPtr) → IsValueOf kind value → HasShortElements value → IsPointer ptr
    → AreStorableEntries value ptr
entries_storable kind Nil ptr is short pointer =
    All-cons (IsStorable entry_order) _ [] (placeholder_storable ptr NullItem pointer) (All-nil (IsStorable entry_order))
entries_storable kind (Num number) ptr is short pointer = All-nil (IsStorable entry_order)
entries_storable kind (Raw bytes) ptr is short pointer = All-nil (IsStorable entry_order)
entries_storable kind (Items []) ptr is short pointer =
    All-cons (IsStorable entry_order) _ [] (placeholder_storable ptr EmptyItem pointer) (All-nil (IsStorable entry_order))
entries_storable kind (Items (element ∷ elements)) ptr is short pointer = array_storable kind ptr (element ∷ elements) pointer is short
