-- The entry at the front of a tuple.
use Rattle.std.proofs.Common.{◌≡◌, ◌+◌, ◌-◌, ◌*◌, ◌/◌, ◌%◌, ◌^◌, ◌<◌, ◌≤◌, ℕ, zero, suc, slice_index_or, List, [], ◌∷◌, ◌++◌, length, drop, Bool, true, false, sym, ap, subst, ◌∙◌, arith, length-append, Some, None, IfOk, MatchOption, inl, inr, refl}
use Rattle.std.specs.Prelude.{◌||◌, if◌then◌else◌, cond, Option, Result, Ok, Err}
use Rattle.std.proofs.lemmas.List.{append_assoc, drop_at}
use Rattle.pg_bytes.specs.Numbers.{number_at, number_bytes}
use Rattle.pg_bytes.specs.Places.{zeros}
use Rattle.pg_bytes.specs.Pointers.{row_pointer_at, row_pointer_bytes}
use Rattle.pg_bytes.specs.declared.row_ptr.RowPtr.{RowPtr}
use Rattle.pg_bytes.proofs.ItemPage.{number_at-first, number_at-past}
use Rattle.pg_bytes.proofs.Writes.{length-number_bytes}
use Rattle.opclass.specs.declared.types.ColType.{ColType}
use Rattle.opclass.specs.declared.value.KeyVal.{KeyVal}
use Rattle.opclass.specs.declared.value.KeyVal.TheVariants.{Items, Nil, Num, Raw}
use Rattle.opclass.specs.declared.types.ColType.TheVariants as ty
use Rattle.opclass.specs.declared.types.Form.{Form}
use Rattle.opclass.specs.declared.types.Form.TheVariants.{Truth, Signed, Unsigned, Bytes, Array}
use Rattle.opclass.specs.Types.{facts_of}
use Rattle.opclass.specs.Values.{IsArrayOf, IsValueOf}
use Rattle.opclass.specs.declared.value.Elem.{Elem}
use Rattle.tuple_data.specs.Reading.{BeginsWithData, IsStored}
use Rattle.tuple_data.proofs.OneReading.{reading_once}
use Rattle.std.proofs.lemmas.List.Elements.{All-cons, All-nil}
use Rattle.tuple_data.specs.Data.{data_of}
use Rattle.tuple_data.specs.Nulls.{has_null, has_variable, is_null, null_bits}
use Rattle.btree_item.specs.Tuple.{bitmap_of, data_end, index_tuple, info_of, null_mark, size_of, variable_mark}
use Rattle.btree_item.proofs.Sizes.{length-index_tuple, length-row_pointer}
use Rattle.gin_entry.specs.declared.entry.Entry.{Entry}
use Rattle.gin_entry.specs.declared.entry.Category.{Category}
use Rattle.gin_entry.specs.declared.entry.Category.TheVariants.{EmptyItem, NullItem, NullKey}
use Rattle.gin_entry.specs.Entries.{number_of_category}
use Rattle.gin_entry.specs.EntrySize.{key_end, key_kinds, list_place}
use Rattle.gin_file.specs.Entry.{IsEntry, IsEntryOf, IsKeyOf}
use Rattle.opclass.specs.declared.value.Elem.TheVariants as elem
use Rattle.gin_file.specs.EntryTuple.{category_byte, key_part}
use Rattle.gin_file.specs.Pass.{BeginsWithEntry, BeginsWithKey}
use Rattle.gin_file.proofs.EntryTuples.{key-or-not, key_sizes, kinds_of, placeholder-byte, placeholder-ends, values_of}

-- ---- the parts of a tuple

-- what stands behind the row pointer's place and t_info
abbrev behind_info : ColType → Entry → List ℕ → List ℕ
behind_info kind entry rest =
    bitmap_of (values_of entry) ++ (data_of (kinds_of kind) (values_of entry)
    ++ (zeros (size_of (kinds_of kind) (values_of entry) - data_end (kinds_of kind) (values_of entry))
    ++ ((category_byte entry ++ zeros (list_place kind entry - key_end kind entry)) ++ rest)))

abbrev info_in : (kind : ColType) (bytes : List ℕ) (entry : Entry) → BeginsWithEntry kind bytes entry → ℕ
info_in kind bytes entry b = info_of b.size (kinds_of kind) (values_of entry)

parts : (kind : ColType) (bytes : List ℕ) (entry : Entry) (b : BeginsWithEntry kind bytes entry)
    → bytes ≡ row_pointer_bytes b.front ++ (number_bytes 2 (info_in kind bytes entry b) ++ behind_info kind entry b.rest)
unfolding key_part index_tuple
parts kind bytes entry b = b.bytes_are ∙ simp append_assoc

mark-most : (b : Bool) (mark : ℕ) → (if b then mark else 0) ≤ mark
mark-most true mark = omega arith
mark-most false mark = omega arith

info-read : (kind : ColType) (bytes : List ℕ) (entry : Entry) (b : BeginsWithEntry kind bytes entry) → number_at 2 bytes 6 ≡ info_in kind bytes entry b
info-read kind bytes entry b =
    let info : ℕ = info_in kind bytes entry b in
    let variable : variable_mark (kinds_of kind) (values_of entry) ≤ 0x4000 = mark-most (has_variable (kinds_of kind) (values_of entry)) 0x4000 in
    let null : null_mark (values_of entry) ≤ 0x8000 = mark-most (has_null (values_of entry)) 0x8000 in
    let small = b.small in
    let fits : info < 2 ^ 16 = omega arith in
    ap (λ (l : List ℕ). number_at 2 l 6) (parts kind bytes entry b)
    ∙ number_at-past 2 (row_pointer_bytes b.front) (number_bytes 2 info ++ behind_info kind entry b.rest) 6 (length-row_pointer b.front)
    ∙ number_at-first 2 info (behind_info kind entry b.rest) fits

-- where the bitmap begins
head-cut : (kind : ColType) (bytes : List ℕ) (entry : Entry) (b : BeginsWithEntry kind bytes entry) → drop 8 bytes ≡ behind_info kind entry b.rest
head-cut kind bytes entry b =
    let head : List ℕ = row_pointer_bytes b.front ++ number_bytes 2 (info_in kind bytes entry b) in
    let eight : length head ≡ 8 =
    length-append (row_pointer_bytes b.front) (number_bytes 2 (info_in kind bytes entry b))
    ∙ (let p = length-row_pointer b.front in let n = length-number_bytes 2 (info_in kind bytes entry b) in omega arith) in
    ap (drop 8) (parts kind bytes entry b ∙ sym (append_assoc (row_pointer_bytes b.front) (number_bytes 2 (info_in kind bytes entry b)) (behind_info kind entry b.rest)))
    ∙ drop_at head (behind_info kind entry b.rest) 8 eight

pub long-front : (kind : ColType) (bytes : List ℕ) (entry : Entry) → BeginsWithEntry kind bytes entry → 8 ≤ length bytes
long-front kind bytes entry b =
    let whole = ap length (parts kind bytes entry b) in
    let a = length-append (row_pointer_bytes b.front) (number_bytes 2 (info_in kind bytes entry b) ++ behind_info kind entry b.rest) in
    let c = length-append (number_bytes 2 (info_in kind bytes entry b)) (behind_info kind entry b.rest) in
    let p = length-row_pointer b.front in
    let n = length-number_bytes 2 (info_in kind bytes entry b) in
    omega arith

-- ---- a key

no-mark : (key : KeyVal) → is_null key ≡ false → null_mark (key ∷ []) ≡ 0
no-mark key is = let P : Bool → ℕ = λ b. cond (b || false) 0x8000 0 in ap P is

no-bitmap : (key : KeyVal) → is_null key ≡ false → bitmap_of (key ∷ []) ≡ []
no-bitmap key is =
    let P : Bool → List ℕ = λ b. cond (b || false) (number_bytes 4 (null_bits (key ∷ [])) ++ zeros 4) [] in ap P is

null-mark : (key : KeyVal) → key ≡ Nil → null_mark (key ∷ []) ≡ 0x8000
null-mark key is = ap (λ (k : KeyVal). null_mark (k ∷ [])) is

pub key-front : (kind : ColType) (bytes : List ℕ) (entry : Entry) → BeginsWithEntry kind bytes entry → number_at 2 bytes 6 < 0x8000
    → BeginsWithKey kind (drop 8 bytes) entry
key-front kind bytes entry b low =
    elim (key-or-not entry b.entry_is.entry_is) [
      | inl key ↦
          let more : List ℕ = zeros (size_of (kinds_of kind) (values_of entry) - data_end (kinds_of kind) (values_of entry))
          ++ ((category_byte entry ++ zeros (list_place kind entry - key_end kind entry)) ++ b.rest) in
          let cut : drop 8 bytes ≡ data_of (kinds_of kind) (values_of entry) ++ more =
          head-cut kind bytes entry b ∙ ap (λ (m : List ℕ). m ++ (data_of (kinds_of kind) (values_of entry) ++ more)) (no-bitmap entry.key key.1) in
          record {
            entry_is = b.entry_is;
            of_key = key.0;
            rest = more;
            bytes_are = cut;
          }
      | inr placeholder ↦
          let info = info-read kind bytes entry b in
          let null = null-mark entry.key placeholder.2 in
          absurd (omega arith)
    ]

-- ---- a placeholder

-- the category behind the tuple of a null
pub record HasCategory (bytes : List ℕ) (entry : Entry) : Type 0 where
  pub some : 1 ≤ entry.category
  pub rest : List ℕ
  pub behind : drop 16 bytes ≡ entry.category ∷ rest

pub placeholder-front : (kind : ColType) (bytes : List ℕ) (entry : Entry) → BeginsWithEntry kind bytes entry → 0x8000 ≤ number_at 2 bytes 6
    → HasCategory bytes entry
unfolding key_part
placeholder-front kind bytes entry b high =
    elim (key-or-not entry b.entry_is.entry_is) [
      | inl key ↦
          let info = info-read kind bytes entry b in
          let variable : variable_mark (kinds_of kind) (values_of entry) ≤ 0x4000 = mark-most (has_variable (kinds_of kind) (values_of entry)) 0x4000 in
          let none = no-mark entry.key key.1 in
          let small = b.small in
          absurd (omega arith)
      | inr placeholder ↦
          let tuple : List ℕ = index_tuple b.front (info_in kind bytes entry b) (kinds_of kind) (values_of entry) in
          let sizes = (key_sizes kind entry b.entry_is.entry_is).tuple in
          let ends = placeholder-ends kind entry placeholder.0 in
          let byte = placeholder-byte entry placeholder.0 in
          let one = ap length byte in
          let long : length tuple ≡ 16 = length-index_tuple b.front (info_in kind bytes entry b) (kinds_of kind) (values_of entry) ∙ omega arith in
          let pad : List ℕ = zeros (list_place kind entry - key_end kind entry) in
          record {
            some = placeholder.0;
            rest = pad ++ b.rest;
            behind = ap (drop 16) (b.bytes_are ∙ append_assoc tuple (category_byte entry ++ pad) b.rest)
                ∙ drop_at tuple ((category_byte entry ++ pad) ++ b.rest) 16 long
                ∙ ap (λ (c : List ℕ). (c ++ pad) ++ b.rest) byte;
          }
    ]

-- ---- the row pointer's place

-- a row pointer is read from its bytes
pub pointer-read : (p : RowPtr) (rest : List ℕ) → p.block < 2 ^ 32 → p.offset < 2 ^ 16 → row_pointer_at (row_pointer_bytes p ++ rest) 0 ≡ p
unfolding row_pointer_bytes
pointer-read p rest block offset =
    let two = length-number_bytes 2 (p.block / 2 ^ 16) in
    let two' = length-number_bytes 2 (p.block % 2 ^ 16) in
    let high : List ℕ = number_bytes 2 (p.block / 2 ^ 16) in
    let low : List ℕ = number_bytes 2 (p.block % 2 ^ 16) in
    let last : List ℕ = number_bytes 2 p.offset in
    let whole : (high ++ (low ++ last)) ++ rest ≡ high ++ (low ++ (last ++ rest)) = simp append_assoc in
    let whole' : (high ++ (low ++ last)) ++ rest ≡ (high ++ low) ++ (last ++ rest) = simp append_assoc in
    let four = length-append high low in
    let a : number_at 2 ((high ++ (low ++ last)) ++ rest) 0 ≡ p.block / 2 ^ 16 =
    ap (λ (l : List ℕ). number_at 2 l 0) whole ∙ number_at-first 2 (p.block / 2 ^ 16) (low ++ (last ++ rest)) (omega arith) in
    let b : number_at 2 ((high ++ (low ++ last)) ++ rest) 2 ≡ p.block % 2 ^ 16 =
    ap (λ (l : List ℕ). number_at 2 l 2) whole ∙ number_at-past 2 high (low ++ (last ++ rest)) 2 two ∙ number_at-first 2 (p.block % 2 ^ 16) (last ++ rest) (omega arith) in
    let c : number_at 2 ((high ++ (low ++ last)) ++ rest) 4 ≡ p.offset =
    ap (λ (l : List ℕ). number_at 2 l 4) whole' ∙ number_at-past 2 (high ++ low) (last ++ rest) 4 (omega arith) ∙ number_at-first 2 p.offset rest (omega arith) in
    let block_is : number_at 2 ((high ++ (low ++ last)) ++ rest) 0 * 2 ^ 16 + number_at 2 ((high ++ (low ++ last)) ++ rest) 2 ≡ p.block = omega arith in
    λ i. record { block = block_is i; offset = c i }

pub front-read : (kind : ColType) (bytes : List ℕ) (entry : Entry) (b : BeginsWithEntry kind bytes entry) → b.front.block < 2 ^ 32 → b.front.offset < 2 ^ 16
    → row_pointer_at bytes 0 ≡ b.front
front-read kind bytes entry b block offset =
    ap (λ (l : List ℕ). row_pointer_at l 0) (parts kind bytes entry b) ∙ pointer-read b.front _ block offset

-- ---- what is read

-- the entry of a key is the one with which the tuple begins
pub key-only : {E : Type 0} (kind : ColType) (bytes slice : List ℕ) (result : Result (Option Entry) E) → slice ≡ drop 8 bytes
    → IfOk result (λ answer. (entry : Entry) → BeginsWithKey kind slice entry → answer ≡ Some entry)
    → number_at 2 bytes 6 < 0x8000
    → IfOk result (λ answer. (entry : Entry) → BeginsWithEntry kind bytes entry → answer ≡ Some entry)
key-only kind bytes slice (Ok answer) is only low =
    λ entry b. only entry (subst (λ (l : List ℕ). BeginsWithKey kind l entry) (sym is) (key-front kind bytes entry b low))
key-only kind bytes slice (Err e) is only low = tt

-- the byte at a place is the first behind those before it
pub byte-at : (bytes rest : List ℕ) (place byte other : ℕ) → drop place bytes ≡ byte ∷ rest → slice_index_or bytes place other ≡ byte
byte-at [] rest place byte other is = absurd (none place is)
  where
    none : (place : ℕ) → drop place [] ≡ byte ∷ rest → ⊥
    none zero is = cc
    none (suc place) is = cc
byte-at (first ∷ bytes) rest zero byte other is = cc
byte-at (first ∷ bytes) rest (suc place) byte other is = byte-at bytes rest place byte other is

-- a placeholder's number is that of a category
pub known-category : (entry : Entry) → IsEntry entry → 1 ≤ entry.category → (category : Category) × (number_of_category category ≡ entry.category)
known-category entry (inl (elem.Null, same)) some = (NullKey, sym (ap (λ (e : Entry). e.category) same))
known-category entry (inl (elem.Num number, same)) some = let zero = ap (λ (e : Entry). e.category) same in absurd (omega arith)
known-category entry (inl (elem.Raw bytes, same)) some = let zero = ap (λ (e : Entry). e.category) same in absurd (omega arith)
known-category entry (inr (inl same)) some = (EmptyItem, sym (ap (λ (e : Entry). e.category) same))
known-category entry (inr (inr same)) some = (NullItem, sym (ap (λ (e : Entry). e.category) same))

-- ---- a key that was read

one : (a b : ColType) → Array a ≡ Array b → b ≡ a
one a b same = cc

stored-as : (kind element : ColType) → element ≡ kind → IsStored (facts_of kind).form → IsStored (facts_of element).form
stored-as kind element same stored = subst (λ (k : ColType). IsStored (facts_of k).form) (sym same) stored

-- elements of arrays are no arrays
pub element-stored : (kind element : ColType) → (facts_of kind).form ≡ Array element → IsStored (facts_of element).form
element-stored ty.Bool element is = absurd cc
element-stored ty.Int2 element is = absurd cc
element-stored ty.Int4 element is = absurd cc
element-stored ty.Int8 element is = absurd cc
element-stored ty.Oid element is = absurd cc
element-stored ty.Date element is = absurd cc
element-stored ty.Timestamp element is = absurd cc
element-stored ty.Timestamptz element is = absurd cc
element-stored ty.Time element is = absurd cc
element-stored ty.Uuid element is = absurd cc
element-stored ty.Text element is = absurd cc
element-stored ty.Varchar element is = absurd cc
element-stored ty.Bytea element is = absurd cc
element-stored ty.Float4 element is = absurd cc
element-stored ty.Float8 element is = absurd cc
element-stored ty.Numeric element is = absurd cc
element-stored ty.Bpchar element is = absurd cc
element-stored ty.Name element is = absurd cc
element-stored ty.Interval element is = absurd cc
element-stored ty.Json element is = absurd cc
element-stored ty.Jsonb element is = absurd cc
element-stored ty.Int4Array element is = stored-as ty.Int4 element (one _ _ is) tt
element-stored ty.Int8Array element is = stored-as ty.Int8 element (one _ _ is) tt
element-stored ty.TextArray element is = stored-as ty.Text element (one _ _ is) tt

no-array : (form : Form) (elements : List Elem) → IsStored form → IsArrayOf form elements → ⊥
no-array Truth elements stored of = of
no-array Signed elements stored of = of
no-array Unsigned elements stored of = of
no-array Bytes elements stored of = of
no-array (Array element) elements stored of = stored

-- a value that isn't null is an entry's key
is-entry : (element : ColType) (value : KeyVal) → IsStored (facts_of element).form → IsValueOf element value → null_bits (value ∷ []) ≡ 1
    → IsEntry (record { category = 0; key = value })
is-entry element Nil stored of there = absurd (omega arith)
is-entry element (Num number) stored of there = inl (elem.Num number, refl)
is-entry element (Raw bytes) stored of there = inl (elem.Raw bytes, refl)
is-entry element (Items elements) stored of there = absurd (no-array (facts_of element).form elements stored of)

pub typed-key : (kind element : ColType) (bytes : List ℕ) (value : KeyVal) → (facts_of kind).form ≡ Array element
    → BeginsWithData (element ∷ []) 1 bytes (value ∷ []) → IsEntryOf kind (record { category = 0; key = value })
typed-key kind element bytes value form b = record {
  entry_is = is-entry element value (element-stored kind element form) b.typed.0 b.bits;
  key = subst (λ (f : Form). IsKeyOf f value) (sym form) b.typed.0;
}

-- the data of an entry's key are those of a value
one-bit : (key : KeyVal) → is_null key ≡ false → null_bits (key ∷ []) ≡ 1
one-bit key there = let P : Bool → ℕ = λ b. cond b 0 1 + 2 * 0 in ap P there

pub key-begins : (kind element : ColType) (bytes : List ℕ) (entry : Entry) → (facts_of kind).form ≡ Array element → BeginsWithKey kind bytes entry
    → BeginsWithData (element ∷ []) 1 bytes (entry.key ∷ [])
key-begins kind element bytes entry form b = record {
  typed = (subst (λ (f : Form). IsKeyOf f entry.key) form b.entry_is.key, tt);
  bits = elim (key-or-not entry b.entry_is.entry_is) [
    | inl key ↦ one-bit entry.key key.1
    | inr placeholder ↦ let of_key = b.of_key in let some = placeholder.0 in absurd (omega arith)
  ];
  behind = b.rest;
  «data» = b.bytes_are ∙ ap (λ (f : Form). data_of (key_kinds f) (entry.key ∷ []) ++ b.rest) form;
}

some-one : (a b : KeyVal) → Some a ≡ Some b → a ≡ b
some-one a b e = cc

-- so it is the entry of the key that was read
pub key-only-read : (kind element : ColType) (bytes : List ℕ) (key : KeyVal) (answer : Option KeyVal) → (facts_of kind).form ≡ Array element → answer ≡ Some key
    → ((value : KeyVal) → BeginsWithData (element ∷ []) 1 bytes (value ∷ []) → answer ≡ Some value)
    → (entry : Entry) → BeginsWithKey kind bytes entry → Some (record { category = 0; key = key }) ≡ Some entry
key-only-read kind element bytes key answer form is only entry b =
    let same : key ≡ entry.key = some-one key entry.key (sym is ∙ only entry.key (key-begins kind element bytes entry form b)) in
    let category = b.of_key in
    ap (λ (e : Entry). Some e) (λ i. record { category = sym category i; key = same i })

pub no-key-read : (kind element : ColType) (bytes : List ℕ) (answer : Option KeyVal) → (facts_of kind).form ≡ Array element → answer ≡ None
    → ((value : KeyVal) → BeginsWithData (element ∷ []) 1 bytes (value ∷ []) → answer ≡ Some value)
    → (entry : Entry) → BeginsWithKey kind bytes entry → ⊥
no-key-read kind element bytes answer form none only entry b =
    let some = only entry.key (key-begins kind element bytes entry form b) in cc

-- ---- the one value that is read

-- a list that is the one with which bytes begin has the one value
pub value-only : (kind : ColType) (bytes : List ℕ) (values rest : List KeyVal) (popped : Option KeyVal) → length bytes < 2 ^ 30
    → IsStored (facts_of kind).form → BeginsWithData (kind ∷ []) 1 bytes values
    → MatchOption popped ((values ≡ []) × (rest ≡ [])) (λ last. values ≡ rest ++ last ∷ [])
    → (value : KeyVal) → BeginsWithData (kind ∷ []) 1 bytes (value ∷ []) → popped ≡ Some value
value-only kind bytes values rest popped few stored found got value begins =
    by popped got
  where
    same : values ≡ value ∷ []
    same = reading_once (kind ∷ []) 1 bytes values (value ∷ []) (All-cons (λ k. IsStored (facts_of k).form) kind [] stored (All-nil (λ (k : ColType). IsStored (facts_of k).form))) few found begins

    last-one : (rest : List KeyVal) (last : KeyVal) → rest ++ last ∷ [] ≡ value ∷ [] → Some last ≡ Some value
    last-one [] last e = cc
    last-one (x ∷ []) last e = absurd cc
    last-one (x ∷ y ∷ xs) last e = absurd cc

    by : (popped : Option KeyVal) → MatchOption popped ((values ≡ []) × (rest ≡ [])) (λ last. values ≡ rest ++ last ∷ []) → popped ≡ Some value
    by None got = let none = got.0 in absurd cc
    by (Some last) got = last-one rest last (sym got ∙ same)
