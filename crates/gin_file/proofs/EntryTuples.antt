-- The tuples of entries: their sizes, and how they are put together.
use Rattle.std.proofs.Common.{◌≡◌, ℕ, zero, suc, ◌+◌, ◌-◌, ◌%◌, ◌≤◌, Bool, true, false, List, [], ◌∷◌, ◌++◌, length, refl, sym, ap, subst, ◌∙◌, arith, length-append, inl, inr}
use Rattle.std.proofs.Math.Dec.{eqb-suc-zero}
use Rattle.std.specs.Prelude.{◌||◌, ◌⊎◌, ◌==◌, if◌then◌else◌, cond}
use Rattle.std.proofs.lemmas.List.{append_assoc, append-nil}
use Rattle.pg_bytes.specs.Numbers.{number_bytes, rounded_up}
use Rattle.pg_bytes.specs.Places.{zeros}
use Rattle.pg_bytes.specs.Pointers.{row_pointer_bytes}
use Rattle.pg_bytes.specs.declared.row_ptr.RowPtr.{RowPtr}
use Rattle.pg_bytes.proofs.Writes.{length-zeros}
use Rattle.opclass.specs.declared.types.ColType.{ColType}
use Rattle.opclass.specs.declared.types.Width.{Width}
use Rattle.opclass.specs.declared.types.Width.TheVariants.{Fixed, Variable}
use Rattle.opclass.specs.declared.value.Elem.TheVariants as elem
use Rattle.opclass.specs.declared.value.KeyVal.{KeyVal}
use Rattle.opclass.specs.declared.value.KeyVal.TheVariants.{Nil, Num, Raw, Items}
use Rattle.opclass.specs.Types.{facts_of}
use Rattle.tuple_data.specs.Data.{data_of}
use Rattle.tuple_data.specs.Datum.{datum_of, stored_at}
use Rattle.tuple_data.specs.Nulls.{has_null, is_null}
use Rattle.btree_item.specs.Tuple.{bitmap_of, bitmap_size, index_tuple, info_of, size_of}
use Rattle.btree_item.proofs.Joins.{HasData, length-HasData, tuple-joined}
use Rattle.btree_item.proofs.Sizes.{length-index_tuple}
use Rattle.gin_entry.specs.declared.entry.Entry.{Entry}
use Rattle.gin_entry.specs.EntrySize.{entry_size, key_data, key_end, key_kinds, list_place}
use Rattle.posting_tree.specs.Segments.{segment}
use Rattle.gin_file.specs.EntryTuple.{category_byte, key_part, leading_tuple, list_end, list_front, list_size, list_tuple, IsTuple}
use Rattle.gin_file.specs.Entry.{IsEntry}

-- ---- keys and placeholders

-- an entry has a key, or is told by its category
abbrev pub KeyOrNot : Entry → Type 0
KeyOrNot entry =
    ((entry.category ≡ 0) × (is_null entry.key ≡ false))
    ⊎ ((1 ≤ entry.category) × (entry.category ≤ 3) × (entry.key ≡ Nil))

as-said : (entry said : Entry) → entry ≡ said → KeyOrNot said → KeyOrNot entry
as-said entry said same is = subst KeyOrNot (sym same) is

pub key-or-not : (entry : Entry) → IsEntry entry → KeyOrNot entry
key-or-not entry (inl (elem.Null, same)) = as-said entry _ same (inr (omega arith, omega arith, refl))
key-or-not entry (inl (elem.Num number, same)) = as-said entry _ same (inl (refl, refl))
key-or-not entry (inl (elem.Raw bytes, same)) = as-said entry _ same (inl (refl, refl))
key-or-not entry (inr (inl same)) = as-said entry _ same (inr (omega arith, omega arith, refl))
key-or-not entry (inr (inr same)) = as-said entry _ same (inr (omega arith, omega arith, refl))

-- the kinds of an entry's column, and its values
abbrev pub kinds_of : ColType → List ColType
kinds_of kind = key_kinds (facts_of kind).form

abbrev pub values_of : Entry → List KeyVal
values_of entry = entry.key ∷ []

-- ---- sizes

-- a null has no data
no-datum : (width : Width) (alignment place : ℕ) → stored_at place (datum_of width alignment Nil) ≡ []
no-datum (Fixed width) alignment place = refl
no-datum Variable alignment place = refl

no-data : (kinds : List ColType) → data_of kinds (Nil ∷ []) ≡ []
no-data [] = refl
no-data (kind ∷ []) = ap (λ (l : List ℕ). l ++ []) (no-datum (facts_of kind).width (facts_of kind).alignment 0)
no-data (kind ∷ after ∷ kinds) = ap (λ (l : List ℕ). l ++ []) (no-datum (facts_of kind).width (facts_of kind).alignment 0)

-- where a key's end is, and a placeholder's
pub key-ends : (kind : ColType) (entry : Entry) → entry.category ≡ 0 → key_end kind entry ≡ rounded_up 8 (8 + length (key_data kind entry))
key-ends kind entry is = ap (λ (n : ℕ). if n == 0 then rounded_up 8 (8 + length (key_data kind entry)) else 17) is

pub placeholder-ends : (kind : ColType) (entry : Entry) → 1 ≤ entry.category → key_end kind entry ≡ 17
placeholder-ends kind entry some = by (entry.category) some
  where
    by : (n : ℕ) → 1 ≤ n → (if n == 0 then rounded_up 8 (8 + length (key_data kind entry)) else 17) ≡ 17
    by zero some = absurd (omega arith)
    by (suc n) some = ap (λ (b : Bool). cond b (rounded_up 8 (8 + length (key_data kind entry))) 17) (eqb-suc-zero n)

pub key-byte : (entry : Entry) → entry.category ≡ 0 → category_byte entry ≡ []
key-byte entry is = ap (λ (n : ℕ). if n == 0 then [] else entry.category ∷ []) is

pub placeholder-byte : (entry : Entry) → 1 ≤ entry.category → category_byte entry ≡ entry.category ∷ []
placeholder-byte entry some = by entry.category some
  where
    by : (n : ℕ) → 1 ≤ n → (if n == 0 then [] else entry.category ∷ []) ≡ entry.category ∷ []
    by zero some = absurd (omega arith)
    by (suc n) some = ap (λ (b : Bool). cond b [] (entry.category ∷ [])) (eqb-suc-zero n)

-- the size of the index tuple, and of what stands behind it
pub record KeySizes (kind : ColType) (entry : Entry) : Type 0 where
  pub tuple : size_of (kinds_of kind) (values_of entry) + length (category_byte entry) ≡ key_end kind entry
  pub place : list_place kind entry ≡ key_end kind entry + length (category_byte entry)
  pub few : length (data_of (kinds_of kind) (values_of entry)) ≤ entry_size kind entry

no-null : (key : KeyVal) → is_null key ≡ false → bitmap_size (key ∷ []) ≡ 0
no-null key is = let P : Bool → ℕ = λ b. cond (b || false) 8 0 in ap P is

pub key_sizes : (kind : ColType) (entry : Entry) → IsEntry entry → KeySizes kind entry
unfolding size_of
key_sizes kind entry is =
    elim (key-or-not entry is) [
      | inl key ↦
          let ends = key-ends kind entry key.0 in
          let byte = ap length (key-byte entry key.0) in
          let none = no-null entry.key key.1 in
          record { tuple = omega arith; place = omega arith; few = omega arith }
      | inr placeholder ↦
          let ends = placeholder-ends kind entry placeholder.0 in
          let byte = ap length (placeholder-byte entry placeholder.0) in
          let data_none : length (data_of (kinds_of kind) (values_of entry)) ≡ 0 =
          ap (λ (k : KeyVal). length (data_of (kinds_of kind) (k ∷ []))) placeholder.2 ∙ ap length (no-data (kinds_of kind)) in
          let null : bitmap_size (values_of entry) ≡ 8 = ap (λ (k : KeyVal). bitmap_size (k ∷ [])) placeholder.2 in
          record { tuple = omega arith; place = omega arith; few = omega arith }
    ]

pub length-key_part : (kind : ColType) (entry : Entry) (front : RowPtr) (size : ℕ) → IsEntry entry → length (key_part kind entry front size) ≡ list_place kind entry
unfolding key_part
length-key_part kind entry front size is =
    let sizes = key_sizes kind entry is in
    let tuple = sizes.tuple in
    let place = sizes.place in
    let head : List ℕ = index_tuple front (info_of size (kinds_of kind) (values_of entry)) (kinds_of kind) (values_of entry) in
    let a = length-append head (category_byte entry ++ zeros (list_place kind entry - key_end kind entry)) in
    let b = length-append (category_byte entry) (zeros (list_place kind entry - key_end kind entry)) in
    let c = length-index_tuple front (info_of size (kinds_of kind) (values_of entry)) (kinds_of kind) (values_of entry) in
    let z = length-zeros (list_place kind entry - key_end kind entry) in
    omega arith

-- a list begins at 16 at least
pub place-least : (kind : ColType) (entry : Entry) → IsEntry entry → 8 ≤ list_place kind entry
place-least kind entry is =
    elim (key-or-not entry is) [
      | inl key ↦ let ends = key-ends kind entry key.0 in omega arith
      | inr placeholder ↦ let ends = placeholder-ends kind entry placeholder.0 in omega arith
    ]

pub length-leading_tuple : (kind : ColType) (entry : Entry) (front : RowPtr) → IsEntry entry → length (leading_tuple kind entry front) ≡ entry_size kind entry
unfolding leading_tuple
length-leading_tuple kind entry front is =
    let head = length-key_part kind entry front (entry_size kind entry) is in
    let z = length-zeros (entry_size kind entry - list_place kind entry) in
    let a = length-append (key_part kind entry front (entry_size kind entry)) (zeros (entry_size kind entry - list_place kind entry)) in
    omega arith

pub leading-is_tuple : (kind : ColType) (entry : Entry) (front : RowPtr) → IsEntry entry → entry_size kind entry ≤ 2712 → IsTuple (leading_tuple kind entry front)
leading-is_tuple kind entry front is small =
    let long = length-leading_tuple kind entry front is in
    let least = place-least kind entry is in
    record {
      whole = ap (λ (n : ℕ). n % 8) long ∙ omega arith;
      least = omega arith;
      most = omega arith;
    }

pub length-list_tuple : (kind : ColType) (entry : Entry) (pointers : List RowPtr) → IsEntry entry → length (list_tuple kind entry pointers) ≡ list_size kind entry pointers
unfolding list_tuple
length-list_tuple kind entry pointers is =
    let part : List ℕ = key_part kind entry (list_front kind entry pointers) (list_size kind entry pointers) in
    let pad : List ℕ = zeros (list_size kind entry pointers - list_end kind entry pointers) in
    let head = length-key_part kind entry (list_front kind entry pointers) (list_size kind entry pointers) is in
    let z = length-zeros (list_size kind entry pointers - list_end kind entry pointers) in
    let a = length-append part (segment pointers ++ pad) in
    let b = length-append (segment pointers) pad in
    omega arith

pub list-is_tuple : (kind : ColType) (entry : Entry) (pointers : List RowPtr) → IsEntry entry → list_size kind entry pointers ≤ 2712 → IsTuple (list_tuple kind entry pointers)
list-is_tuple kind entry pointers is small =
    let long = length-list_tuple kind entry pointers is in
    let least = place-least kind entry is in
    record {
      whole = ap (λ (n : ℕ). n % 8) long ∙ omega arith;
      least = omega arith;
      most = omega arith;
    }

-- ---- put together

pub key-puts : (entry : Entry) (out : List ℕ) → entry.category ≡ 0
    → out ≡ out ++ (category_byte entry ++ zeros (length (category_byte entry)))
unfolding zeros
key-puts entry out is =
    sym (ap (λ (b : List ℕ). out ++ (b ++ zeros (length b))) (key-byte entry is) ∙ append-nil out)

pub placeholder-puts : (entry : Entry) (out new : List ℕ) → (entry.category ≡ 0 → ⊥) → new ≡ out ++ entry.category ∷ 0 ∷ []
    → new ≡ out ++ (category_byte entry ++ zeros (length (category_byte entry)))
unfolding zeros
placeholder-puts entry out new other is =
    is ∙ sym (ap (λ (b : List ℕ). out ++ (b ++ zeros (length b))) (placeholder-byte entry (some entry.category other)))
  where
    some : (n : ℕ) → (n ≡ 0 → ⊥) → 1 ≤ n
    some zero other = absurd (other refl)
    some (suc n) other = omega arith

-- the bitmap of a key that is null
pub null-bitmap : (key : KeyVal) → has_null (key ∷ []) ≡ true → bitmap_of (key ∷ []) ≡ 0 ∷ 0 ∷ 0 ∷ 0 ∷ 0 ∷ 0 ∷ 0 ∷ 0 ∷ []
unfolding number_bytes zeros
null-bitmap Nil is = refl
null-bitmap (Num number) is = absurd cc
null-bitmap (Raw bytes) is = absurd cc
null-bitmap (Items elements) is = absurd cc

-- zeros up to the size make it an index tuple
pub tuple-filled : (old headed mapped whole new : List ℕ) (front : RowPtr) (size marks end : ℕ) (kinds : List ColType) (values : List KeyVal)
    → marks ≡ info_of 0 kinds values → headed ≡ old ++ (row_pointer_bytes front ++ number_bytes 2 (size + marks)) → mapped ≡ headed ++ bitmap_of values
    → whole ≡ mapped ++ data_of kinds values → end ≡ length old + rounded_up 8 (length whole - length old)
    → new ≡ whole ++ zeros (end - length whole)
    → new ≡ old ++ index_tuple front (info_of size kinds values) kinds values
unfolding size_of
tuple-filled old headed mapped whole new front size marks end kinds values marked head bitmap data_put ends filled =
    let info : size + marks ≡ info_of size kinds values = omega arith in
    let put : HasData old headed mapped whole front (info_of size kinds values) kinds values = record {
      head = head ∙ ap (λ (n : ℕ). old ++ (row_pointer_bytes front ++ number_bytes 2 n)) info;
      bitmap = bitmap;
      data_put = data_put;
    } in
    let behind = length-HasData old headed mapped whole front (info_of size kinds values) kinds values put in
    filled ∙ tuple-joined old headed mapped whole front (info_of size kinds values) end kinds values put (omega arith)

pub part-joined : (kind : ColType) (entry : Entry) (front : RowPtr) (size : ℕ) (old tuple new : List ℕ) → IsEntry entry
    → tuple ≡ old ++ index_tuple front (info_of size (kinds_of kind) (values_of entry)) (kinds_of kind) (values_of entry)
    → new ≡ tuple ++ (category_byte entry ++ zeros (length (category_byte entry)))
    → new ≡ old ++ key_part kind entry front size
unfolding key_part
part-joined kind entry front size old tuple new is put behind =
    let place = (key_sizes kind entry is).place in
    let pad : length (category_byte entry) ≡ list_place kind entry - key_end kind entry = omega arith in
    behind
    ∙ ap (λ (t : List ℕ). t ++ (category_byte entry ++ zeros (length (category_byte entry)))) put
    ∙ append_assoc old (index_tuple front (info_of size (kinds_of kind) (values_of entry)) (kinds_of kind) (values_of entry)) _
    ∙ ap (λ (n : ℕ). old ++ (index_tuple front (info_of size (kinds_of kind) (values_of entry)) (kinds_of kind) (values_of entry) ++ (category_byte entry ++ zeros n))) pad

pub length-part : (kind : ColType) (entry : Entry) (front : RowPtr) (size : ℕ) (old new : List ℕ) → IsEntry entry
    → new ≡ old ++ key_part kind entry front size → length new ≡ length old + list_place kind entry
length-part kind entry front size old new is put =
    let part = length-key_part kind entry front size is in
    ap length put ∙ length-append old (key_part kind entry front size) ∙ omega arith

pub leading-joined : (kind : ColType) (entry : Entry) (front : RowPtr) (size end : ℕ) (old part new : List ℕ) → IsEntry entry
    → size ≡ entry_size kind entry → end ≡ length old + entry_size kind entry
    → part ≡ old ++ key_part kind entry front size → new ≡ part ++ zeros (end - length part)
    → new ≡ old ++ leading_tuple kind entry front
unfolding leading_tuple
leading-joined kind entry front size end old part new is same ends put filled =
    let long = length-part kind entry front size old part is put in
    let left : end - length part ≡ entry_size kind entry - list_place kind entry = omega arith in
    filled
    ∙ ap (λ (n : ℕ). part ++ zeros n) left
    ∙ ap (λ (p : List ℕ). p ++ zeros (entry_size kind entry - list_place kind entry)) (put ∙ ap (λ (n : ℕ). old ++ key_part kind entry front n) same)
    ∙ append_assoc old (key_part kind entry front (entry_size kind entry)) _

pub list-joined : (kind : ColType) (entry : Entry) (pointers : List RowPtr) (place count size end : ℕ) (old part listed new list : List ℕ) → IsEntry entry
    → place ≡ list_place kind entry → list ≡ segment pointers → count ≡ length pointers
    → size ≡ rounded_up 8 (place + length list) → end ≡ length old + size
    → part ≡ old ++ key_part kind entry (record { block = place + 2147483648; offset = count }) size
    → listed ≡ part ++ list → new ≡ listed ++ zeros (end - length listed)
    → new ≡ old ++ list_tuple kind entry pointers
unfolding list_tuple
list-joined kind entry pointers place count size end old part listed new list is at same many sized ends put behind filled =
    let long = length-part kind entry _ size old part is put in
    let list_long : length list ≡ length (segment pointers) = ap length same in
    let total : size ≡ list_size kind entry pointers = sized ∙ ap (rounded_up 8) (let e : place + length list ≡ list_end kind entry pointers = omega arith in e) in
    let more = ap length behind ∙ length-append part list in
    let left : end - length listed ≡ list_size kind entry pointers - list_end kind entry pointers = omega arith in
    let front : key_part kind entry (record { block = place + 2147483648; offset = count }) size ≡ key_part kind entry (list_front kind entry pointers) (list_size kind entry pointers) =
    ap (λ (n : ℕ). key_part kind entry (record { block = n + 2147483648; offset = count }) size) at
    ∙ ap (λ (n : ℕ). key_part kind entry (record { block = list_place kind entry + 2147483648; offset = n }) size) many
    ∙ ap (key_part kind entry (list_front kind entry pointers)) total in
    filled
    ∙ ap (λ (n : ℕ). listed ++ zeros n) left
    ∙ ap (λ (l : List ℕ). l ++ zeros (list_size kind entry pointers - list_end kind entry pointers)) (behind ∙ ap (λ (p : List ℕ). p ++ list) put)
    ∙ ap (λ (k : List ℕ). ((old ++ k) ++ list) ++ zeros (list_size kind entry pointers - list_end kind entry pointers)) front
    ∙ ap (λ (l : List ℕ). ((old ++ key_part kind entry (list_front kind entry pointers) (list_size kind entry pointers)) ++ l) ++ zeros (list_size kind entry pointers - list_end kind entry pointers)) same
    ∙ regroup old (key_part kind entry (list_front kind entry pointers) (list_size kind entry pointers)) (segment pointers) _
  where
    regroup : (a b c d : List ℕ) → ((a ++ b) ++ c) ++ d ≡ a ++ (b ++ (c ++ d))
    regroup a b c d = simp append_assoc
