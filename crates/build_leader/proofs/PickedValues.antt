-- The values of an index's columns, out of those of the needed ones.
use Rattle.std.proofs.Common.{◌≡◌, ℕ, zero, suc, ◌+◌, ◌-◌, ◌<◌, ◌≤◌, true, false, eqb, List, [], ◌∷◌, ◌++◌, length, map, take, drop, get_or, Option, Some, slice_get, refl, sym, ap, ap₂, subst, ◌∙◌, arith, All}
use Rattle.std.specs.Prelude.{IfSome}
use Rattle.std.proofs.lemmas.Bool.{eq-eqb, ne_eqb}
use Rattle.std.proofs.lemmas.List.{append_assoc, drop-append-le, length-append, length-drop, length-take, map-append, take-append-drop, take-append-le, take_all, take_more}
use Rattle.std.proofs.lemmas.List.Elements.{All-cons, All-head, All-nil, All-tail, All-weaker}
use Rattle.std.proofs.lemmas.Option.{slice_get_within, slice_get-get_or}
use Rattle.run_merge.proofs.Sorting.{Pairs}
use Rattle.opclass.specs.declared.table.Column.{Column}
use Rattle.opclass.specs.declared.table.Table.{Table}
use Rattle.opclass.specs.declared.types.Method.TheVariants.{BTree}
use Rattle.opclass.specs.declared.value.KeyVal.{KeyVal}
use Rattle.opclass.specs.declared.value.KeyVal.TheVariants.{Nil}
use Rattle.opclass.specs.Filter.{value_of}
use Rattle.opclass.specs.Indexes.{IsKeyOf}
use Rattle.opclass.specs.Norm.{IsKeyValue}
use Rattle.opclass.specs.Values.{IsValueOf}
use Rattle.opclass.proofs.KeyValues.{key_types_have_key_values}
use Rattle.heap_row.specs.Typed.{AreReadOf, IsReadOf}
use Rattle.heap_row.proofs.ReadValues.{as_many, one_read}
use Rattle.build_leader.specs.IndexRow.{AreValuesOf}
use Rattle.build_leader.specs.Reader.{AreAt}

-- ---- places of a list

-- one item more
pub at_push : {X : Type 0} (items : List X) (places : List ℕ) (picked : List X) (place : ℕ) (x : X) → AreAt items places picked
    → slice_get items place ≡ Some x → AreAt items (places ++ place ∷ []) (picked ++ x ∷ [])
at_push items places picked place x are is =
    map-append (slice_get items) places (place ∷ [])
    ∙ ap₂ (λ a b. a ++ b) are (ap (λ o. o ∷ []) is)
    ∙ sym (map-append Some picked (x ∷ []))

pub at_more : {X : Type 0} (items : List X) (places : List ℕ) (picked : List X) (i place : ℕ) (x : X) → i < length places
    → AreAt items (take i places) picked → place ≡ get_or places i 0 → slice_get items place ≡ Some x
    → AreAt items (take (i + 1) places) (picked ++ x ∷ [])
at_more items places picked i place x inside are at is =
    subst (λ front. AreAt items front (picked ++ x ∷ []))
    (ap (λ (p : ℕ). take i places ++ p ∷ []) at ∙ sym (take_more places i 0 inside))
    (at_push items (take i places) picked place x are is)

-- the same for a list of the items that stand at places
pub found_more : {X : Type 0} (items : List X) (places : List ℕ) (wanted : List X) (i place : ℕ) (d : X) → i < length wanted
    → AreAt items places (take i wanted) → slice_get items place ≡ Some (get_or wanted i d)
    → AreAt items (places ++ place ∷ []) (take (i + 1) wanted)
found_more items places wanted i place d inside are is =
    subst (λ front. AreAt items (places ++ place ∷ []) front) (sym (take_more wanted i d inside))
    (at_push items places (take i wanted) place (get_or wanted i d) are is)

-- the last of several items, behind the earlier ones
pub at_last : {X : Type 0} (items : List X) (places : List ℕ) (picked : List X) (x : X) → 1 ≤ length places
    → AreAt items (take (length places - 1) places) picked → slice_get items (get_or places (length places - 1) 0) ≡ Some x
    → AreAt items places (picked ++ x ∷ [])
at_last items places picked x some are is =
    let n = length places - 1 in
    let e : n + 1 ≡ length places = omega arith in
    subst (λ all. AreAt items all (picked ++ x ∷ [])) (ap (λ (k : ℕ). take k places) e ∙ take_all (length places) places (omega arith))
    (at_more items places picked n (get_or places n 0) x (omega arith) are refl is)

-- ---- values that are moved from the end of a list

-- the last one of the first so many
pub last_of_front : {X : Type 0} (items front : List X) (place : ℕ) (x : X) → place < length items
    → take (place + 1) items ≡ front ++ x ∷ [] → slice_get items place ≡ Some x
last_of_front [] front place x inside is = absurd (omega arith)
last_of_front (item ∷ items) [] zero x inside is = cc
last_of_front (item ∷ items) (first ∷ front) zero x inside is =
    let sizes = ap length is in
    let longer = length-append front (x ∷ []) in
    absurd (omega arith)
last_of_front (item ∷ items) [] (suc place) x inside is =
    let sizes = ap length is in
    let size = length-take (suc place + 1) (item ∷ items) in
    absurd (omega arith)
last_of_front (item ∷ items) (first ∷ front) (suc place) x inside is =
    let e : suc place + 1 ≡ suc (place + 1) = omega arith in
    let is' : take (suc (place + 1)) (item ∷ items) ≡ first ∷ front ++ x ∷ [] = sym (ap (λ (n : ℕ). take n (item ∷ items)) e) ∙ is in
    let tail : take (place + 1) items ≡ front ++ x ∷ [] = ap (λ l. drop 1 l) is' in
    last_of_front items front place x (omega arith) tail

module _ {X : Type 0} (old mid : List X) (x : X) (count : ℕ) (is : old ≡ mid ++ x ∷ []) (some : 1 ≤ count) (most : count ≤ length old) where
  sizes : length old ≡ length mid + 1
  sizes = ap length is ∙ length-append mid (x ∷ [])

  same : length old - count ≡ length mid - (count - 1)
  same = let size = sizes in omega arith

  inside : length mid - (count - 1) ≤ length mid
  inside = omega arith

  -- what is left of the list
  pub left_more : (new : List X) → new ≡ take (length mid - (count - 1)) mid → new ≡ take (length old - count) old
  left_more new left =
      left ∙ sym (take-append-le (length mid - (count - 1)) mid (x ∷ []) inside)
      ∙ ap₂ (λ (n : ℕ) (l : List X). take n l) (sym same) (sym is)

  -- and what came behind the other one
  pub moved_more : (to before after : List X) → before ≡ to ++ drop (length mid - (count - 1)) mid → after ≡ before ++ x ∷ []
      → after ≡ to ++ drop (length old - count) old
  moved_more to before after moved put =
      put ∙ ap (λ (l : List X). l ++ x ∷ []) moved ∙ append_assoc to (drop (length mid - (count - 1)) mid) (x ∷ [])
      ∙ ap (λ (l : List X). to ++ l) (sym (drop-append-le (length mid - (count - 1)) mid (x ∷ []) inside)
      ∙ ap₂ (λ (n : ℕ) (l : List X). drop n l) (sym same) (sym is))

-- all of them
pub all_moved : {X : Type 0} (old left : List X) (count : ℕ) → count ≡ length old → left ≡ take (length old - count) old → left ≡ []
all_moved old left count is taken =
    let none : length old - count ≡ 0 = omega arith in
    taken ∙ ap (λ (n : ℕ). take n old) none

-- so many of them, behind none
pub split : {X : Type 0} (items front before behind : List X) (count : ℕ) → count ≤ length items → before ≡ []
    → front ≡ take (length items - count) items → behind ≡ before ++ drop (length items - count) items
    → (items ≡ front ++ behind) × (length behind ≡ count)
split items front before behind count most none taken moved =
    let n = length items - count in
    let is : behind ≡ drop n items = moved ∙ ap (λ l. l ++ drop n items) none in
    let size = length-drop n items in
    (sym (take-append-drop n items) ∙ ap₂ (λ a b. a ++ b) (sym taken) (sym is), omega (arith, ap length is, size))

-- ---- values by their columns

value_first : (n : ℕ) (ns : List ℕ) (v : KeyVal) (vs : List KeyVal) → value_of (n ∷ ns) (v ∷ vs) n ≡ Some v
value_first n ns v vs = let e : eqb n n ≡ true = eq-eqb n n refl in rw e refl

value_later : (n : ℕ) (ns : List ℕ) (v : KeyVal) (vs : List KeyVal) (c : ℕ) → n < c → value_of (n ∷ ns) (v ∷ vs) c ≡ value_of ns vs c
value_later n ns v vs c less = let e : eqb n c ≡ false = ne_eqb n c (λ same. omega arith) in rw e refl

abbrev pub Less : ℕ → ℕ → Type 0
Less x y = x < y

is_later : (n : ℕ) (ns : List ℕ) (c place : ℕ) → All (Less n) ns → slice_get ns place ≡ Some c → n < c
is_later n [] c place all at = cc
is_later n (m ∷ ns) c zero all at =
    let same : m ≡ c = cc in
    subst (λ (k : ℕ). n < k) same (All-head (Less n) m ns all)
is_later n (m ∷ ns) c (suc place) all at = is_later n ns c place (All-tail (Less n) m ns all) at

module _ (columns : List Column) (most : ℕ) where
  value_here : (needed : List ℕ) (values : List KeyVal) (c place : ℕ) (v : KeyVal) → Pairs Less needed
      → slice_get needed place ≡ Some c → slice_get values place ≡ Some v → value_of needed values c ≡ Some v
  value_here [] values c place v up at is = cc
  value_here (n ∷ ns) [] c place v up at is = cc
  value_here (n ∷ ns) (w ∷ ws) c zero v up at is =
      let same : n ≡ c = cc in
      let same_value : w ≡ v = cc in
      subst (λ (k : ℕ). value_of (n ∷ ns) (w ∷ ws) k ≡ Some v) same (value_first n ns w ws ∙ ap Some same_value)
  value_here (n ∷ ns) (w ∷ ws) c (suc place) v up at is =
      value_later n ns w ws c (is_later n ns c place up.0 at) ∙ value_here ns ws c place v up.1 at is

  -- what stands at the places of columns are their values
  pub picks : (needed : List ℕ) (values : List KeyVal) → Pairs Less needed → AreReadOf columns most needed values
      → (places numbers : List ℕ) (picked : List KeyVal) → AreAt needed places numbers → AreAt values places picked
      → AreValuesOf needed values numbers picked × AreReadOf columns most numbers picked
  picks needed values up read [] [] [] at is = (refl, tt)
  picks needed values up read [] [] (v ∷ vs) at is = cc
  picks needed values up read [] (c ∷ cs) picked at is = cc
  picks needed values up read (p ∷ ps) [] picked at is = cc
  picks needed values up read (p ∷ ps) (c ∷ cs) [] at is = cc
  picks needed values up read (p ∷ ps) (c ∷ cs) (v ∷ vs) at is =
      let one : slice_get needed p ≡ Some c = cc in
      let its : slice_get values p ≡ Some v = cc in
      let others : AreAt needed ps cs = cc in
      let theirs : AreAt values ps vs = cc in
      let rest = picks needed values up read ps cs vs others theirs in
      let here : value_of needed values c ≡ Some v = value_here needed values c p v up one its in
      (ap₂ (λ a b. a ∷ b) here rest.0, (one_read columns most needed values p c v read one its, rest.1))

  values_skip : (n : ℕ) (ns : List ℕ) (v : KeyVal) (vs : List KeyVal) (cs : List ℕ) → All (Less n) cs
      → map (value_of (n ∷ ns) (v ∷ vs)) cs ≡ map (value_of ns vs) cs
  values_skip n ns v vs [] all = refl
  values_skip n ns v vs (c ∷ cs) all =
      ap₂ (λ a b. a ∷ b) (value_later n ns v vs c (All-head (Less n) c cs all))
      (values_skip n ns v vs cs (All-tail (Less n) c cs all))

  -- the needed columns have the values as they stand
  pub own_values : (needed : List ℕ) (values : List KeyVal) → Pairs Less needed → AreReadOf columns most needed values
      → AreValuesOf needed values needed values
  own_values [] [] up read = refl
  own_values [] (v ∷ vs) up read = absurd read
  own_values (n ∷ ns) [] up read = absurd read
  own_values (n ∷ ns) (v ∷ vs) up read =
      ap₂ (λ a b. a ∷ b) (value_first n ns v vs) (values_skip n ns v vs ns up.0 ∙ own_values ns vs up.1 read.1)

-- ---- values of columns that a B-tree takes

module _ (table : Table) (most : ℕ) where
  is_key : (number : ℕ) (value : KeyVal) → IsKeyOf table BTree number → IsReadOf table.columns most number value → IsKeyValue value
  is_key number value key read =
      let found : slice_get table.columns (number - 1) ≡ Some key.column = key.found in
      let found' : slice_get table.columns (number - 1) ≡ Some read.column = read.found in
      let same : read.column ≡ key.column = cc in
      key_types_have_key_values key.column.kind value key.taken
      (subst (λ (column : Column). IsValueOf column.kind value) same read.typed)

  -- a place at which a value of such a column stands
  abbrev HasKeyAt : List KeyVal → ℕ → Type 0
  HasKeyAt values place = (place < length values) × IfSome (slice_get values place) IsKeyValue

  keys_at : (needed : List ℕ) (values : List KeyVal) → AreReadOf table.columns most needed values
      → (places numbers : List ℕ) → AreAt needed places numbers → All (IsKeyOf table BTree) numbers → All (HasKeyAt values) places
  keys_at needed values read [] numbers at keys = All-nil (HasKeyAt values)
  keys_at needed values read (p ∷ ps) [] at keys = cc
  keys_at needed values read (p ∷ ps) (c ∷ cs) at keys =
      let one : slice_get needed p ≡ Some c = cc in
      let others : AreAt needed ps cs = cc in
      let count = as_many table.columns most needed values read in
      let below = slice_get_within needed p c one in
      let inside : p < length values = omega arith in
      let value : KeyVal = get_or values p Nil in
      let there : slice_get values p ≡ Some value = slice_get-get_or values p Nil inside in
      let key : IsKeyValue value = is_key c value (All-head (IsKeyOf table BTree) c cs keys) (one_read table.columns most needed values p c value read one there) in
      All-cons (HasKeyAt values) p ps (inside, subst (λ (o : Option KeyVal). IfSome o IsKeyValue) (sym there) key)
      (keys_at needed values read ps cs others (All-tail (IsKeyOf table BTree) c cs keys))

  pub places_inside : (needed : List ℕ) (values : List KeyVal) → AreReadOf table.columns most needed values
      → (places numbers : List ℕ) → AreAt needed places numbers → All (λ place. place < length values) places
  places_inside needed values read [] numbers at = All-nil (λ (place : ℕ). place < length values)
  places_inside needed values read (p ∷ ps) [] at = cc
  places_inside needed values read (p ∷ ps) (c ∷ cs) at =
      let one : slice_get needed p ≡ Some c = cc in
      let others : AreAt needed ps cs = cc in
      let count = as_many table.columns most needed values read in
      let below = slice_get_within needed p c one in
      All-cons (λ (place : ℕ). place < length values) p ps (omega arith) (places_inside needed values read ps cs others)

  pub places_of_keys : (needed : List ℕ) (values : List KeyVal) → AreReadOf table.columns most needed values
      → (places numbers : List ℕ) → AreAt needed places numbers → All (IsKeyOf table BTree) numbers
      → All (λ place. IfSome (slice_get values place) IsKeyValue) places
  places_of_keys needed values read places numbers at keys =
      All-weaker (HasKeyAt values) (λ place. IfSome (slice_get values place) IsKeyValue) (λ place has. has.1) places
      (keys_at needed values read places numbers at keys)

  -- values of such columns
  pub are_key_values : (numbers : List ℕ) (values : List KeyVal) → AreReadOf table.columns most numbers values
      → All (IsKeyOf table BTree) numbers → All IsKeyValue values
  are_key_values [] [] read keys = All-nil IsKeyValue
  are_key_values [] (v ∷ vs) read keys = absurd read
  are_key_values (n ∷ ns) [] read keys = absurd read
  are_key_values (n ∷ ns) (v ∷ vs) read keys =
      All-cons IsKeyValue v vs (is_key n v (All-head (IsKeyOf table BTree) n ns keys) read.0)
      (are_key_values ns vs read.1 (All-tail (IsKeyOf table BTree) n ns keys))
