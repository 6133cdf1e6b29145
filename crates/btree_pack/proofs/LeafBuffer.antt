-- Leaf tuples in one buffer and their separators in another: one more of them, those of a number, and those between two.
use Rattle.std.proofs.Common.{◌≡◌, ℕ, zero, suc, ◌+◌, ◌-◌, ◌<◌, ◌≤◌, List, [], ◌∷◌, ◌++◌, length, map, take, drop, get_or, refl, sym, ap, ◌∙◌, subst, arith, length-append, length-drop}
use Rattle.std.specs.Prelude.{IfSome, slice_get}
use Rattle.std.specs.List.{flat_map, sum_by}
use Rattle.std.proofs.Math.Seq.{take-add}
use Rattle.std.proofs.lemmas.List.{drop-drop, take-append-le, drop-append-le, take_all, length-take-le, take-map, drop-map}
use Rattle.std.proofs.lemmas.List.Sums.{sum_by-append, sum_by-cons, sum_by_more_le, sum_by-take-le}
use Rattle.std.proofs.lemmas.Option.{slice_get-get_or}
use Rattle.btree_pack.specs.Pass.Buffer.{AreSizes, IsPlaceIn, leaf_cut, leaves_cut, leaves_from, place_of, separators_size, size_of, tuples_cut, tuples_size}
use Rattle.btree_pack.specs.Pass.Run.{Leaf}
use Rattle.btree_pack.specs.declared.leaves.LeafPlace.{LeafPlace}
use Rattle.btree_pack.specs.declared.leaves.LeafSize.{LeafSize}

-- what holds of the element of a number, where there is one
pub if-at : {X : Type 0} (P : X → Type 0) (xs : List X) (at : ℕ) (d : X) → at < length xs → P (get_or xs at d) → IfSome (slice_get xs at) P
if-at P xs at d inside holds = subst (λ o. IfSome o P) (sym (slice_get-get_or xs at d inside)) holds

pub of-at : {X : Type 0} (P : X → Type 0) (xs : List X) (at : ℕ) (d : X) → at < length xs → IfSome (slice_get xs at) P → P (get_or xs at d)
of-at P xs at d inside holds = subst (λ o. IfSome o P) (slice_get-get_or xs at d inside) holds

abbrev pub tuple_size : LeafSize → ℕ
tuple_size size = size.tuple

abbrev pub separator_size : LeafSize → ℕ
separator_size size = size.separator

pub length-leaves_cut : (sizes : List LeafSize) (tuples separators : List ℕ) → length (leaves_cut sizes tuples separators) ≡ length sizes
length-leaves_cut [] tuples separators = refl
length-leaves_cut (size ∷ sizes) tuples separators = ap suc (length-leaves_cut sizes (drop size.tuple tuples) (drop size.separator separators))

-- the sizes behind the first
sizes-behind : (size : LeafSize) (sizes : List LeafSize) (tuples separators : List ℕ) → AreSizes (size ∷ sizes) tuples separators
    → (size.tuple ≤ length tuples) × (size.separator ≤ length separators) × AreSizes sizes (drop size.tuple tuples) (drop size.separator separators)
sizes-behind size sizes tuples separators are =
    let t = sum_by-cons tuple_size size sizes in
    let s = sum_by-cons separator_size size sizes in
    let a = are.tuples in
    let b = are.separators in
    let tl = length-drop size.tuple tuples in
    let sl = length-drop size.separator separators in
    (omega arith, omega arith, record { tuples = omega arith; separators = omega arith })

-- a leaf tuple more
pub leaves_cut-push : (sizes : List LeafSize) (tuples separators : List ℕ) (size : LeafSize) (tuple separator : List ℕ) → AreSizes sizes tuples separators
    → size.tuple ≡ length tuple → size.separator ≡ length separator
    → leaves_cut (sizes ++ size ∷ []) (tuples ++ tuple) (separators ++ separator)
    ≡ leaves_cut sizes tuples separators ++ record { tuple = tuple; extra = size.extra; separator = separator } ∷ []
leaves_cut-push [] (b ∷ tuples) separators size tuple separator are t s = let a = are.tuples in absurd (omega arith)
leaves_cut-push [] [] (b ∷ separators) size tuple separator are t s = let a = are.separators in absurd (omega arith)
leaves_cut-push [] [] [] size tuple separator are t s =
    ap (λ (l : List ℕ). record { tuple = l; extra = size.extra; separator = take size.separator separator } ∷ []) (take_all size.tuple tuple (omega arith))
    ∙ ap (λ (l : List ℕ). record { tuple = tuple; extra = size.extra; separator = l } ∷ []) (take_all size.separator separator (omega arith))
leaves_cut-push (first ∷ sizes) tuples separators size tuple separator are t s =
    let parts = sizes-behind first sizes tuples separators are in
    let here : leaf_cut first (tuples ++ tuple) (separators ++ separator) ≡ leaf_cut first tuples separators =
    ap (λ (l : List ℕ). record { tuple = l; extra = first.extra; separator = take first.separator (separators ++ separator) }) (take-append-le first.tuple tuples tuple parts.0)
    ∙ ap (λ (l : List ℕ). record { tuple = take first.tuple tuples; extra = first.extra; separator = l }) (take-append-le first.separator separators separator parts.1) in
    ap (λ l. l ∷ leaves_cut (sizes ++ size ∷ []) (drop first.tuple (tuples ++ tuple)) (drop first.separator (separators ++ separator))) here
    ∙ ap (λ b. leaf_cut first tuples separators ∷ leaves_cut (sizes ++ size ∷ []) b (drop first.separator (separators ++ separator))) (drop-append-le first.tuple tuples tuple parts.0)
    ∙ ap (λ b. leaf_cut first tuples separators ∷ leaves_cut (sizes ++ size ∷ []) (drop first.tuple tuples ++ tuple) b) (drop-append-le first.separator separators separator parts.1)
    ∙ ap (λ l. leaf_cut first tuples separators ∷ l)
    (leaves_cut-push sizes (drop first.tuple tuples) (drop first.separator separators) size tuple separator parts.2 t s)

pub sizes-push : (sizes : List LeafSize) (tuples separators : List ℕ) (size : LeafSize) (tuple separator : List ℕ) → AreSizes sizes tuples separators
    → size.tuple ≡ length tuple → size.separator ≡ length separator → AreSizes (sizes ++ size ∷ []) (tuples ++ tuple) (separators ++ separator)
sizes-push sizes tuples separators size tuple separator are t s =
    let a = are.tuples in
    let b = are.separators in
    let ats = sum_by-append tuple_size sizes (size ∷ []) in
    let bs = sum_by-append separator_size sizes (size ∷ []) in
    let ct = sum_by-cons tuple_size size [] in
    let cs = sum_by-cons separator_size size [] in
    let lt = length-append tuples tuple in
    let ls = length-append separators separator in
    record { tuples = omega arith; separators = omega arith }

-- the sizes of the leaf tuples are those by which they are told apart
pub sizes-are : (sizes : List LeafSize) (tuples separators : List ℕ) → AreSizes sizes tuples separators → map size_of (leaves_cut sizes tuples separators) ≡ sizes
sizes-are [] tuples separators are = refl
sizes-are (size ∷ sizes) tuples separators are =
    let parts = sizes-behind size sizes tuples separators are in
    let rest = sizes-are sizes (drop size.tuple tuples) (drop size.separator separators) parts.2 in
    let first : size_of (leaf_cut size tuples separators) ≡ size =
    ap (λ (n : ℕ). record { tuple = n; extra = size.extra; separator = length (take size.separator separators) }) (length-take-le size.tuple tuples parts.0)
    ∙ ap (λ (n : ℕ). record { tuple = size.tuple; extra = size.extra; separator = n }) (length-take-le size.separator separators parts.1) in
    ap (λ s. s ∷ map size_of (leaves_cut sizes (drop size.tuple tuples) (drop size.separator separators))) first ∙ ap (λ l. size ∷ l) rest

sum_by-map : {X : Type 0} {Y : Type 0} (f : Y → ℕ) (g : X → Y) (xs : List X) → sum_by f (map g xs) ≡ sum_by (λ x. f (g x)) xs
sum_by-map f g [] = refl
sum_by-map f g (x ∷ xs) =
    sum_by-cons f (g x) (map g xs) ∙ ap (λ (n : ℕ). f (g x) + n) (sum_by-map f g xs) ∙ sym (sum_by-cons (λ x. f (g x)) x xs)

pub tuples_size-of : (leaves : List Leaf) → tuples_size (map size_of leaves) ≡ sum_by (λ (leaf : Leaf). length leaf.tuple) leaves
tuples_size-of leaves = sum_by-map tuple_size size_of leaves

pub separators_size-of : (leaves : List Leaf) → separators_size (map size_of leaves) ≡ sum_by (λ (leaf : Leaf). length leaf.separator) leaves
separators_size-of leaves = sum_by-map separator_size size_of leaves

-- where a leaf tuple begins
place-is : (leaves : List Leaf) (sizes : List LeafSize) (number : ℕ) → map size_of leaves ≡ sizes
    → place_of number leaves ≡ record { number = number; tuple = tuples_size (take number sizes); separator = separators_size (take number sizes) }
place-is leaves sizes number are =
    let front : map size_of (take number leaves) ≡ take number sizes = sym (take-map size_of number leaves) ∙ ap (take number) are in
    ap (λ (n : ℕ). record { number = number; tuple = n; separator = (place_of number leaves).separator }) (sym (tuples_size-of (take number leaves)) ∙ ap tuples_size front)
    ∙ ap (λ (n : ℕ). record { number = number; tuple = tuples_size (take number sizes); separator = n })
    (sym (separators_size-of (take number leaves)) ∙ ap separators_size front)

-- the leaf tuples behind some
drop-leaves : (k : ℕ) (sizes : List LeafSize) (tuples separators : List ℕ)
    → drop k (leaves_cut sizes tuples separators)
    ≡ leaves_cut (drop k sizes) (drop (tuples_size (take k sizes)) tuples) (drop (separators_size (take k sizes)) separators)
drop-leaves zero sizes tuples separators = refl
drop-leaves (suc k) [] tuples separators = refl
drop-leaves (suc k) (size ∷ sizes) tuples separators =
    let t = sum_by-cons tuple_size size (take k sizes) in
    let s = sum_by-cons separator_size size (take k sizes) in
    drop-leaves k sizes (drop size.tuple tuples) (drop size.separator separators)
    ∙ ap (λ l. leaves_cut (drop k sizes) l (drop (separators_size (take k sizes)) (drop size.separator separators)))
    (drop-drop (tuples_size (take k sizes)) size.tuple tuples ∙ ap (λ (n : ℕ). drop n tuples) (sym t))
    ∙ ap (leaves_cut (drop k sizes) (drop (tuples_size (size ∷ take k sizes)) tuples))
    (drop-drop (separators_size (take k sizes)) size.separator separators ∙ ap (λ (n : ℕ). drop n separators) (sym s))

-- the bytes of the first leaf tuples
front-is : (k : ℕ) (sizes : List LeafSize) (tuples separators : List ℕ)
    → flat_map (λ (leaf : Leaf). leaf.tuple) (take k (leaves_cut sizes tuples separators)) ≡ take (tuples_size (take k sizes)) tuples
front-is zero sizes tuples separators = refl
front-is (suc k) [] tuples separators = refl
front-is (suc k) (size ∷ sizes) tuples separators =
    let t = sum_by-cons tuple_size size (take k sizes) in
    ap (λ l. take size.tuple tuples ++ l) (front-is k sizes (drop size.tuple tuples) (drop size.separator separators))
    ∙ sym (take-add size.tuple (tuples_size (take k sizes)) tuples)
    ∙ ap (λ (n : ℕ). take n tuples) (sym t)

get-cut : (sizes : List LeafSize) (tuples separators : List ℕ) (at : ℕ) (e : LeafSize) (d : Leaf) → at < length sizes
    → get_or (leaves_cut sizes tuples separators) at d
    ≡ leaf_cut (get_or sizes at e) (drop (tuples_size (take at sizes)) tuples) (drop (separators_size (take at sizes)) separators)
get-cut [] tuples separators at e d inside = absurd (omega arith)
get-cut (size ∷ sizes) tuples separators zero e d inside = refl
get-cut (size ∷ sizes) tuples separators (suc at) e d inside =
    let t = sum_by-cons tuple_size size (take at sizes) in
    let s = sum_by-cons separator_size size (take at sizes) in
    get-cut sizes (drop size.tuple tuples) (drop size.separator separators) at e d (omega arith)
    ∙ ap (λ l. leaf_cut (get_or sizes at e) l (drop (separators_size (take at sizes)) (drop size.separator separators)))
    (drop-drop (tuples_size (take at sizes)) size.tuple tuples ∙ ap (λ (n : ℕ). drop n tuples) (sym t))
    ∙ ap (leaf_cut (get_or sizes at e) (drop (tuples_size (size ∷ take at sizes)) tuples))
    (drop-drop (separators_size (take at sizes)) size.separator separators ∙ ap (λ (n : ℕ). drop n separators) (sym s))

-- the leaf tuple of a number
pub record LeafAt (leaves : List Leaf) (sizes : List LeafSize) (tuples separators : List ℕ) (number : ℕ) (size : LeafSize) : Type 0 where
  pub tuple_room : (place_of number leaves).tuple + size.tuple ≤ length tuples
  pub separator_room : (place_of number leaves).separator + size.separator ≤ length separators
  pub tuple : IfSome (slice_get leaves number) (λ leaf. take size.tuple (drop (place_of number leaves).tuple tuples) ≡ leaf.tuple)
  pub extra : IfSome (slice_get leaves number) (λ leaf. size.extra ≡ leaf.extra)
  pub separator : IfSome (slice_get leaves number) (λ leaf. take size.separator (drop (place_of number leaves).separator separators) ≡ leaf.separator)

pub leaf-at : (leaves : List Leaf) (sizes : List LeafSize) (tuples separators : List ℕ) (number : ℕ) (size : LeafSize) → leaves_cut sizes tuples separators ≡ leaves
    → AreSizes sizes tuples separators → number < length leaves → size ≡ get_or sizes number size → LeafAt leaves sizes tuples separators number size
leaf-at leaves sizes tuples separators number size are whole inside is =
    let count = length-leaves_cut sizes tuples separators in
    let same = ap length are in
    let within : number < length sizes = omega arith in
    let all = ap (map size_of) (sym are) ∙ sizes-are sizes tuples separators whole in
    let place = place-is leaves sizes number all in
    let at-tuple : (place_of number leaves).tuple ≡ tuples_size (take number sizes) = ap (λ (p : LeafPlace). p.tuple) place in
    let at-separator : (place_of number leaves).separator ≡ separators_size (take number sizes) = ap (λ (p : LeafPlace). p.separator) place in
    let t = sum_by_more_le tuple_size sizes number size within in
    let s = sum_by_more_le separator_size sizes number size within in
    let tw = whole.tuples in
    let sw = whole.separators in
    let ts : size.tuple ≡ (get_or sizes number size).tuple = ap tuple_size is in
    let ss : size.separator ≡ (get_or sizes number size).separator = ap separator_size is in
    let empty : Leaf = record { tuple = []; extra = 0; separator = [] } in
    let leaf : get_or leaves number empty ≡ leaf_cut size (drop (place_of number leaves).tuple tuples) (drop (place_of number leaves).separator separators) =
    ap (λ l. get_or l number empty) (sym are) ∙ get-cut sizes tuples separators number size empty within
    ∙ ap (λ s. leaf_cut s (drop (tuples_size (take number sizes)) tuples) (drop (separators_size (take number sizes)) separators)) (sym is)
    ∙ ap (λ (n : ℕ). leaf_cut size (drop n tuples) (drop (separators_size (take number sizes)) separators)) (sym at-tuple)
    ∙ ap (λ (n : ℕ). leaf_cut size (drop (place_of number leaves).tuple tuples) (drop n separators)) (sym at-separator) in
    record {
      tuple_room = omega arith;
      separator_room = omega arith;
      tuple = if-at (λ l. take size.tuple (drop (place_of number leaves).tuple tuples) ≡ l.tuple) leaves number empty inside (sym (ap (λ (l : Leaf). l.tuple) leaf));
      extra = if-at (λ l. size.extra ≡ l.extra) leaves number empty inside (sym (ap (λ (l : Leaf). l.extra) leaf));
      separator = if-at (λ l. take size.separator (drop (place_of number leaves).separator separators) ≡ l.separator) leaves number empty inside
          (sym (ap (λ (l : Leaf). l.separator) leaf));
    }

pub is-place-in : (leaves : List Leaf) (number : ℕ) (place : LeafPlace) → place ≡ place_of number leaves → number < length leaves → IsPlaceIn leaves place
is-place-in leaves number place is within =
    let same : place.number ≡ number = ap (λ (p : LeafPlace). p.number) is in
    record { inside = omega arith; is = is ∙ ap (λ (n : ℕ). place_of n leaves) (sym same) }

sum_by-take-add : {X : Type 0} (f : X → ℕ) (a n : ℕ) (xs : List X) → sum_by f (take (a + n) xs) ≡ sum_by f (take a xs) + sum_by f (take n (drop a xs))
sum_by-take-add f a n xs = ap (sum_by f) (take-add a n xs) ∙ sum_by-append f (take a xs) (take n (drop a xs))

-- what so many leaf tuples from a number on take
pub record Further (leaves : List Leaf) (sizes : List LeafSize) (tuples separators : List ℕ) (number count : ℕ) : Type 0 where
  pub tuple : (place_of (number + count) leaves).tuple ≡ (place_of number leaves).tuple + tuples_size (take count (drop number sizes))
  pub separator : (place_of (number + count) leaves).separator ≡ (place_of number leaves).separator + separators_size (take count (drop number sizes))
  pub tuple_room : (place_of (number + count) leaves).tuple ≤ length tuples
  pub separator_room : (place_of (number + count) leaves).separator ≤ length separators

pub further : (leaves : List Leaf) (sizes : List LeafSize) (tuples separators : List ℕ) (number count : ℕ) → leaves_cut sizes tuples separators ≡ leaves
    → AreSizes sizes tuples separators → Further leaves sizes tuples separators number count
further leaves sizes tuples separators number count are whole =
    let all = ap (map size_of) (sym are) ∙ sizes-are sizes tuples separators whole in
    let here = place-is leaves sizes number all in
    let there = place-is leaves sizes (number + count) all in
    let a : (place_of number leaves).tuple ≡ tuples_size (take number sizes) = ap (λ (p : LeafPlace). p.tuple) here in
    let b : (place_of number leaves).separator ≡ separators_size (take number sizes) = ap (λ (p : LeafPlace). p.separator) here in
    let c : (place_of (number + count) leaves).tuple ≡ tuples_size (take (number + count) sizes) = ap (λ (p : LeafPlace). p.tuple) there in
    let d : (place_of (number + count) leaves).separator ≡ separators_size (take (number + count) sizes) = ap (λ (p : LeafPlace). p.separator) there in
    let t = sum_by-take-add tuple_size number count sizes in
    let s = sum_by-take-add separator_size number count sizes in
    let tl = sum_by-take-le tuple_size sizes (number + count) in
    let sl = sum_by-take-le separator_size sizes (number + count) in
    let tw = whole.tuples in
    let sw = whole.separators in
    record { tuple = omega arith; separator = omega arith; tuple_room = omega arith; separator_room = omega arith }

-- the place behind some leaf tuples, of which so many are counted
pub record Counted (place behind : LeafPlace) (part : List LeafSize) (index : ℕ) : Type 0 where
  pub number : behind.number ≡ place.number + index
  pub tuple : behind.tuple ≡ place.tuple + tuples_size (take index part)
  pub separator : behind.separator ≡ place.separator + separators_size (take index part)

pub counted-room : (leaves : List Leaf) (sizes : List LeafSize) (tuples separators : List ℕ) (place behind : LeafPlace) (count index : ℕ) (part : List LeafSize)
    → leaves_cut sizes tuples separators ≡ leaves → AreSizes sizes tuples separators → place ≡ place_of place.number leaves → part ≡ take count (drop place.number sizes)
    → Counted place behind part index → index < length part → (d : LeafSize)
    → (behind.tuple + (get_or part index d).tuple ≤ length tuples) × (behind.separator + (get_or part index d).separator ≤ length separators)
counted-room leaves sizes tuples separators place behind count index part are whole begins is so inside d =
    let f = further leaves sizes tuples separators place.number count are whole in
    let a : place.tuple ≡ (place_of place.number leaves).tuple = ap (λ (p : LeafPlace). p.tuple) begins in
    let b : place.separator ≡ (place_of place.number leaves).separator = ap (λ (p : LeafPlace). p.separator) begins in
    let t = sum_by_more_le tuple_size part index d inside in
    let s = sum_by_more_le separator_size part index d inside in
    let te : tuples_size part ≡ tuples_size (take count (drop place.number sizes)) = ap tuples_size is in
    let se : separators_size part ≡ separators_size (take count (drop place.number sizes)) = ap separators_size is in
    let ft = f.tuple in
    let fs = f.separator in
    let rt = f.tuple_room in
    let rs = f.separator_room in
    let st = so.tuple in
    let ss = so.separator in
    (omega arith, omega arith)

pub counted-all : (leaves : List Leaf) (sizes : List LeafSize) (tuples separators : List ℕ) (place behind : LeafPlace) (count index : ℕ) (part : List LeafSize)
    → leaves_cut sizes tuples separators ≡ leaves → AreSizes sizes tuples separators → place ≡ place_of place.number leaves → part ≡ take count (drop place.number sizes)
    → place.number + count ≤ length leaves → Counted place behind part index → length part ≤ index → index ≤ length part → behind ≡ place_of (place.number + count) leaves
counted-all leaves sizes tuples separators place behind count index part are whole begins is within so done most =
    let f = further leaves sizes tuples separators place.number count are whole in
    let cut = length-leaves_cut sizes tuples separators in
    let same = ap length are in
    let long = ap length is in
    let rest = length-drop place.number sizes in
    let front = length-take-le count (drop place.number sizes) (omega arith) in
    let a : place.tuple ≡ (place_of place.number leaves).tuple = ap (λ (p : LeafPlace). p.tuple) begins in
    let b : place.separator ≡ (place_of place.number leaves).separator = ap (λ (p : LeafPlace). p.separator) begins in
    let te : tuples_size (take index part) ≡ tuples_size (take count (drop place.number sizes)) = ap tuples_size (take_all index part done ∙ is) in
    let se : separators_size (take index part) ≡ separators_size (take count (drop place.number sizes)) = ap separators_size (take_all index part done ∙ is) in
    let ft = f.tuple in
    let fs = f.separator in
    let sn = so.number in
    let st = so.tuple in
    let ss = so.separator in
    let number : behind.number ≡ place.number + count = omega arith in
    let tuple : behind.tuple ≡ (place_of (place.number + count) leaves).tuple = omega arith in
    let separator : behind.separator ≡ (place_of (place.number + count) leaves).separator = omega arith in
    ap (λ (n : ℕ). record { number = n; tuple = behind.tuple; separator = behind.separator }) number
    ∙ ap (λ (n : ℕ). record { number = place.number + count; tuple = n; separator = behind.separator }) tuple
    ∙ ap (λ (n : ℕ). record { number = place.number + count; tuple = (place_of (place.number + count) leaves).tuple; separator = n }) separator

-- the bytes of so many leaf tuples from a number on
pub bytes-from : (leaves : List Leaf) (sizes : List LeafSize) (tuples separators : List ℕ) (number count : ℕ) → leaves_cut sizes tuples separators ≡ leaves
    → AreSizes sizes tuples separators
    → take ((place_of (number + count) leaves).tuple - (place_of number leaves).tuple) (drop (place_of number leaves).tuple tuples)
    ≡ flat_map (λ (leaf : Leaf). leaf.tuple) (leaves_from number count leaves)
bytes-from leaves sizes tuples separators number count are whole =
    let all = ap (map size_of) (sym are) ∙ sizes-are sizes tuples separators whole in
    let a : (place_of number leaves).tuple ≡ tuples_size (take number sizes) = ap (λ (p : LeafPlace). p.tuple) (place-is leaves sizes number all) in
    let more = (further leaves sizes tuples separators number count are whole).tuple in
    let n : (place_of (number + count) leaves).tuple - (place_of number leaves).tuple ≡ tuples_size (take count (drop number sizes)) = omega arith in
    ap (λ (m : ℕ). take m (drop (place_of number leaves).tuple tuples)) n
    ∙ ap (λ (m : ℕ). take (tuples_size (take count (drop number sizes))) (drop m tuples)) a
    ∙ sym (front-is count (drop number sizes) (drop (tuples_size (take number sizes)) tuples) (drop (separators_size (take number sizes)) separators))
    ∙ ap (λ l. flat_map (λ (leaf : Leaf). leaf.tuple) (take count l)) (sym (drop-leaves number sizes tuples separators))
    ∙ ap (λ l. flat_map (λ (leaf : Leaf). leaf.tuple) (take count (drop number l))) are

pub sizes-from : (leaves : List Leaf) (sizes : List LeafSize) (tuples separators : List ℕ) (number count : ℕ) → leaves_cut sizes tuples separators ≡ leaves
    → AreSizes sizes tuples separators → take count (drop number sizes) ≡ map size_of (leaves_from number count leaves)
sizes-from leaves sizes tuples separators number count are whole =
    let all = ap (map size_of) (sym are) ∙ sizes-are sizes tuples separators whole in
    ap (λ s. take count (drop number s)) (sym all) ∙ ap (take count) (drop-map size_of number leaves) ∙ take-map size_of count (drop number leaves)

-- what stands between two leaf tuples
pub record Between (leaves : List Leaf) (tuples : List ℕ) (first last : LeafPlace) : Type 0 where
  pub order : first.tuple ≤ last.tuple
  pub room : last.tuple ≤ length tuples
  pub bytes : take (last.tuple - first.tuple) (drop first.tuple tuples) ≡ flat_map (λ (leaf : Leaf). leaf.tuple) (leaves_from first.number (last.number - first.number) leaves)

pub between : (leaves : List Leaf) (sizes : List LeafSize) (tuples separators : List ℕ) (first last : LeafPlace) → leaves_cut sizes tuples separators ≡ leaves
    → AreSizes sizes tuples separators → first ≡ place_of first.number leaves → last ≡ place_of last.number leaves → first.number ≤ last.number
    → Between leaves tuples first last
between leaves sizes tuples separators first last are whole begins ends order =
    let n : first.number + (last.number - first.number) ≡ last.number = omega arith in
    let f = further leaves sizes tuples separators first.number (last.number - first.number) are whole in
    let a : first.tuple ≡ (place_of first.number leaves).tuple = ap (λ (p : LeafPlace). p.tuple) begins in
    let e : last.tuple ≡ (place_of (first.number + (last.number - first.number)) leaves).tuple =
    ap (λ (p : LeafPlace). p.tuple) ends ∙ ap (λ (m : ℕ). (place_of m leaves).tuple) (sym n) in
    let more = f.tuple in
    let fits = f.tuple_room in
    record {
      order = omega arith;
      room = omega arith;
      bytes = ap (λ (m : ℕ). take (m - first.tuple) (drop first.tuple tuples)) e
          ∙ ap (λ (m : ℕ). take ((place_of (first.number + (last.number - first.number)) leaves).tuple - m) (drop m tuples)) a
          ∙ bytes-from leaves sizes tuples separators first.number (last.number - first.number) are whole;
    }

-- leaf tuples, cut from their bytes by their sizes
pub cut-again : (leaves : List Leaf) → tuples_cut (map size_of leaves) (flat_map (λ (leaf : Leaf). leaf.tuple) leaves) ≡ map (λ (leaf : Leaf). leaf.tuple) leaves
cut-again [] = refl
cut-again (leaf ∷ leaves) =
    let rest = flat_map (λ (l : Leaf). l.tuple) leaves in
    ap (λ t. t ∷ tuples_cut (map size_of leaves) (drop (length leaf.tuple) (leaf.tuple ++ rest)))
    (take-append-le (length leaf.tuple) leaf.tuple rest (omega arith) ∙ take_all (length leaf.tuple) leaf.tuple (omega arith))
    ∙ ap (λ l. leaf.tuple ∷ tuples_cut (map size_of leaves) l) (behind leaf.tuple rest)
    ∙ ap (λ l. leaf.tuple ∷ l) (cut-again leaves)
  where
    behind : (x y : List ℕ) → drop (length x) (x ++ y) ≡ y
    behind [] y = refl
    behind (a ∷ x) y = behind x y
