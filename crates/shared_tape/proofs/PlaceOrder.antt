-- How places compare, and which order a sort of them gives.
use Rattle.std.proofs.Common.{◌≡◌, ℕ, zero, suc, ◌+◌, ◌<◌, ◌≤◌, List, [], ◌∷◌, length, take, drop, sym, ap, subst, ◌∙◌, arith, Bool, get_or, Bor, Ordering, nat_cmp}
use Rattle.std.specs.Prelude.{All, IsSorted}
use Rattle.std.specs.Cmp.{IsTotalOrder, IsStrictWeakOrder}
use Rattle.std.specs.Fn.{Called, ComparesAs}
use Rattle.std.specs.Ordering.{is_lt, ordering_then}
use Rattle.std.specs.List.Sorted.{IsSortedBy, IsPermutation}
use denote.Param.Members.{Mut}
use Rattle.std.proofs.lemmas.Cmp.{nat_cmp_total, nat_list_cmp_total, on_total, then_total}
use Rattle.std.proofs.lemmas.Fn.{always_returns_same}
use Rattle.std.proofs.lemmas.List.{get_or-map, length-map}
use Rattle.std.proofs.lemmas.List.Sorted.{ranks_by, All-permutation, IsPermutation-map, sum_by-IsPermutation}
use Rattle.std.proofs.lemmas.List.Elements.{All-get_or}
use Rattle.opclass.specs.declared.spec.SortPart.{SortPart}
use Rattle.opclass.specs.Order.{bytes_cmp}
use Rattle.opclass.proofs.Pieces.{AreBytes}
use Rattle.shared_tape.specs.declared.stored.Record.{Record}
use Rattle.shared_tape.specs.declared.place.Place.{Place}
use Rattle.shared_tape.specs.Stored.{record_cmp, stored}
use Rattle.shared_tape.specs.Reading.{counted_at, record_at}
use Rattle.shared_tape.specs.Runs.{IsAscending}
use Rattle.shared_tape.specs.Places.{HasRecordAt, HasItsHead, place_cmp, records_at, space_of, starts_of, ArePlaces}
use Rattle.shared_tape.proofs.Standing.{order_at-record}
use Rattle.shared_tape.proofs.OrderBytes.{order_bytes_ordered}
use Rattle.shared_tape.proofs.Heads.{heads_may_decide}

AreBytes-take : (n : ℕ) (xs : List ℕ) → AreBytes xs → AreBytes (take n xs)
AreBytes-take zero xs h k = omega arith
AreBytes-take (suc n) [] h k = omega arith
AreBytes-take (suc n) (x ∷ xs) h zero = h 0
AreBytes-take (suc n) (x ∷ xs) h (suc k) = AreBytes-take n xs (λ j. h (suc j)) k

AreBytes-drop : (n : ℕ) (xs : List ℕ) → AreBytes xs → AreBytes (drop n xs)
AreBytes-drop zero xs h = h
AreBytes-drop (suc n) [] h = λ k. omega arith
AreBytes-drop (suc n) (x ∷ xs) h = AreBytes-drop n xs (λ k. h (suc k))

AreBytes-counted_at : (bytes : List ℕ) (place : ℕ) → AreBytes bytes → AreBytes (counted_at bytes place)
unfolding counted_at
AreBytes-counted_at bytes place h = AreBytes-take _ (drop (place + 4) bytes) (AreBytes-drop (place + 4) bytes h)

-- places compare as the records that stand there
place_cmp-records : (order : List SortPart) (bytes : List ℕ) (a b : Place) → AreBytes bytes → HasRecordAt order bytes a.start → HasRecordAt order bytes b.start
    → HasItsHead bytes a → HasItsHead bytes b → place_cmp bytes a b ≡ record_cmp order (record_at order bytes a.start) (record_at order bytes b.start)
place_cmp-records order bytes a b are p q ha hb =
    (λ i. ordering_then (nat_cmp (ha i) (hb i)) (bytes_cmp (counted_at bytes a.start) (counted_at bytes b.start)))
    ∙ heads_may_decide (counted_at bytes a.start) (counted_at bytes b.start) (AreBytes-counted_at bytes a.start are) (AreBytes-counted_at bytes b.start are)
    ∙ (λ i. bytes_cmp
    (order_at-record order bytes a.start (record_at order bytes a.start) p i) (order_at-record order bytes b.start (record_at order bytes b.start) q i))
    ∙ order_bytes_ordered order (record_at order bytes a.start) (record_at order bytes b.start) p.storable q.storable

place_cmp_total : (bytes : List ℕ) → IsTotalOrder (place_cmp bytes)
place_cmp_total bytes =
    then_total (on_total (λ (place : Place). place.head) nat_cmp_total) (on_total (λ (place : Place). counted_at bytes place.start) nat_list_cmp_total)

-- what std's sort leaves where each call of the closure compares two places
pub places_sorted : {F : Type 0} {g : Mut F (Bor Place × (Bor Place × Unit {0})) Ordering} {f : F} (bytes : List ℕ) (places : List Place)
    → ((lt : Place → Place → Bool) → IsStrictWeakOrder lt → ComparesAs g lt f → IsSortedBy lt places)
    → ((a : Bor Place × (Bor Place × Unit {0})) (r : Ordering) (f' : F) → Called g f a r f' → (r ≡ place_cmp bytes a.0.now a.1.0.now) × (f' ≡ f))
    → IsSorted (place_cmp bytes) places
places_sorted {g = g} {f = f} bytes places up h =
    up (λ a b. is_lt (place_cmp bytes a b)) (ranks_by (place_cmp_total bytes) (λ (place : Place). place))
    (always_returns_same g (λ a r. is_lt r ≡ is_lt (place_cmp bytes a.0.now a.1.0.now)) f (λ a r f' k. (ap is_lt (h a r f' k).0, (h a r f' k).1)))

abbrev pub no_place : Place
no_place = record { head = 0; start = 0 }

start_at : (places : List Place) (k : ℕ) → k < length places → get_or (starts_of places) k 0 ≡ (get_or places k no_place).start
start_at places k inside = get_or-map (λ (place : Place). place.start) places k no_place 0 inside

pub record_of_place : (order : List SortPart) (bytes : List ℕ) (places : List Place) (k : ℕ) (d : Record) → k < length places
    → get_or (records_at order bytes (starts_of places)) k d ≡ record_at order bytes (get_or places k no_place).start
record_of_place order bytes places k d inside =
    get_or-map (record_at order bytes) (starts_of places) k 0 d (omega (arith, length-map places (λ (place : Place). place.start)))
    ∙ ap (record_at order bytes) (start_at places k inside)

pub place_has : (order : List SortPart) (bytes : List ℕ) (places : List Place) (k : ℕ) → All (HasRecordAt order bytes) (starts_of places)
    → k < length places → HasRecordAt order bytes (get_or places k no_place).start
place_has order bytes places k each inside =
    subst (HasRecordAt order bytes) (start_at places k inside) (each k 0 (omega (arith, length-map places (λ (place : Place). place.start))))

-- sorted places are those of ascending records
pub sorted-ascending : (order : List SortPart) (bytes : List ℕ) (places : List Place) → AreBytes bytes
    → All (HasRecordAt order bytes) (starts_of places) → All (HasItsHead bytes) places → IsSorted (place_cmp bytes) places
    → IsAscending order (records_at order bytes (starts_of places))
sorted-ascending order bytes places are each heads sorted k d low inside =
    let size : length (records_at order bytes (starts_of places)) ≡ length places =
    length-map (starts_of places) (record_at order bytes) ∙ length-map places (λ (place : Place). place.start) in
    let here : k < length places = omega arith in
    let next : k + 1 < length places = omega arith in
    let one = get_or places k no_place in
    let two = get_or places (k + 1) no_place in
    (λ i. is_lt (record_cmp order (record_of_place order bytes places (k + 1) d next i) (record_of_place order bytes places k d here i)))
    ∙ sym (ap is_lt
    (place_cmp-records order bytes two one are (place_has order bytes places (k + 1) each next) (place_has order bytes places k each here)
    (All-get_or (HasItsHead bytes) places (k + 1) no_place next heads) (All-get_or (HasItsHead bytes) places k no_place here heads)))
    ∙ sorted k no_place low (omega arith)

pub sort-ascending : (order : List SortPart) (bytes : List ℕ) (old new : List Place) → AreBytes bytes → ArePlaces order bytes old
    → IsPermutation old new → IsSorted (place_cmp bytes) new → IsAscending order (records_at order bytes (starts_of new))
sort-ascending order bytes old new are places moved sorted =
    sorted-ascending order bytes new are
    (All-permutation (HasRecordAt order bytes) (starts_of old) (starts_of new) (IsPermutation-map (λ (place : Place). place.start) old new moved) places.each)
    (All-permutation (HasItsHead bytes) old new moved places.heads) sorted

-- after a sort the places are still those of the records
pub sorted-each : (order : List SortPart) (bytes : List ℕ) (old new : List Place) → ArePlaces order bytes old → IsPermutation old new
    → All (HasRecordAt order bytes) (starts_of new)
sorted-each order bytes old new places moved =
    All-permutation (HasRecordAt order bytes) (starts_of old) (starts_of new) (IsPermutation-map (λ (place : Place). place.start) old new moved) places.each

pub sorted-records : (order : List SortPart) (bytes : List ℕ) (old new : List Place) → IsPermutation old new
    → IsPermutation (records_at order bytes (starts_of old)) (records_at order bytes (starts_of new))
sorted-records order bytes old new moved =
    IsPermutation-map (record_at order bytes) (starts_of old) (starts_of new) (IsPermutation-map (λ (place : Place). place.start) old new moved)

pub sorted-space : (order : List SortPart) (bytes : List ℕ) (old new : List Place) → ArePlaces order bytes old → IsPermutation old new
    → space_of order (records_at order bytes (starts_of new)) ≤ length bytes
sorted-space order bytes old new places moved =
    omega (
      arith,
      places.packed,
      sum_by-IsPermutation (λ (row : Record). length (stored order row)) (records_at order bytes (starts_of old)) (records_at order bytes (starts_of new))
          (sorted-records order bytes old new moved),
    )
