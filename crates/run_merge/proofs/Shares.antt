-- Samples one after the other, and cuts at equal shares of them.
use Rattle.std.proofs.Common.{◌≡◌, ℕ, zero, suc, ◌+◌, ◌-◌, ◌*◌, ◌/◌, ◌<◌, ◌≤◌, ◌^◌, false, Option, Some, None, List, [], ◌∷◌, ◌++◌, length, length-append, take, refl, sym, ap, subst, ◌∙◌, arith, slice_get, slice_index_or, append_assoc, inl, inr}
use Rattle.std.specs.Borrow.{Bor}
use Rattle.std.specs.Ordering.{is_lt}
use Rattle.std.specs.List.{filter_map, range_with_len}
use Rattle.std.specs.List.Sorted.{IsSorted}
use Rattle.std.proofs.Math.Nat.{mul-le-mul_right, mul-le-mul_left, div-mul-le_self}
use Rattle.std.proofs.lemmas.Nat.{div_below, le-div}
use Rattle.std.proofs.lemmas.Option.{slice_get_past, slice_get-get_or, get_or_from_slice_get}
use Rattle.std.proofs.Math.Seq.{take-append_seam}
use Rattle.std.proofs.lemmas.List.{map-append, get_or-map, length-map}
use Rattle.std.proofs.lemmas.List.Elements.{filter_map-append}
use Rattle.std.proofs.lemmas.List.Sorted.{sorted_far}
use Rattle.std.proofs.lemmas.Bool.{cases_order}
use Rattle.opclass.specs.Order.{bytes_cmp}
use Rattle.opclass.specs.declared.spec.SortPart.{SortPart}
use Rattle.opclass.specs.Norm.{norm_of}
use Rattle.shared_tape.specs.declared.stored.Record.{Record}
use Rattle.shared_tape.specs.Stored.{order_bytes, pointer_bytes}
use Rattle.shared_tape.specs.Runs.{RunView, order_list}
use Rattle.run_merge.specs.Cutting.{cut_at, key_list, AreAtShares}
use Rattle.run_merge.proofs.Heaping.{no_row}
use Rattle.run_merge.specs.declared.cutting.Sampled.{Sampled}
use Rattle.run_merge.specs.declared.cutting.Sampled.TheVariants.{OrderBytes, Key}
use Rattle.run_merge.specs.Pass.{bytes_of, bytes_sampled}
use Rattle.run_merge.proofs.Moves.{append-nil}
use Rattle.run_merge.proofs.Finding.{bytes_weak}

length-pointer_bytes : (row : Record) → length (pointer_bytes row.ptr) ≡ 6
length-pointer_bytes row = refl

-- order bytes have the row pointer last, and the normalised key before it
key_split : (order : List SortPart) (row : Record) → (6 ≤ length (order_bytes order row))
    × (take (length (order_bytes order row) - 6) (order_bytes order row) ≡ norm_of order row.keys)
unfolding order_bytes
key_split order row =
    let key = norm_of order row.keys in
    let long : length (key ++ pointer_bytes row.ptr) ≡ length key + 6 = length-append key (pointer_bytes row.ptr)
    ∙ ap (λ (n : ℕ). length key + n) (length-pointer_bytes row) in
    let short : length (key ++ pointer_bytes row.ptr) - 6 ≡ length key = omega (arith, long) in (
      omega (arith, long),
      ap (λ (n : ℕ). take n (key ++ pointer_bytes row.ptr)) short
          ∙ take-append_seam key (pointer_bytes row.ptr),
    )

length-key_list : (run : RunView) → length (key_list run) ≡ length run.records
length-key_list run = length-map run.records (λ row. norm_of run.order row.keys)

-- a sample is had of each record
pub length-bytes_sampled : (sampled : Sampled) (run : RunView) → length (bytes_sampled sampled run) ≡ length run.records
length-bytes_sampled OrderBytes run = length-map run.records (order_bytes run.order)
length-bytes_sampled Key run = length-key_list run

-- the normalised key at a place of a run, as it was cut off
pub key_found : (run : RunView) (at : ℕ) (bytes : List ℕ) → at < length run.records
    → slice_get (order_list run) at ≡ Some bytes
    → (6 ≤ length bytes) × (slice_get (key_list run) at ≡ Some (take (length bytes - 6) bytes))
key_found run at bytes h e =
    let row = slice_index_or run.records at no_row in
    let is : order_bytes run.order row ≡ bytes =
    sym (get_or-map (order_bytes run.order) run.records at no_row bytes h) ∙ get_or_from_slice_get (order_list run) at bytes
    bytes e in
    let split = key_split run.order row in
    let key : slice_index_or (key_list run) at [] ≡ norm_of run.order row.keys =
    get_or-map (λ (r : Record). norm_of run.order r.keys) run.records at no_row [] h in (
      subst (λ l. 6 ≤ length l) is split.0,
      slice_get-get_or (key_list run) at [] (omega (arith, h, length-key_list run))
          ∙ ap Some (key ∙ sym split.1 ∙ ap (λ (l : List ℕ). take (length l - 6) l) is),
    )

range_push : (a n : ℕ) → range_with_len a (n + 1) ≡ range_with_len a n ++ (a + n) ∷ []
range_push a zero = let e : a ≡ a + 0 = omega arith in ap (λ (k : ℕ). k ∷ []) e
range_push a (suc n) =
    let e : suc n + 1 ≡ suc (n + 1) = omega arith in
    let f : a + 1 + n ≡ a + suc n = omega arith in
    ap (range_with_len a) e ∙ ap (λ l. a ∷ l) (range_push (a + 1) n) ∙ ap (λ (k : ℕ). a ∷
    (range_with_len (a + 1) n ++ k ∷ [])) f

module _ {X : Type 0} (f : ℕ → Option X) where
  -- one more of the first so many
  pub taken_more : (n : ℕ) (x : X) → f n ≡ Some x → filter_map f (range_with_len 0 (n + 1)) ≡ filter_map f
      (range_with_len 0 n) ++ x ∷ []
  taken_more n x e =
      let z : 0 + n ≡ n = omega arith in
      ap (filter_map f) (range_push 0 n) ∙ filter_map-append f (range_with_len 0 n) ((0 + n) ∷ [])
      ∙ ap (λ l. filter_map f (range_with_len 0 n) ++ l) (rw (z, e) refl)

  -- none of those behind
  pub none_more : (n m : ℕ) → ((k : ℕ) → n ≤ k → f k ≡ None) → filter_map f (range_with_len 0 (n + m)) ≡ filter_map f
      (range_with_len 0 n)
  none_more n zero none = let e : n + 0 ≡ n = omega arith in ap (λ (k : ℕ). filter_map f (range_with_len 0 k)) e
  none_more n (suc m) none =
      let e : n + suc m ≡ n + m + 1 = omega arith in
      let z : 0 + (n + m) ≡ n + m = omega arith in
      let nothing : f (n + m) ≡ None = none (n + m) (omega arith) in
      ap (λ (k : ℕ). filter_map f (range_with_len 0 k)) e
      ∙ ap (filter_map f) (range_push 0 (n + m)) ∙ filter_map-append f (range_with_len 0 (n + m)) ((0 + (n + m)) ∷ [])
      ∙ ap (λ l. filter_map f (range_with_len 0 (n + m)) ++ l) (rw (z, nothing) refl)
      ∙ append-nil (filter_map f (range_with_len 0 (n + m)))
      ∙ none_more n m none

-- one more slice, and its bytes
pub bytes_of-push : (slices : List (Bor (List ℕ))) (slice : Bor (List ℕ))
    → bytes_of (slices ++ slice ∷ []) ≡ bytes_of slices ++ slice.now ∷ []
bytes_of-push slices slice = map-append (λ (s : Bor (List ℕ)). s.now) slices (slice ∷ [])

-- a run's samples so far, and one more
pub sampled_more : (bytes before now : List (List ℕ)) (n : ℕ) (x : List ℕ)
    → now ≡ before ++ filter_map (λ number. slice_get bytes (number * 64)) (range_with_len 0 n)
    → slice_get bytes (n * 64) ≡ Some x → now ++ x ∷ [] ≡ before ++ filter_map
    (λ number. slice_get bytes (number * 64)) (range_with_len 0 (n + 1))
sampled_more bytes before now n x was e =
    let f = λ (number : ℕ). slice_get bytes (number * 64) in
    ap (λ l. l ++ x ∷ []) was ∙ append_assoc before (filter_map f (range_with_len 0 n)) (x ∷ [])
    ∙ ap (λ l. before ++ l) (sym (taken_more f n x e))

-- all samples of a run
pub sampled_all : (bytes : List (List ℕ)) (n : ℕ) → length bytes ≤ n * 64 → n ≤ length bytes
    → filter_map (λ number. slice_get bytes (number * 64)) (range_with_len 0 n) ≡ filter_map
    (λ number. slice_get bytes (number * 64)) (range_with_len 0 (length bytes))
sampled_all bytes n far near =
    let f = λ (number : ℕ). slice_get bytes (number * 64) in
    let e : n + (length bytes - n) ≡ length bytes = omega arith in
    sym (none_more f n (length bytes - n) (λ k h. slice_get_past bytes (k * 64) (omega arith)))
    ∙ ap (λ (k : ℕ). filter_map f (range_with_len 0 k)) e

-- ---- shares

pub share_within : (number parts size : ℕ) → number < parts → number * size / parts ≤ size
share_within number parts size h =
    let p : number * size ≤ parts * size = mul-le-mul_right size (omega arith) in
    let q : number * size < (size + 1) * parts = omega (arith, p, h) in
    let r = div_below (number * size) parts (size + 1) (omega arith) q in omega (arith, r)

pub share_below : (number parts size : ℕ) → number < parts → 0 < size → number * size / parts < size
share_below number parts size h some =
    let p : (number + 1) * size ≤ parts * size = mul-le-mul_right size (omega arith) in
    let q : number * size < size * parts = omega (arith, p, some) in
    div_below (number * size) parts size (omega arith) q

pub share_later : (a b parts size : ℕ) → a ≤ b → 0 < parts → a * size / parts ≤ b * size / parts
share_later a b parts size h some =
    let p : a * size ≤ b * size = mul-le-mul_right size h in
    let q = div-mul-le_self (a * size) parts in
    le-div (a * size / parts) (b * size) parts some (omega (arith, p, q))

pub product_fits : (number size : ℕ) → number < 2 ^ 32 → size < 2 ^ 64 → number * size < 2 ^ 128
product_fits number size p q =
    let r : number * size ≤ number * 2 ^ 64 = mul-le-mul_left number (omega arith) in omega (arith, r, p)

-- the cut with a number, as it was looked up
pub cut_found : (samples : List (List ℕ)) (parts number : ℕ) (cut : List ℕ)
    → slice_get samples (number * length samples / parts) ≡ Some cut → cut ≡ cut_at samples parts number
cut_found samples parts number cut e = sym (get_or_from_slice_get samples (number * length samples / parts) cut [] e)

-- cuts at later shares aren't below those at earlier ones
pub shares_ascend : (samples : List (List ℕ)) (parts : ℕ) (cuts : List (List ℕ)) → IsSorted bytes_cmp samples
    → AreAtShares samples parts cuts → IsSorted bytes_cmp cuts
shares_ascend samples parts cuts up at k d a b =
    let here = get_or_from_slice_get cuts k (cut_at samples parts (k + 1)) d (at.each k (omega arith)) in
    let there = get_or_from_slice_get cuts (k + 1) (cut_at samples parts (k + 1 + 1)) d (at.each (k + 1) b) in
    (λ i. is_lt (bytes_cmp (there i) (here i))) ∙ by_samples samples up (omega (arith, at.count, b))
  where
    by_samples : (xs : List (List ℕ)) → IsSorted bytes_cmp xs → k + 1 + 1 < parts
        → is_lt (bytes_cmp (cut_at xs parts (k + 1 + 1)) (cut_at xs parts (k + 1))) ≡ false
    by_samples [] vp h = refl
    by_samples (x ∷ xs) vp h =
        sorted_far (λ (v w : List ℕ). is_lt (bytes_cmp v w)) bytes_weak (x ∷ xs) vp
        ((k + 1) * length (x ∷ xs) / parts) ((k + 1 + 1) * length (x ∷ xs) / parts) []
        (share_later (k + 1) (k + 1 + 1) parts (length (x ∷ xs)) (omega arith) (omega arith))
        (share_below (k + 1 + 1) parts (length (x ∷ xs)) h (omega arith))

slice_get-push : {X : Type 0} (xs : List X) (x : X) (k : ℕ) → k < length xs
    → slice_get (xs ++ x ∷ []) k ≡ slice_get xs k
slice_get-push [] x k h = absurd (omega arith)
slice_get-push (y ∷ xs) x zero h = refl
slice_get-push (y ∷ xs) x (suc k) h = slice_get-push xs x k (omega arith)

slice_get-last : {X : Type 0} (xs : List X) (x : X) (k : ℕ) → k ≡ length xs → slice_get (xs ++ x ∷ []) k ≡ Some x
slice_get-last [] x zero h = refl
slice_get-last [] x (suc k) h = absurd (omega arith)
slice_get-last (y ∷ xs) x zero h = absurd (omega arith)
slice_get-last (y ∷ xs) x (suc k) h = slice_get-last xs x k (omega arith)

-- one more cut
pub cuts_more : (samples : List (List ℕ)) (parts : ℕ) (cuts : List (List ℕ)) (cut : List ℕ)
    → ((number : ℕ) → number < length cuts → slice_get cuts number ≡ Some (cut_at samples parts (number + 1)))
    → cut ≡ cut_at samples parts (length cuts + 1)
    → (number : ℕ) → number < length cuts + 1 → slice_get (cuts ++ cut ∷ []) number ≡ Some
    (cut_at samples parts (number + 1))
cuts_more samples parts cuts cut was is number h =
    elim (cases_order number (length cuts)) [
      | inl e ↦ slice_get-last cuts cut number e ∙ ap Some (is ∙ ap (λ (k : ℕ). cut_at samples parts (k + 1)) (sym e))
      | inr n ↦ let l : number < length cuts = omega (arith, h, n) in slice_get-push cuts cut number l ∙ was number l
    ]

-- slices in the order of their bytes
pub sorted_bytes : (slices : List (Bor (List ℕ))) → IsSorted (λ a b. bytes_cmp a.now b.now) slices
    → IsSorted bytes_cmp (bytes_of slices)
sorted_bytes [] up k d a b = absurd (omega arith)
sorted_bytes (slice ∷ slices) up k d a b =
    let long = length-map (slice ∷ slices) (λ (s : Bor (List ℕ)). s.now) in
    let next : k + 1 < length (slice ∷ slices) = omega (arith, long, b) in
    (λ i. is_lt (bytes_cmp (get_or-map (λ (s : Bor (List ℕ)). s.now) (slice ∷ slices) (k + 1) slice d next i)
    (get_or-map (λ (s : Bor (List ℕ)). s.now) (slice ∷ slices) k slice d (omega arith) i)))
    ∙ up k slice (omega arith) next
