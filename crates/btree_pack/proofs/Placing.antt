-- Pages placed into an image, each at its block.
use Rattle.std.proofs.Common.{◌≡◌, ℕ, zero, suc, ◌+◌, ◌-◌, ◌*◌, ◌<◌, ◌≤◌, Bool, true, false, cond, List, [], ◌∷◌, ◌++◌, length, map, take, drop, refl, sym, ap, ◌∙◌, arith, length-append}
use Rattle.std.proofs.lemmas.Bool.Decides.{nat_tests}
use Rattle.std.proofs.lemmas.List.{append_assoc, take_at, drop_at, length-take-le, length-drop, take-append-drop, take-append-le, drop-append-le, drop-drop}
use Rattle.std.proofs.lemmas.List.Sums.{sum_by-cons}
use Rattle.std.proofs.lemmas.List.Sorted.{sum_by-IsPermutation}
use Rattle.std.specs.List.{count_by, range_with_len}
use Rattle.std.specs.List.Sorted.{IsPermutation}
use Rattle.std.specs.Prelude.{All, nat_eq, ◌⊎◌}
use Rattle.std.proofs.Common.{inl, inr}
use Rattle.std.proofs.lemmas.List.Elements.{All-cons}
use Rattle.pg_bytes.proofs.Writes.{length-zeros}
use Rattle.pg_bytes.specs.Blocks.{block_at}
use Rattle.pg_bytes.specs.Image.{filled_up, placed}
use Rattle.pg_bytes.specs.Places.{written, zeros}
use Rattle.btree_pack.specs.Nodes.{Node}
use Rattle.btree_pack.specs.Pass.Emission.{with_nodes}

-- a part of bytes
part : ℕ → List ℕ → List ℕ
part start bytes = take 8192 (drop start bytes)

part-front : (start : ℕ) (front back : List ℕ) → start + 8192 ≤ length front → part start (front ++ back) ≡ part start front
unfolding part
part-front start front back inside =
    let left = length-drop start front in
    ap (take 8192) (drop-append-le start front back (omega arith)) ∙ take-append-le 8192 (drop start front) back (omega arith)

part-back : (start more : ℕ) (front back : List ℕ) → start ≡ length front + more → part start (front ++ back) ≡ part more back
unfolding part
part-back start more front back is =
    let none : drop (length front) (front ++ back) ≡ back = drop_at front back (length front) refl in
    ap (take 8192)
    (ap (λ (n : ℕ). drop n (front ++ back)) (let e : start ≡ length front + more = omega arith in e)
    ∙ sym (drop-drop more (length front) (front ++ back)) ∙ ap (drop more) none)

module _ (number : ℕ) (page image : List ℕ) (size : length page ≡ 8192) where
  whole : List ℕ
  whole = filled_up (number * 8192) image

  length-whole : (number * 8192 ≤ length whole) × (length image ≤ length whole) × (length whole ≤ length image ⊎ length whole ≤ number * 8192)
  unfolding whole
  length-whole =
      let parts = length-append image (zeros (number * 8192 - length image)) in
      let none = length-zeros (number * 8192 - length image) in
      (omega arith, omega arith, cases (number * 8192 - length image) refl)
    where
      cases : (n : ℕ) → number * 8192 - length image ≡ n → (length (image ++ zeros (number * 8192 - length image)) ≤ length image) ⊎ (length (image ++ zeros (number * 8192 - length image)) ≤ number * 8192)
      cases zero is =
          let parts = length-append image (zeros (number * 8192 - length image)) in
          let none = length-zeros (number * 8192 - length image) in
          inl (omega arith)
      cases (suc n) is =
          let parts = length-append image (zeros (number * 8192 - length image)) in
          let none = length-zeros (number * 8192 - length image) in
          inr (omega arith)

  front : List ℕ
  front = take (number * 8192) whole

  back : List ℕ
  back = drop (number * 8192 + length page) whole

  placed-is : placed number page image ≡ front ++ (page ++ back)
  unfolding placed written whole front back
  placed-is = refl

  length-front : length front ≡ number * 8192
  unfolding front
  length-front = let l = length-whole.0 in length-take-le (number * 8192) whole (omega arith)

  length-back : length back ≡ length whole - (number * 8192 + 8192)
  unfolding back
  length-back = length-drop (number * 8192 + length page) whole ∙ ap (λ (n : ℕ). length whole - (number * 8192 + n)) size

  length-placed : length (placed number page image) ≡ number * 8192 + 8192 + (length whole - (number * 8192 + 8192))
  length-placed =
      let a = length-append front (page ++ back) in
      let b = length-append page back in
      let c = length-front in
      let d = length-back in
      ap length placed-is ∙ omega arith

  pub placed-room : (number + 1) * 8192 ≤ length (placed number page image)
  placed-room = let l = length-placed in omega arith

  pub placed-keeps : length image ≤ length (placed number page image)
  placed-keeps = let l = length-placed in let w = length-whole.1 in omega arith

  pub placed-most : (most : ℕ) → length image ≤ most → (number + 1) * 8192 ≤ most → length (placed number page image) ≤ most
  placed-most most fits small = let l = length-placed in let w = length-whole.2 in omega arith

  pub block-placed : block_at number (placed number page image) ≡ page
  unfolding block_at
  block-placed =
      ap (λ l. take 8192 (drop (8192 * number) l)) placed-is
      ∙ ap (λ (n : ℕ). take 8192 (drop n (front ++ (page ++ back)))) (let e : 8192 * number ≡ number * 8192 = omega arith in e)
      ∙ ap (take 8192) (drop_at front (page ++ back) (number * 8192) length-front)
      ∙ take_at page back 8192 size

  -- another block is as it was
  pub block-other : (block : ℕ) → (block ≡ number → ⊥) → (block + 1) * 8192 ≤ length image → block_at block (placed number page image) ≡ block_at block image
  unfolding block_at part whole front back
  block-other block other inside =
      let start : ℕ = 8192 * block in
      let long = length-whole in
      let was : part start whole ≡ part start image = part-front start image (zeros (number * 8192 - length image)) (omega arith) in
      ap (part start) placed-is ∙ go (cases block number other) ∙ was
    where
      cases : (a b : ℕ) → (a ≡ b → ⊥) → (a < b) ⊎ (b < a)
      cases zero zero other = absurd (other refl)
      cases zero (suc b) other = inl (omega arith)
      cases (suc a) zero other = inr (omega arith)
      cases (suc a) (suc b) other = next (cases a b (λ e. other (ap suc e)))
        where
          next : (a < b) ⊎ (b < a) → (suc a < suc b) ⊎ (suc b < suc a)
          next (inl l) = inl (omega arith)
          next (inr l) = inr (omega arith)

      go : (block < number) ⊎ (number < block) → part (8192 * block) (front ++ (page ++ back)) ≡ part (8192 * block) whole
      go (inl less) =
          let l = length-front in
          let split : whole ≡ front ++ drop (number * 8192) whole = sym (take-append-drop (number * 8192) whole) in
          part-front (8192 * block) front (page ++ back) (omega arith)
          ∙ sym (ap (part (8192 * block)) split ∙ part-front (8192 * block) front (drop (number * 8192) whole) (omega arith))
      go (inr more) =
          let l = length-front in
          let w = length-whole in
          let at : ℕ = number * 8192 + length page in
          let first = length-append front page in
          let under = length-take-le at whole (omega arith) in
          let split : whole ≡ take at whole ++ back = sym (take-append-drop at whole) in
          let rest : ℕ = 8192 * block - at in
          ap (part (8192 * block)) (sym (append_assoc front page back))
          ∙ part-back (8192 * block) rest (front ++ page) back (omega arith)
          ∙ sym (ap (part (8192 * block)) split ∙ part-back (8192 * block) rest (take at whole) back (omega arith))

-- ---- many pages

abbrev pub ArePages : List Node → Type 0
ArePages nodes = All (λ node. length node.bytes ≡ 8192) nodes

abbrev pub Distinct : List Node → Type 0
Distinct [] = Unit {0}
Distinct (node ∷ nodes) = All (λ other. other.block ≡ node.block → ⊥) nodes × Distinct nodes

head-of : {X : Type 0} (P : X → Type 0) (x : X) (xs : List X) → All P (x ∷ xs) → P x
head-of P x xs all = all 0 x (omega arith)

tail-of : {X : Type 0} (P : X → Type 0) (x : X) (xs : List X) → All P (x ∷ xs) → All P xs
tail-of P x xs all = λ k d inside. all (suc k) d (omega arith)

-- a block that none of these has stays
kept : (nodes : List Node) (image : List ℕ) (block : ℕ) → ArePages nodes → All (λ other. other.block ≡ block → ⊥) nodes
    → (block + 1) * 8192 ≤ length image
    → (block_at block (with_nodes nodes image) ≡ block_at block image) × ((block + 1) * 8192 ≤ length (with_nodes nodes image))
kept [] image block pages apart inside = (refl, inside)
kept (node ∷ nodes) image block pages apart inside =
    let size = head-of (λ (n : Node). length n.bytes ≡ 8192) node nodes pages in
    let other = head-of (λ (n : Node). n.block ≡ block → ⊥) node nodes apart in
    let keeps = placed-keeps node.block node.bytes image size in
    let rest = kept nodes (placed node.block node.bytes image) block (tail-of (λ (n : Node). length n.bytes ≡ 8192) node nodes pages)
    (tail-of (λ (n : Node). n.block ≡ block → ⊥) node nodes apart) (omega arith) in
    (rest.0 ∙ block-other node.block node.bytes image size block (λ e. other (sym e)) inside, rest.1)

-- each stands at its block, inside the image
pub all-placed : (nodes : List Node) (image : List ℕ) → ArePages nodes → Distinct nodes
    → All (λ node. (block_at node.block (with_nodes nodes image) ≡ node.bytes) × ((node.block + 1) * 8192 ≤ length (with_nodes nodes image))) nodes
all-placed [] image pages apart = λ k d inside. absurd (omega arith)
all-placed (node ∷ nodes) image pages apart =
    let size = head-of (λ (n : Node). length n.bytes ≡ 8192) node nodes pages in
    let rest_pages = tail-of (λ (n : Node). length n.bytes ≡ 8192) node nodes pages in
    let now = placed node.block node.bytes image in
    let stays = kept nodes now node.block rest_pages apart.0 (placed-room node.block node.bytes image size) in
    All-cons (λ (n : Node). (block_at n.block (with_nodes nodes now) ≡ n.bytes) × ((n.block + 1) * 8192 ≤ length (with_nodes nodes now))) node nodes
    (stays.0 ∙ block-placed node.block node.bytes image size, stays.1) (all-placed nodes now rest_pages apart.1)

pub most-placed : (nodes : List Node) (image : List ℕ) (most : ℕ) → ArePages nodes → All (λ node. (node.block + 1) * 8192 ≤ most) nodes
    → length image ≤ most → length (with_nodes nodes image) ≤ most
most-placed [] image most pages small fits = fits
most-placed (node ∷ nodes) image most pages small fits =
    let size = head-of (λ (n : Node). length n.bytes ≡ 8192) node nodes pages in
    most-placed nodes (placed node.block node.bytes image) most (tail-of (λ (n : Node). length n.bytes ≡ 8192) node nodes pages)
    (tail-of (λ (n : Node). (n.block + 1) * 8192 ≤ most) node nodes small)
    (placed-most node.block node.bytes image size most fits (head-of (λ (n : Node). (n.block + 1) * 8192 ≤ most) node nodes small))

-- ---- blocks that are numbered through are apart

times : ℕ → List ℕ → ℕ
times k xs = count_by (λ x. nat_eq x k) xs

times-cons : (k x : ℕ) (xs : List ℕ) → times k (x ∷ xs) ≡ cond (nat_eq x k) 1 0 + times k xs
unfolding times
times-cons k x xs = sum_by-cons (λ x. cond (nat_eq x k) 1 0) x xs

times-nothing : (k : ℕ) → times k [] ≡ 0
unfolding times
times-nothing k = refl

times-below : (k from count : ℕ) → k < from → times k (range_with_len from count) ≡ 0
times-below k from zero below = times-nothing k
times-below k from (suc count) below =
    let rest = times-below k (from + 1) count (omega arith) in
    let first = times-cons k from (range_with_len (from + 1) count) in
    let test : nat_eq from k ≡ false = grind (arith, nat_tests) in
    first ∙ ap (λ t. cond t 1 0 + times k (range_with_len (from + 1) count)) test ∙ omega arith

times-range : (k from count : ℕ) → times k (range_with_len from count) ≤ 1
times-range k from zero = let e = times-nothing k in omega arith
times-range k from (suc count) = go (nat_eq from k) refl (times-range k (from + 1) count)
  where
    go : (t : Bool) → nat_eq from k ≡ t → times k (range_with_len (from + 1) count) ≤ 1 → times k (from ∷ range_with_len (from + 1) count) ≤ 1
    go true is rest' =
        let first = times-cons k from (range_with_len (from + 1) count) in
        let one : ◌≡◌ {A = ℕ} (cond (nat_eq from k) 1 0) 1 = ap (λ t. cond t 1 0) is in
        let same : from ≡ k = grind (arith, nat_tests) in
        let rest = times-below k (from + 1) count (omega arith) in
        omega arith
    go false is rest =
        let first = times-cons k from (range_with_len (from + 1) count) in
        let nought : ◌≡◌ {A = ℕ} (cond (nat_eq from k) 1 0) 0 = ap (λ t. cond t 1 0) is in
        omega arith

none-among : (k : ℕ) (nodes : List Node) → times k (map (λ node. node.block) nodes) ≡ 0 → All (λ other. other.block ≡ k → ⊥) nodes
none-among k [] none = λ i d inside. absurd (omega arith)
none-among k (node ∷ nodes) none =
    let parts = times-cons k node.block (map (λ node. node.block) nodes) in
    All-cons (λ (other : Node). other.block ≡ k → ⊥) node nodes
    (λ same.
    let test : nat_eq node.block k ≡ true = grind (arith, nat_tests) in
    let one : ◌≡◌ {A = ℕ} (cond (nat_eq node.block k) 1 0) 1 = ap (λ t. cond t 1 0) test in
    absurd (omega arith))
    (none-among k nodes (omega arith))

apart-once : (nodes : List Node) → ((k : ℕ) → times k (map (λ node. node.block) nodes) ≤ 1) → Distinct nodes
apart-once [] once = tt
apart-once (node ∷ nodes) once =
    let here = once node.block in
    let parts = times-cons node.block node.block (map (λ node. node.block) nodes) in
    let test : nat_eq node.block node.block ≡ true = grind (arith, nat_tests) in
    let one : ◌≡◌ {A = ℕ} (cond (nat_eq node.block node.block) 1 0) 1 = ap (λ t. cond t 1 0) test in (
      none-among node.block nodes (omega arith),
      apart-once nodes (λ k.
          let all = once k in
          let parts = times-cons k node.block (map (λ node. node.block) nodes) in
          omega arith),
    )

pub distinct-numbered : (nodes : List Node) (from count : ℕ) → IsPermutation (map (λ node. node.block) nodes) (range_with_len from count) → Distinct nodes
unfolding times
distinct-numbered nodes from count same =
    apart-once nodes (λ k.
    let e = sum_by-IsPermutation (λ x. cond (nat_eq x k) 1 0) (map (λ node. node.block) nodes) (range_with_len from count) same in
    let few = times-range k from count in
    omega arith)
