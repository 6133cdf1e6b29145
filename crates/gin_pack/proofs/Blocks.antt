-- Blocks of a file that grows, and what stands in it.
use Rattle.std.proofs.Common.{◌≡◌, ◌≢◌, ℕ, zero, suc, ◌+◌, ◌-◌, ◌*◌, ◌<◌, ◌≤◌, List, [], ◌∷◌, ◌++◌, length, take, drop, refl, sym, ap, subst, ◌∙◌, add-one, arith, length-append}
use Rattle.std.specs.Prelude.{map}
use Rattle.std.specs.List.{AllByRecursion, flat_map, range_with_len}
use Rattle.std.proofs.lemmas.List.{append_assoc, append-nil, drop-append-le, drop-drop, drop_at, length-drop, length-take-le, take-append-le, take_at}
use Rattle.std.proofs.lemmas.List.Concat.{flat_map-cons}
use Rattle.std.proofs.Math.Seq.{drop-append-add}
use Rattle.pg_bytes.specs.Blocks.{block_at}
use Rattle.pg_bytes.specs.Image.{filled_up, placed}
use Rattle.pg_bytes.specs.Places.{written, zeros}
use Rattle.posting_tree.specs.Levels.{Node}
use Rattle.posting_tree.specs.Reading.{StandIn}

-- ---- one block

-- the block behind others
pub block-behind : (block : ℕ) (old page rest : List ℕ) → length old ≡ block * 8192 → length page ≡ 8192 → block_at block (old ++ (page ++ rest)) ≡ page
unfolding block_at
block-behind block old page rest here size =
    ap (take 8192) (drop_at old (page ++ rest) (8192 * block) (omega (arith, here))) ∙ take_at page rest 8192 size

-- a block stays when more come
pub block-kept : (block : ℕ) (old more : List ℕ) → suc block * 8192 ≤ length old → block_at block (old ++ more) ≡ block_at block old
unfolding block_at
block-kept block old more inside =
    ap (take 8192) (drop-append-le (8192 * block) old more (omega arith))
    ∙ take-append-le 8192 (drop (8192 * block) old) more (let l = length-drop (8192 * block) old in omega arith)

-- ---- nodes

pub all-append : {X : Type 0} (P : X → Type 0) (xs ys : List X) → AllByRecursion P xs → AllByRecursion P ys → AllByRecursion P (xs ++ ys)
all-append P [] ys all more = more
all-append P (x ∷ xs) ys all more = (all.0, all-append P xs ys all.1 more)

-- nodes have the size of pages
abbrev pub AreSized : List Node → Type 0
AreSized nodes = AllByRecursion (λ node. length node.bytes ≡ 8192) nodes

-- their blocks follow one another from one on
abbrev pub FollowFrom : ℕ → List Node → Type 0
FollowFrom block [] = Unit {0}
FollowFrom block (node ∷ nodes) = (node.block ≡ block) × FollowFrom (suc block) nodes

abbrev pub bytes_of : List Node → List ℕ
bytes_of nodes = flat_map (λ node. node.bytes) nodes

-- the blocks of nodes that follow one another
pub follow-blocks : (block : ℕ) (nodes : List Node) → FollowFrom block nodes → map (λ node. node.block) nodes ≡ range_with_len block (length nodes)
follow-blocks block [] follow = refl
follow-blocks block (node ∷ nodes) follow =
    ap (λ (b : ℕ). b ∷ map (λ (n : Node). n.block) nodes) follow.0
    ∙ ap (λ (l : List ℕ). block ∷ l) (follow-blocks (suc block) nodes follow.1)
    ∙ ap (λ (b : ℕ). block ∷ range_with_len b (length nodes)) (sym (add-one block))

-- numbers and those behind them
pub range-append : (from some more : ℕ) → range_with_len from some ++ range_with_len (from + some) more ≡ range_with_len from (some + more)
range-append from zero more =
    ap (λ (n : ℕ). range_with_len n more) (let e : from + 0 ≡ from = omega arith in e)
    ∙ ap (range_with_len from) (let e : more ≡ 0 + more = omega arith in e)
range-append from (suc some) more =
    ap (λ (n : ℕ). from ∷ (range_with_len (from + 1) some ++ range_with_len n more)) (let e : from + suc some ≡ from + 1 + some = omega arith in e)
    ∙ ap (λ (l : List ℕ). from ∷ l) (range-append (from + 1) some more)
    ∙ ap (range_with_len from) (let e : suc (some + more) ≡ suc some + more = omega arith in e)

pub length-bytes_of : (nodes : List Node) → AreSized nodes → length (bytes_of nodes) ≡ length nodes * 8192
length-bytes_of [] sized = refl
length-bytes_of (node ∷ nodes) sized =
    let size = sized.0 in
    let rest = length-bytes_of nodes sized.1 in
    let both = length-append node.bytes (bytes_of nodes) in
    ap length (flat_map-cons (λ (n : Node). n.bytes) node nodes) ∙ omega arith

-- nodes on the blocks behind a file stand there
pub stand-behind : (block : ℕ) (old : List ℕ) (nodes : List Node) (rest : List ℕ) → length old ≡ block * 8192 → FollowFrom block nodes → AreSized nodes
    → StandIn (old ++ (bytes_of nodes ++ rest)) nodes
stand-behind block old [] rest here follow sized = tt
stand-behind block old (node ∷ nodes) rest here follow sized =
    let size = sized.0 in
    let both = length-append old node.bytes in
    let regrouped : old ++ (bytes_of (node ∷ nodes) ++ rest) ≡ (old ++ node.bytes) ++ (bytes_of nodes ++ rest) =
    ap (λ (l : List ℕ). old ++ (l ++ rest)) (flat_map-cons (λ (n : Node). n.bytes) node nodes)
    ∙ ap (λ (l : List ℕ). old ++ l) (append_assoc node.bytes (bytes_of nodes) rest)
    ∙ sym (append_assoc old node.bytes (bytes_of nodes ++ rest)) in (
      ap (λ (b : ℕ). block_at b (old ++ (bytes_of (node ∷ nodes) ++ rest))) follow.0
          ∙ ap (block_at block) (regrouped ∙ append_assoc old node.bytes (bytes_of nodes ++ rest))
          ∙ block-behind block old node.bytes (bytes_of nodes ++ rest) here size,
      subst (λ (file : List ℕ). StandIn file nodes) (sym regrouped)
          (stand-behind (suc block) (old ++ node.bytes) nodes rest (omega arith) follow.1 sized.1),
    )

-- nodes stand where their blocks are the same
pub stand-kept : (old new : List ℕ) (nodes : List Node) → AllByRecursion (λ node. block_at node.block new ≡ block_at node.block old) nodes
    → StandIn old nodes → StandIn new nodes
stand-kept old new [] same stand = tt
stand-kept old new (node ∷ nodes) same stand = (same.0 ∙ stand.0, stand-kept old new nodes same.1 stand.1)

-- what holds of each block from one on below another holds of nodes there
pub each-block : (P : ℕ → Type 0) (block : ℕ) (nodes : List Node) → FollowFrom block nodes
    → ((b : ℕ) → block ≤ b → b < block + length nodes → P b) → AllByRecursion (λ node. P node.block) nodes
each-block P block [] follow holds = tt
each-block P block (node ∷ nodes) follow holds = (
  subst P (sym follow.0) (holds block (omega arith) (omega arith)),
  each-block P (suc block) nodes follow.1 (λ b from below. holds b (omega arith) (omega arith)),
)

-- what holds of each node on a block from one on below another
pub each-node : (P : Node → Type 0) (block : ℕ) (nodes : List Node) → FollowFrom block nodes
    → ((b : ℕ) → (bytes : List ℕ) → block ≤ b → b < block + length nodes → P (record { block = b; bytes = bytes })) → AllByRecursion P nodes
each-node P block [] follow holds = tt
each-node P block (node ∷ nodes) follow holds = (
  subst (λ (b : ℕ). P (record { block = b; bytes = node.bytes })) (sym follow.0) (holds block node.bytes (omega arith) (omega arith)),
  each-node P (suc block) nodes follow.1 (λ b bytes from below. holds b bytes (omega arith) (omega arith)),
)

-- ---- the meta page's block, which was left for it

pub meta-placed : (page old : List ℕ) → length page ≡ 8192 → 8192 ≤ length old → placed 0 page old ≡ page ++ drop 8192 old
unfolding placed written zeros
meta-placed page old size begun =
    let none : 0 * 8192 - length old ≡ 0 = omega arith in
    let whole : filled_up (0 * 8192) old ≡ old = ap (λ (n : ℕ). old ++ zeros n) none ∙ append-nil old in
    ap (written page (0 * 8192)) whole
    ∙ ap (λ (n : ℕ). page ++ drop n old) (let e : 0 * 8192 + length page ≡ 8192 = omega arith in e)

pub length-meta-placed : (page old : List ℕ) → length page ≡ 8192 → 8192 ≤ length old → length (page ++ drop 8192 old) ≡ length old
length-meta-placed page old size begun =
    let a = length-append page (drop 8192 old) in
    let d = length-drop 8192 old in
    omega arith

pub meta-stands : (page old : List ℕ) → length page ≡ 8192 → block_at 0 (page ++ drop 8192 old) ≡ page
meta-stands page old size = block-behind 0 [] page (drop 8192 old) refl size

pub behind-meta-kept : (page old : List ℕ) (block : ℕ) → length page ≡ 8192 → 1 ≤ block → block_at block (page ++ drop 8192 old) ≡ block_at block old
unfolding block_at
behind-meta-kept page old zero size from = absurd (omega arith)
behind-meta-kept page old (suc block) size from =
    ap (λ (n : ℕ). take 8192 (drop n (page ++ drop 8192 old))) (let e : 8192 * suc block ≡ length page + 8192 * block = omega arith in e)
    ∙ ap (take 8192) (drop-append-add page (drop 8192 old) (8192 * block)
    ∙ drop-drop (8192 * block) 8192 old
    ∙ ap (λ (n : ℕ). drop n old) (let e : 8192 + 8192 * block ≡ 8192 * suc block = omega arith in e))

-- ---- the root's block, which was left for it

pub root-placed : (page old : List ℕ) → length page ≡ 8192 → 16384 ≤ length old → placed 1 page old ≡ take 8192 old ++ (page ++ drop 16384 old)
unfolding placed written zeros
root-placed page old size begun =
    let none : 1 * 8192 - length old ≡ 0 = omega arith in
    let whole : filled_up (1 * 8192) old ≡ old = ap (λ (n : ℕ). old ++ zeros n) none ∙ append-nil old in
    ap (written page (1 * 8192)) whole
    ∙ ap (λ (n : ℕ). take 8192 old ++ (page ++ drop n old)) (let e : 1 * 8192 + length page ≡ 16384 = omega arith in e)

pub length-root-placed : (page old : List ℕ) → length page ≡ 8192 → 16384 ≤ length old → length (take 8192 old ++ (page ++ drop 16384 old)) ≡ length old
length-root-placed page old size begun =
    let a = length-append (take 8192 old) (page ++ drop 16384 old) in
    let b = length-append page (drop 16384 old) in
    let t = length-take-le 8192 old (omega arith) in
    let d = length-drop 16384 old in
    omega arith

pub root-stands : (page old : List ℕ) → length page ≡ 8192 → 16384 ≤ length old → block_at 1 (take 8192 old ++ (page ++ drop 16384 old)) ≡ page
root-stands page old size begun =
    block-behind 1 (take 8192 old) page (drop 16384 old) (length-take-le 8192 old (omega arith)) size

-- the other blocks stay
pub others-kept : (page old : List ℕ) (block : ℕ) → length page ≡ 8192 → 16384 ≤ length old → block ≢ 1 → suc block * 8192 ≤ length old
    → block_at block (take 8192 old ++ (page ++ drop 16384 old)) ≡ block_at block old
unfolding block_at
others-kept page old zero size begun other inside =
    let t = length-take-le 8192 old (omega arith) in
    ap (take 8192) refl
    ∙ take_at (take 8192 old) (page ++ drop 16384 old) 8192 t
others-kept page old (suc zero) size begun other inside = absurd (other refl)
others-kept page old (suc (suc block)) size begun other inside =
    let t = length-take-le 8192 old (omega arith) in
    let front : List ℕ = take 8192 old ++ page in
    let both = length-append (take 8192 old) page in
    let place : 8192 * suc (suc block) ≡ length front + 8192 * block = omega arith in
    ap (λ (l : List ℕ). take 8192 (drop (8192 * suc (suc block)) l)) (sym (append_assoc (take 8192 old) page (drop 16384 old)))
    ∙ ap (λ (n : ℕ). take 8192 (drop n (front ++ drop 16384 old))) place
    ∙ ap (take 8192) (drop-append-add front (drop 16384 old) (8192 * block)
    ∙ drop-drop (8192 * block) 16384 old
    ∙ ap (λ (n : ℕ). drop n old) (let e : 16384 + 8192 * block ≡ 8192 * suc (suc block) = omega arith in e))
