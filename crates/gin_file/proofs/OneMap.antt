-- A file has one map at most.
use Rattle.std.proofs.Common.{◌≡◌, ℕ, List, [], ◌∷◌, true, refl, sym, subst, ◌∙◌, Some, inl, inr}
use Rattle.std.specs.List.{AllZip, flat_map}
use Rattle.pg_bytes.specs.declared.row_ptr.RowPtr.{RowPtr}
use Rattle.opclass.specs.declared.types.ColType.{ColType}
use Rattle.gin_entry.specs.declared.entry.Entry.{Entry}
use Rattle.gin_entry.specs.EntryMap.{Posting}
use Rattle.posting_tree.specs.PostingTree.{IsReadAs}
use Rattle.posting_tree.proofs.OneList.{readings-one}
use Rattle.gin_file.specs.Reading.{IsReadAsPostings, Tells}
use Rattle.gin_file.specs.declared.entry_reading.EntryItem.TheVariants as item
use Rattle.gin_file.proofs.OneItem.{one-item}

-- ---- what a tuple tells

lists-same : (one other : Entry) (pointers others : List RowPtr) → item.List one pointers ≡ item.List other others → (one ≡ other) × (pointers ≡ others)
lists-same one other pointers others same = (cc, cc)

trees-same : (one other : Entry) (root block : ℕ) → item.Tree one root ≡ item.Tree other block → (one ≡ other) × (root ≡ block)
trees-same one other root block same = (cc, cc)

list-no-tree : (one other : Entry) (pointers : List RowPtr) (root : ℕ) → item.List one pointers ≡ item.Tree other root → ⊥
list-no-tree one other pointers root same = cc

postings-same : (one other : Posting) → one.entry ≡ other.entry → one.pointers ≡ other.pointers → one ≡ other
postings-same one other entry pointers = λ i. record { entry = entry i; pointers = pointers i }

told-once : (kind : ColType) (file tuple : List ℕ) (one other : Posting) → Tells kind file tuple one → Tells kind file tuple other → one ≡ other
told-once kind file tuple one other (inl t) (inl u) =
    let same = lists-same one.entry other.entry one.pointers other.pointers
    (one-item kind true tuple (item.List one.entry one.pointers) (item.List other.entry other.pointers) t u) in
    postings-same one other same.0 same.1
told-once kind file tuple one other (inr (root, t, read)) (inr (block, u, again)) =
    let same = trees-same one.entry other.entry root block
    (one-item kind true tuple (item.Tree one.entry root) (item.Tree other.entry block) t u) in
    postings-same one other same.0
    (readings-one file block one.pointers other.pointers (subst (λ (r : ℕ). IsReadAs file r one.pointers) same.1 read) again)
told-once kind file tuple one other (inl t) (inr (block, u, again)) =
    absurd (list-no-tree one.entry other.entry one.pointers block
    (one-item kind true tuple (item.List one.entry one.pointers) (item.Tree other.entry block) t u))
told-once kind file tuple one other (inr (root, t, read)) (inl u) =
    absurd (list-no-tree other.entry one.entry other.pointers root
    (one-item kind true tuple (item.List other.entry other.pointers) (item.Tree one.entry root) u t))

all-told-once : (kind : ColType) (file : List ℕ) (tuples : List (List ℕ)) (one other : List Posting) → AllZip (Tells kind file) tuples one
    → AllZip (Tells kind file) tuples other → one ≡ other
all-told-once kind file [] [] [] a b = refl
all-told-once kind file [] [] (posting ∷ other) a b = absurd b
all-told-once kind file [] (posting ∷ one) other a b = absurd a
all-told-once kind file (tuple ∷ tuples) [] other a b = absurd a
all-told-once kind file (tuple ∷ tuples) (posting ∷ one) [] a b = absurd b
all-told-once kind file (tuple ∷ tuples) (posting ∷ one) (next ∷ other) a b =
    let first = told-once kind file tuple posting next a.0 b.0 in
    let rest = all-told-once kind file tuples one other a.1 b.1 in
    λ i. first i ∷ rest i

-- ---- the file

leaves-same : (a b : List (List (List ℕ))) → Some a ≡ Some b → a ≡ b
leaves-same a b same = cc

pub map-once : (kind : ColType) (file : List ℕ) (one other : List Posting) → IsReadAsPostings kind file one → IsReadAsPostings kind file other → one ≡ other
map-once kind file one other a b =
    let leaves : a.leaves ≡ b.leaves = leaves-same a.leaves b.leaves (sym a.found ∙ b.found) in
    all-told-once kind file (flat_map (λ tuples. tuples) b.leaves) one other
    (subst (λ (l : List (List (List ℕ))). AllZip (Tells kind file) (flat_map (λ tuples. tuples) l) one) leaves a.told) b.told
