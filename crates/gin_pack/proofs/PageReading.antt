-- What is read of a page of the entry tree: its right link, its flags, and its tuples in their order.
use Rattle.std.proofs.Common.{◌≡◌, ℕ, ◌+◌, ◌*◌, ◌/◌, ◌%◌, ◌<◌, ◌^◌, List, [], ◌∷◌, ◌++◌, refl, ap, ◌∙◌, arith, length-append, inl}
use Rattle.std.proofs.lemmas.List.{append_assoc, append-nil}
use Rattle.pg_bytes.proofs.ItemPage.{number_at-first, number_at-past}
use Rattle.pg_bytes.proofs.ItemReading.{items-read}
use Rattle.pg_bytes.proofs.Writes.{length-number_bytes}
use Rattle.pg_bytes.specs.Lines.{items_on}
use Rattle.pg_bytes.specs.Numbers.{number_at, number_bytes}
use Rattle.pg_bytes.specs.Pointers.{row_pointer_at, row_pointer_bytes}
use Rattle.pg_bytes.specs.declared.row_ptr.RowPtr.{RowPtr}
use Rattle.opclass.specs.declared.types.ColType.{ColType}
use Rattle.gin_entry.specs.declared.entry.Entry.{Entry}
use Rattle.posting_tree.specs.Levels.{Downlink}
use Rattle.posting_tree.specs.Reading.Sight.{SeenInner, SeenLeaf}
use Rattle.posting_tree.specs.Special.{flags_of, leaf_flag, right_of, special_space}
use Rattle.gin_file.specs.EntryTree.{entry_page, entry_sight, inner_flags}
use Rattle.gin_file.specs.EntryTuple.{inner_tuple}
use Rattle.gin_pack.specs.Pass.Placing.{HaveRoom}
use Rattle.gin_file.proofs.SpecialSpaces.{length-special_space}
use Rattle.gin_pack.proofs.PageParts.{front_of, length-front_of, page-parts}
use Rattle.gin_pack.proofs.Placings.{leading-parts, rest_of}

-- ---- a page

tuples-read : (flags right : ℕ) (tuples : List (List ℕ)) → HaveRoom tuples → items_on (entry_page flags right tuples) ≡ tuples
tuples-read flags right tuples room =
    let size = length-special_space right 0 flags in
    let read = items-read (special_space right 0 flags) tuples (record { special_size = inl size; room = omega arith }) in
    read.all

right_of-page : (flags right : ℕ) (tuples : List (List ℕ)) → HaveRoom tuples → right < 2 ^ 32 → right_of (entry_page flags right tuples) ≡ right
unfolding special_space
right_of-page flags right tuples room fits =
    ap (λ (p : List ℕ). number_at 4 p 8184) (page-parts (special_space right 0 flags) tuples (length-special_space right 0 flags))
    ∙ number_at-past 4 (front_of tuples) (special_space right 0 flags) 8184 (length-front_of tuples room)
    ∙ number_at-first 4 right (number_bytes 2 0 ++ number_bytes 2 flags) fits

flags_of-page : (flags right : ℕ) (tuples : List (List ℕ)) → HaveRoom tuples → flags < 2 ^ 16 → flags_of (entry_page flags right tuples) ≡ flags
unfolding special_space
flags_of-page flags right tuples room fits =
    let front : List ℕ = (front_of tuples ++ number_bytes 4 right) ++ number_bytes 2 0 in
    let a = length-append (front_of tuples ++ number_bytes 4 right) (number_bytes 2 0) in
    let b = length-append (front_of tuples) (number_bytes 4 right) in
    let f = length-front_of tuples room in
    let four = length-number_bytes 4 right in
    let two = length-number_bytes 2 0 in
    let split : front_of tuples ++ (number_bytes 4 right ++ (number_bytes 2 0 ++ number_bytes 2 flags)) ≡ front ++ (number_bytes 2 flags ++ []) = simp (append_assoc, append-nil) in
    ap (λ (p : List ℕ). number_at 2 p 8190) (page-parts (special_space right 0 flags) tuples (length-special_space right 0 flags))
    ∙ ap (λ (p : List ℕ). number_at 2 p 8190) split
    ∙ number_at-past 2 front (number_bytes 2 flags ++ []) 8190 (omega arith)
    ∙ number_at-first 2 flags [] fits

pub leaf-seen : (right : ℕ) (tuples : List (List ℕ)) → HaveRoom tuples → right < 2 ^ 32 → entry_sight (entry_page leaf_flag right tuples) ≡ SeenLeaf right tuples
unfolding entry_sight
leaf-seen right tuples room fits =
    let flags = flags_of-page leaf_flag right tuples room (omega arith) in
    let link = right_of-page leaf_flag right tuples room fits in
    let are = tuples-read leaf_flag right tuples room in
    rw (flags, link, are) refl

-- the block to which a tuple leads
child-read : (kind : ColType) (link : Downlink Entry) → link.child < 2 ^ 32 → (row_pointer_at (inner_tuple kind link) 0).block ≡ link.child
unfolding row_pointer_bytes
child-read kind link fits =
    let pointer : RowPtr = record { block = link.child; offset = 0 } in
    let high : List ℕ = number_bytes 2 (link.child / 2 ^ 16) in
    let low : List ℕ = number_bytes 2 (link.child % 2 ^ 16) in
    let rest : List ℕ = number_bytes 2 0 ++ rest_of kind link.key in
    let two = length-number_bytes 2 (link.child / 2 ^ 16) in
    let is : inner_tuple kind link ≡ high ++ (low ++ rest) = leading-parts kind link.key pointer ∙ simp append_assoc in
    let one : number_at 2 (inner_tuple kind link) 0 ≡ link.child / 2 ^ 16 =
    ap (λ (t : List ℕ). number_at 2 t 0) is ∙ number_at-first 2 (link.child / 2 ^ 16) (low ++ rest) (omega arith) in
    let other : number_at 2 (inner_tuple kind link) (0 + 2) ≡ link.child % 2 ^ 16 =
    ap (λ (t : List ℕ). number_at 2 t (0 + 2)) is ∙ number_at-past 2 high (low ++ rest) (0 + 2) (omega arith) ∙ number_at-first 2 (link.child % 2 ^ 16) rest (omega arith) in
    ap (λ (n : ℕ). n * 2 ^ 16 + number_at 2 (inner_tuple kind link) (0 + 2)) one
    ∙ ap (λ (n : ℕ). link.child / 2 ^ 16 * 2 ^ 16 + n) other
    ∙ omega arith

pub inner-seen : (kind : ColType) (right : ℕ) (link : Downlink Entry) (tuples : List (List ℕ)) → HaveRoom (inner_tuple kind link ∷ tuples) → link.child < 2 ^ 32
    → entry_sight (entry_page inner_flags right (inner_tuple kind link ∷ tuples)) ≡ SeenInner link.child
unfolding entry_sight
inner-seen kind right link tuples room fits =
    let all : List (List ℕ) = inner_tuple kind link ∷ tuples in
    let flags = flags_of-page inner_flags right all room (omega arith) in
    let are = tuples-read inner_flags right all room in
    let child = child-read kind link fits in
    rw (flags, are) (ap (λ (b : ℕ). SeenInner b) child)
