-- A heap grows by what a read gives.
use Rattle.std.proofs.Common.{◌≡◌, ℕ, ◌+◌, ◌-◌, ◌<◌, ◌≤◌, List, [], ◌++◌, length, take, drop, Option, Some, None, Ok, refl, sym, ap, ◌∙◌, arith, length-append, inl, inr}
use Rattle.std.proofs.lemmas.List.{take-append-drop, take-take, drop-take, length-drop, length-take-le, take_all}
use Rattle.pg_files.specs.Files.{GivesBytes, HoldsBytes, Reads, ToldGives}
use Rattle.pg_files.specs.Outside.{FileMap, Outside}
use Rattle.build_leader.specs.Blocks.{most_bytes}
use Rattle.pg_index.specs.HeapFile.{IsFront, IsHeapOf, OnFile, OnToldFile, ReadsOn}

-- a front of a list in two parts
pub take-add : (m n : ℕ) (xs : List ℕ) → take m xs ++ take n (drop m xs) ≡ take (m + n) xs
take-add m n xs =
    ap (λ (front : List ℕ). front ++ take n (drop m xs)) (sym (take-take m (m + n) xs (omega arith)))
    ∙ ap (λ (back : List ℕ). take m (take (m + n) xs) ++ back) (sym (drop-take m n xs))
    ∙ take-append-drop m (take (m + n) xs)

front_more : (file heap buffer : List ℕ) (count : ℕ) → count ≤ length buffer → 0 < length buffer → HoldsBytes file (length heap) count buffer
    → ReadsOn heap count (heap ++ take count buffer) file
front_more file heap buffer count room some holds front =
    let left : length (drop (length heap) file) ≡ length file - length heap = length-drop (length heap) file in
    let more : length (take count buffer) ≡ count = length-take-le count buffer room in
    let size : length (heap ++ take count buffer) ≡ length heap + count = length-append heap (take count buffer) ∙ omega arith in
    let inside : count ≤ length (drop (length heap) file) = holds.inside in
    let whole : heap ++ take count buffer ≡ take (length (heap ++ take count buffer)) file =
    ap (λ (h : List ℕ). h ++ take count buffer) front.same
    ∙ ap (λ (b : List ℕ). take (length heap) file ++ b) holds.same
    ∙ take-add (length heap) count file
    ∙ ap (λ (n : ℕ). take n file) (sym size) in
    let before : length heap ≤ length file = front.inside in (
      record { inside = omega arith; same = whole },
      λ none. let end : length file ≤ length heap = holds.end some none in
          whole ∙ take_all (length (heap ++ take count buffer)) file (omega arith),
    )

on_file : (file : Option (List ℕ)) (heap buffer : List ℕ) (count : ℕ) → count ≤ length buffer → 0 < length buffer → GivesBytes file (length heap) count buffer
    → OnFile file (ReadsOn heap count (heap ++ take count buffer))
on_file None heap buffer count room some gives = gives
on_file (Some file) heap buffer count room some gives = front_more file heap buffer count room some gives

told_on : (told : Option FileMap) (name heap buffer : List ℕ) (count : ℕ) → count ≤ length buffer → 0 < length buffer
    → ToldGives told name (length heap) count buffer → OnToldFile told name (ReadsOn heap count (heap ++ take count buffer))
told_on None name heap buffer count room some gives = tt
told_on (Some files) name heap buffer count room some gives = on_file (files name) heap buffer count room some gives

-- what a read gives of files that may not be told
pub read_on : (outside : Outside) (name heap buffer : List ℕ) (count : ℕ) → count ≤ length buffer → 0 < length buffer
    → Reads name (length heap) (Ok count) buffer outside → OnToldFile outside.files name (ReadsOn heap count (heap ++ take count buffer))
read_on outside name heap buffer count room some reads = told_on outside.files name heap buffer count room some reads

-- what was read so far is a front of the file: nothing, where the file is absent
abbrev pub IsFrontSoFar : Option (List ℕ) → List ℕ → Type 0
IsFrontSoFar None heap = heap ≡ []
IsFrontSoFar (Some file) heap = IsFront heap file

abbrev pub HasFront : Option FileMap → List ℕ → List ℕ → Type 0
HasFront None name heap = Unit {0}
HasFront (Some files) name heap = IsFrontSoFar (files name) heap

front_none : (file : Option (List ℕ)) → IsFrontSoFar file []
front_none None = refl
front_none (Some file) = record { inside = omega arith; same = refl }

-- at the start
pub has_none : (told : Option FileMap) (name : List ℕ) → HasFront told name []
has_none None name = tt
has_none (Some files) name = front_none (files name)

front_step : (file : Option (List ℕ)) (heap : List ℕ) (count : ℕ) (new : List ℕ) → IsFrontSoFar file heap → OnFile file (ReadsOn heap count new) → IsFrontSoFar file new
front_step None heap count new front reads = absurd reads
front_step (Some file) heap count new front reads = (reads front).0

-- after a read
pub has_more : (told : Option FileMap) (name heap : List ℕ) (count : ℕ) (new : List ℕ) → HasFront told name heap → OnToldFile told name (ReadsOn heap count new) → HasFront told name new
has_more None name heap count new front reads = tt
has_more (Some files) name heap count new front reads = front_step (files name) heap count new front reads

front_end : (file : Option (List ℕ)) (heap : List ℕ) (count : ℕ) (new : List ℕ) → IsFrontSoFar file heap → OnFile file (ReadsOn heap count new) → count ≡ 0 → OnFile file (IsHeapOf new)
front_end None heap count new front reads none = reads
front_end (Some file) heap count new front reads none = inl ((reads front).1 none)

-- at the file's end
pub has_all : (told : Option FileMap) (name heap : List ℕ) (count : ℕ) (new : List ℕ) → HasFront told name heap → OnToldFile told name (ReadsOn heap count new) → count ≡ 0
    → OnToldFile told name (IsHeapOf new)
has_all None name heap count new front reads none = tt
has_all (Some files) name heap count new front reads none = front_end (files name) heap count new front reads none

front_past : (file : Option (List ℕ)) (heap : List ℕ) → most_bytes < length heap → IsFrontSoFar file heap → OnFile file (IsHeapOf heap)
front_past None heap past front = absurd (let none : length heap ≡ 0 = ap length front in omega arith)
front_past (Some file) heap past front = inr (past, front)

-- past the limit
pub has_past : (told : Option FileMap) (name heap : List ℕ) → most_bytes < length heap → HasFront told name heap → OnToldFile told name (IsHeapOf heap)
has_past None name heap past front = tt
has_past (Some files) name heap past front = front_past (files name) heap past front

on_map : (file : Option (List ℕ)) (P Q : List ℕ → Type 0) → ((bytes : List ℕ) → P bytes → Q bytes) → OnFile file P → OnFile file Q
on_map None P Q step holds = holds
on_map (Some file) P Q step holds = step file holds

-- what is known of a file is known of it in other words
pub told_map : (told : Option FileMap) (name : List ℕ) (P Q : List ℕ → Type 0) → ((file : List ℕ) → P file → Q file) → OnToldFile told name P → OnToldFile told name Q
told_map None name P Q step holds = tt
told_map (Some files) name P Q step holds = on_map (files name) P Q step holds
