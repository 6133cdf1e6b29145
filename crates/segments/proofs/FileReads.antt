-- A file that is read piece by piece comes behind the bytes that were there.
use Rattle.std.proofs.Common.{◌≡◌, ℕ, ◌+◌, ◌-◌, ◌<◌, ◌≤◌, List, ◌++◌, length, take, drop, Option, Some, None, Ok, refl, sym, ap, ◌∙◌, arith, append-nil, append_assoc, inl, inr}
use Rattle.std.proofs.lemmas.List.{take-append-drop, take-take, drop-take, length-drop, take_all}
use Rattle.pg_files.specs.Files.{GivesBytes, HoldsBytes, Reads, ToldGives}
use Rattle.pg_files.specs.Outside.{FileMap, Outside}
use Rattle.segments.specs.Reading.{IsSegmentRead, ReadsOn}
use Rattle.segments.specs.Told.{OnFile, OnTold}

-- a front of a list in two parts
pub take-add : (m n : ℕ) (xs : List ℕ) → take m xs ++ take n (drop m xs) ≡ take (m + n) xs
take-add m n xs =
    ap (λ (front : List ℕ). front ++ take n (drop m xs)) (sym (take-take m (m + n) xs (omega arith)))
    ∙ ap (λ (back : List ℕ). take m (take (m + n) xs) ++ back) (sym (drop-take m n xs))
    ∙ take-append-drop m (take (m + n) xs)

reads_on : (file old buffer : List ℕ) (place count : ℕ) → 0 < length buffer → HoldsBytes file place count buffer
    → ReadsOn place old count (old ++ take count buffer) file
reads_on file old buffer place count some holds = record {
  bytes_are = ap (λ (b : List ℕ). old ++ b) holds.same;
  inside = holds.inside;
  end = holds.end some;
}

on_file : (file : Option (List ℕ)) (old buffer : List ℕ) (place count : ℕ) → 0 < length buffer → GivesBytes file place count buffer
    → OnFile file (ReadsOn place old count (old ++ take count buffer))
on_file None old buffer place count some gives = gives
on_file (Some file) old buffer place count some gives = reads_on file old buffer place count some gives

told_on : (told : Option FileMap) (name old buffer : List ℕ) (place count : ℕ) → 0 < length buffer → ToldGives told name place count buffer
    → OnTold told (λ files. OnFile (files name) (ReadsOn place old count (old ++ take count buffer)))
told_on None name old buffer place count some gives = tt
told_on (Some files) name old buffer place count some gives = on_file (files name) old buffer place count some gives

-- what a read gives of files that may not be told
pub read_on : (outside : Outside) (name old buffer : List ℕ) (place count : ℕ) → 0 < length buffer → Reads name place (Ok count) buffer outside
    → OnTold outside.files (λ files. OnFile (files name) (ReadsOn place old count (old ++ take count buffer)))
read_on outside name old buffer place count some reads = told_on outside.files name old buffer place count some reads

-- so many bytes of a file came behind those that were there: none, where it is absent
abbrev pub IsFrontRead : Option (List ℕ) → List ℕ → ℕ → List ℕ → Type 0
IsFrontRead None before count after = count ≡ 0
IsFrontRead (Some file) before count after = (count ≤ length file) × (after ≡ before ++ take count file)

abbrev pub HasRead : Option FileMap → List ℕ → List ℕ → ℕ → List ℕ → Type 0
HasRead told name before count after = OnTold told (λ files. IsFrontRead (files name) before count after)

none_read : (file : Option (List ℕ)) (before : List ℕ) → IsFrontRead file before 0 before
none_read None before = refl
none_read (Some file) before = (omega arith, sym (append-nil before))

-- at the start
pub has_none : (told : Option FileMap) (name before : List ℕ) → HasRead told name before 0 before
has_none None name before = tt
has_none (Some files) name before = none_read (files name) before

more_read : (file before : List ℕ) (count : ℕ) (after : List ℕ) (more : ℕ) (new : List ℕ) → (count ≤ length file) × (after ≡ before ++ take count file)
    → ReadsOn count after more new file → (count + more ≤ length file) × (new ≡ before ++ take (count + more) file)
more_read file before count after more new read reads =
    let left : length (drop count file) ≡ length file - count = length-drop count file in
    let inside : more ≤ length (drop count file) = reads.inside in
    let within : count ≤ length file = read.0 in (
      omega arith,
      reads.bytes_are
          ∙ ap (λ (b : List ℕ). b ++ take more (drop count file)) read.1
          ∙ append_assoc before (take count file) (take more (drop count file))
          ∙ ap (λ (b : List ℕ). before ++ b) (take-add count more file),
    )

front_step : (file : Option (List ℕ)) (before : List ℕ) (count : ℕ) (after : List ℕ) (more : ℕ) (new : List ℕ) → IsFrontRead file before count after
    → OnFile file (ReadsOn count after more new) → IsFrontRead file before (count + more) new
front_step None before count after more new read reads = absurd reads
front_step (Some file) before count after more new read reads = more_read file before count after more new read reads

-- after a read
pub has_more : (told : Option FileMap) (name before : List ℕ) (count : ℕ) (after : List ℕ) (more : ℕ) (new : List ℕ) → HasRead told name before count after
    → OnTold told (λ files. OnFile (files name) (ReadsOn count after more new)) → HasRead told name before (count + more) new
has_more None name before count after more new read reads = tt
has_more (Some files) name before count after more new read reads = front_step (files name) before count after more new read reads

all_read : (size : ℕ) (file before : List ℕ) (count : ℕ) (after : List ℕ) (more : ℕ) (new : List ℕ) → count ≤ size → more ≡ 0
    → (count ≤ length file) × (after ≡ before ++ take count file) → ReadsOn count after more new file → IsSegmentRead size before count new file
all_read size file before count after more new small none read reads =
    let step = more_read file before count after more new read reads in
    let end : length file ≤ count = reads.end none in
    let within : count ≤ length file = read.0 in
    inl (small, omega arith, step.1 ∙ ap (λ (b : List ℕ). before ++ b) (take_all (count + more) file (omega arith)))

front_end : (size : ℕ) (file : Option (List ℕ)) (before : List ℕ) (count : ℕ) (after : List ℕ) (more : ℕ) (new : List ℕ) → count ≤ size → more ≡ 0
    → IsFrontRead file before count after → OnFile file (ReadsOn count after more new) → OnFile file (IsSegmentRead size before count new)
front_end size None before count after more new small none read reads = reads
front_end size (Some file) before count after more new small none read reads = all_read size file before count after more new small none read reads

-- at the file's end
pub has_all : (size : ℕ) (told : Option FileMap) (name before : List ℕ) (count : ℕ) (after : List ℕ) (more : ℕ) (new : List ℕ) → count ≤ size → more ≡ 0
    → HasRead told name before count after → OnTold told (λ files. OnFile (files name) (ReadsOn count after more new))
    → OnTold told (λ files. OnFile (files name) (IsSegmentRead size before count new))
has_all size None name before count after more new small none read reads = tt
has_all size (Some files) name before count after more new small none read reads =
    front_end size (files name) before count after more new small none read reads

front_past : (size : ℕ) (file : Option (List ℕ)) (before : List ℕ) (count : ℕ) (after : List ℕ) → size < count → IsFrontRead file before count after
    → OnFile file (IsSegmentRead size before count after)
front_past size None before count after past read = absurd (omega (arith, read))
front_past size (Some file) before count after past read =
    let within : count ≤ length file = read.0 in inr (past, omega arith)

-- past a segment's bytes
pub has_past : (size : ℕ) (told : Option FileMap) (name before : List ℕ) (count : ℕ) (after : List ℕ) → size < count → HasRead told name before count after
    → OnTold told (λ files. OnFile (files name) (IsSegmentRead size before count after))
has_past size None name before count after past read = tt
has_past size (Some files) name before count after past read = front_past size (files name) before count after past read
