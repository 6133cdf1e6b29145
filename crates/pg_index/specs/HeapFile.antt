-- A heap file: how it is read, and what is wrong with it as a whole.
use Rattle.std.specs.Prelude.{◌≡◌, ◌≢◌, ◌⊎◌, ℕ, ◌%◌, ◌<◌, ◌≤◌, ⊤}
use Rattle.std.specs.Prelude.{List, length, take, Option, Some, None, Result, IsOk, IsErrOf}
use Rattle.pg_bytes.specs.Blocks.{block_count}
use Rattle.pg_bytes.specs.PageLayout.{page_size}
use Rattle.build_leader.specs.Blocks.{most_blocks, most_bytes}
use Rattle.pg_files.specs.Faults.{most_faults}
use Rattle.pg_files.specs.Outside.{FileMap, Outside}
use Rattle.pg_index.specs.declared.heap_file.FileCause.{FileCause}
use Rattle.pg_index.specs.declared.heap_file.FileCause.TheVariants.{NotWhole, TooLong}
use Rattle.pg_index.specs.declared.heap_file.ReadError.{ReadError}
use Rattle.pg_index.specs.declared.heap_file.ReadError.TheVariants.{Failed, Memory}

-- What is wrong with the file as a whole, told at this block: it is too long, at the first block past the limit; or
-- else its last block isn't whole.
abbrev pub HasFileFault : List ℕ → FileCause → ℕ → Type 0
HasFileFault heap TooLong block = (most_bytes < length heap) × (block ≡ most_blocks)
HasFileFault heap NotWhole block =
    (length heap ≤ most_bytes) × (length heap % page_size ≢ 0) × (block ≡ block_count heap)

-- the number by which a cause of the file is told
abbrev pub number_of_file_cause : FileCause → ℕ
number_of_file_cause NotWhole = 14
number_of_file_cause TooLong = 15

-- the bytes are a front of the file
pub record IsFront (bytes file : List ℕ) : Type 0 where
  pub inside : length bytes ≤ length file
  pub same : bytes ≡ take (length bytes) file

-- the bytes are the file's, or a front of it that is longer than a heap may be
abbrev pub IsHeapOf : List ℕ → List ℕ → Type 0
IsHeapOf bytes file = (bytes ≡ file) ⊎ ((most_bytes < length bytes) × IsFront bytes file)

-- A front grows by so many of the file's next bytes, which are none only at the file's end.
abbrev pub ReadsOn : List ℕ → ℕ → List ℕ → List ℕ → Type 0
ReadsOn old count new file = IsFront old file → IsFront new file × (count ≡ 0 → new ≡ file)

-- reading a heap file: a failed read raises the count of its name, and nothing else does
pub record CountsHeapRead {T : Type 0} (name : List ℕ) (result : Result T ReadError) (old new : Outside) : Type 0 where
  pub raised : IsErrOf result Failed → old.read_faults name < most_faults → old.read_faults name < new.read_faults name
  pub kept : IsOk result → new.read_faults ≡ old.read_faults
  pub memory : IsErrOf result Memory → new.read_faults ≡ old.read_faults

-- a fact of a file's bytes, where the files are told: an absent file has none
abbrev pub OnFile : Option (List ℕ) → (List ℕ → Type 0) → Type 0
OnFile None P = ⊥
OnFile (Some file) P = P file

abbrev pub OnToldFile : Option FileMap → List ℕ → (List ℕ → Type 0) → Type 0
OnToldFile None name P = ⊤
OnToldFile (Some files) name P = OnFile (files name) P
