-- What a step of writing a segment does.
use Rattle.std.specs.Prelude.{◌≡◌, ◌⊎◌, ◌+◌, ◌*◌, ◌/◌, ℕ, ◌≤◌, List, length, min, take, drop}
use Rattle.pg_bytes.specs.PageLayout.{page_size}
use Rattle.pg_files.specs.Files.{Appends}
use Rattle.pg_files.specs.Outside.{Outside}

-- where the page ends in which a place lies, of so many bytes
abbrev pub page_end : List ℕ → ℕ → ℕ
page_end bytes place = min (length bytes) ((place / page_size + 1) * page_size)

-- the file has the next bytes of a list more, which begin at a place
abbrev pub Grows : List ℕ → List ℕ → ℕ → ℕ → Outside → Outside → Type 0
Grows name bytes place count old new = Appends name (take count (drop place bytes)) old new

-- the files are as before, or this one has some of these bytes more
abbrev pub MayGrow : List ℕ → List ℕ → ℕ → Outside → Outside → Type 0
MayGrow name bytes place old new =
    (new.files ≡ old.files) ⊎ ((count : ℕ) × (place + count ≤ length bytes) × Grows name bytes place count old new)
