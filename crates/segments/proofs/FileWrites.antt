-- A file that is written piece by piece holds a front of the bytes at all times.
use Rattle.std.proofs.Common.{◌≡◌, ℕ, ◌+◌, ◌≤◌, List, ◌++◌, length, take, drop, Option, Some, None, sym, ap, ◌∙◌, inl, inr, subst}
use Rattle.pg_files.specs.Files.{ToldSets, content}
use Rattle.pg_files.specs.Outside.{FileMap, Outside}
use Rattle.segments.proofs.FileReads.{take-add}
use Rattle.segments.specs.Growing.{Grows, MayGrow}
use Rattle.segments.specs.Writing.{HasFront}

-- a file has these bytes, and every other is as before
abbrev pub Holds : List ℕ → List ℕ → Outside → Outside → Type 0
Holds name bytes old new = ToldSets name (λ _. bytes) old.files new.files

-- a file that holds a front grows by what comes next
more_of : (name bytes : List ℕ) (place count : ℕ) (old mid new : Option FileMap) → ToldSets name (λ _. take place bytes) old mid
    → ToldSets name (λ files. content (files name) ++ take count (drop place bytes)) mid new → ToldSets name (λ _. take (place + count) bytes) old new
more_of name bytes place count None None new held grown = grown
more_of name bytes place count None (Some mid) new held grown = absurd (let no : ⊥ = cc in no)
more_of name bytes place count (Some old) None new held grown = absurd held
more_of name bytes place count (Some old) (Some mid) None held grown = absurd grown
more_of name bytes place count (Some old) (Some mid) (Some new) held grown =
    let whole : content (mid name) ++ take count (drop place bytes) ≡ take (place + count) bytes =
    ap (λ (file : Option (List ℕ)). content file ++ take count (drop place bytes)) held.here ∙ take-add place count bytes in
    record {
      here = grown.here ∙ ap Some whole;
      others = λ other apart. grown.others other apart ∙ held.others other apart;
    }

pub holds_more : (name bytes : List ℕ) (place count : ℕ) (old mid new : Outside) → Holds name (take place bytes) old mid → Grows name bytes place count mid new
    → Holds name (take (place + count) bytes) old new
holds_more name bytes place count old mid new held grown = more_of name bytes place count old.files mid.files new.files held grown

-- the file holds a front after a growth that failed
pub holds_front : (name bytes : List ℕ) (place : ℕ) (old mid new : Outside) → place ≤ length bytes → Holds name (take place bytes) old mid → MayGrow name bytes place mid new
    → HasFront name bytes old.files new.files
holds_front name bytes place old mid new inside held (inl same) =
    let P : Option FileMap → Type 0 = λ files. ToldSets name (λ _. take place bytes) old.files files in
    inr (place, inside, subst P (sym same) held)
holds_front name bytes place old mid new inside held (inr grown) =
    inr (place + grown.0, grown.1, holds_more name bytes place grown.0 old mid new held grown.2)
