-- The command line: build HEAP INDEX TABLE-STATEMENT INDEX-STATEMENT [options]. Words are counted from 1. All of it is
-- this program's own.
use Rattle.std.specs.Prelude.{◌≡◌, ◌≢◌, ◌⊎◌, ⊤, ℕ, zero, suc, ◌-◌, ◌<◌, ◌≤◌, Bool, if◌then◌else◌}
use Rattle.std.specs.Prelude.{List, [], ◌∷◌, ◌++◌, map, length, drop, slice_get, codes}
use Rattle.std.specs.Prelude.{Option, Some, None, unwrap_or, String, string_bytes, nat_eq}
use Rattle.std.specs.Fmt.{decimal}
use Rattle.std.specs.Global.{Global}
use Rattle.std.specs.List.{list_any, starts_with}
use Rattle.std.specs.Str.{bytes_eq}
use Rattle.std.specs.Str.Parse.{digits_value}
use Rattle.pg_index.specs.declared.words.BuildOption.{BuildOption}
use Rattle.pg_index.specs.declared.words.BuildOption.TheVariants.{Workers, RunRows, Claims}

-- the words' texts
abbrev pub texts_of : List (String Global) → List (List ℕ)
texts_of words = map string_bytes words

-- a word by its number, if it is there
abbrev pub word : List (List ℕ) → ℕ → Option (List ℕ)
word words k = slice_get words (k - 1)

-- its text, which is empty where it is missing
abbrev pub text_of : List (List ℕ) → ℕ → List ℕ
text_of words k = unwrap_or (word words k) []

-- the names of a build's two files, and its two statements
abbrev pub heap_name : List (List ℕ) → List ℕ
heap_name words = text_of words 2

abbrev pub index_name : List (List ℕ) → List ℕ
index_name words = text_of words 3

abbrev pub table_text : List (List ℕ) → List ℕ
table_text words = text_of words 4

abbrev pub index_text : List (List ℕ) → List ℕ
index_text words = text_of words 5

-- how many workers there may be beside the leader, and how many there are where no option says it
abbrev pub most_workers : ℕ
most_workers = 31

abbrev pub default_workers : ℕ
default_workers = 2

-- how many rows a sorted run may have, and how many it has where no option says it
abbrev pub most_run_rows : ℕ
most_run_rows = 16777216

abbrev pub default_run_rows : ℕ
default_run_rows = 65536

-- what an option of each kind begins with
abbrev pub workers_mark : List ℕ
workers_mark = codes "--workers="

abbrev pub run_rows_mark : List ℕ
run_rows_mark = codes "--run-rows="

abbrev pub claims_mark : List ℕ
claims_mark = codes "--claims"

abbrev pub mark_of : BuildOption → List ℕ
mark_of (Workers count) = workers_mark
mark_of (RunRows rows) = run_rows_mark
mark_of Claims = claims_mark

-- how an option is written: a number in decimal digits, without a sign or a leading zero
abbrev pub option_text : BuildOption → List ℕ
option_text (Workers count) = workers_mark ++ decimal count
option_text (RunRows rows) = run_rows_mark ++ decimal rows
option_text Claims = claims_mark

-- the numbers that it may have
abbrev pub IsInRange : BuildOption → Type 0
IsInRange (Workers count) = count ≤ most_workers
IsInRange (RunRows rows) = (1 ≤ rows) × (rows ≤ most_run_rows)
IsInRange Claims = ⊤

-- the options of one kind, of which a command line has one at most
abbrev pub AreOneKind : BuildOption → BuildOption → Type 0
AreOneKind one other = mark_of one ≡ mark_of other

-- a text that is this option
pub record IsOptionText (text : List ℕ) (option : BuildOption) : Type 0 where
  pub written : text ≡ option_text option
  pub in_range : IsInRange option

-- the word of this number is this option: options stand behind the statements
pub record HasOption (words : List (List ℕ)) (k : ℕ) (option : BuildOption) : Type 0 where
  pub behind : 5 < k
  pub there : word words k ≡ Some (option_text option)
  pub in_range : IsInRange option

-- a word before this one is an option of this kind
abbrev pub IsGivenBefore : List (List ℕ) → ℕ → BuildOption → Type 0
IsGivenBefore words k option =
    (earlier : BuildOption) × (j : ℕ) × (j < k) × HasOption words j earlier × AreOneKind earlier option

-- the word is no option
abbrev pub IsUnknown : List (List ℕ) → ℕ → Type 0
IsUnknown words k = (option : BuildOption) → HasOption words k option → ⊥

-- the word is an option of a kind that was given before
abbrev pub IsRepeated : List (List ℕ) → ℕ → Type 0
IsRepeated words k = (option : BuildOption) × HasOption words k option × IsGivenBefore words k option

-- The word is at fault, whatever the others are: the command's name, names that are empty or equal, statements that
-- are missing, and what is no option or stands twice.
abbrev pub IsFaulty : List (List ℕ) → ℕ → Type 0
IsFaulty words zero = ⊥
IsFaulty words (suc zero) = text_of words 1 ≢ codes "build"
IsFaulty words (suc (suc zero)) = text_of words 2 ≡ []
IsFaulty words (suc (suc (suc zero))) = (text_of words 3 ≡ []) ⊎ (text_of words 3 ≡ text_of words 2)
IsFaulty words (suc (suc (suc (suc zero)))) = length words < 4
IsFaulty words (suc (suc (suc (suc (suc zero))))) = length words < 5
IsFaulty words k = (k ≤ length words) × (IsUnknown words k ⊎ IsRepeated words k)

-- no word up to this one is at fault
abbrev pub IsFaultlessBelow : List (List ℕ) → ℕ → Type 0
IsFaultlessBelow words k = (j : ℕ) → j < k → IsFaulty words j → ⊥

-- the least word at fault
abbrev pub IsUsageFault : List (List ℕ) → ℕ → Type 0
IsUsageFault words k = IsFaulty words k × IsFaultlessBelow words k

-- no word is at fault
abbrev pub IsInGrammar : List (List ℕ) → Type 0
IsInGrammar words = (k : ℕ) → IsFaulty words k → ⊥

-- the number behind a mark, in the first text that begins with the mark
abbrev pub number_behind : List ℕ → List (List ℕ) → Option ℕ
number_behind mark [] = None
number_behind mark (text ∷ more) =
    if starts_with nat_eq text mark then Some (digits_value 10 (drop (length mark) text)) else number_behind mark more

-- What the options of words in order say: how many workers there are beside the leader, how many rows a sorted run
-- has, and whether the claims are reported.
abbrev pub workers_of : List (List ℕ) → ℕ
workers_of words = unwrap_or (number_behind workers_mark (drop 5 words)) default_workers

abbrev pub run_rows_of : List (List ℕ) → ℕ
run_rows_of words = unwrap_or (number_behind run_rows_mark (drop 5 words)) default_run_rows

abbrev pub wants_claims : List (List ℕ) → Bool
wants_claims words = list_any (bytes_eq claims_mark) (drop 5 words)
