-- What a command line's options said, as far as they are read.
use Rattle.std.specs.Prelude.{◌≡◌, ◌≢◌, ℕ, ◌+◌, ◌<◌, Bool, true, false, ◌||◌, if◌then◌else◌, MatchBool, List, length, drop, slice_index, Option, Some, None, is_some, IfSome}
use Rattle.std.specs.List.{list_any}
use Rattle.std.specs.Str.{bytes_eq}
use Rattle.pg_index.specs.Words.{IsFaultlessBelow, IsGivenBefore, IsInRange, IsOptionText, claims_mark, number_behind, run_rows_mark, workers_mark}
use Rattle.pg_index.specs.declared.words.BuildOption.{BuildOption}
use Rattle.pg_index.specs.declared.words.BuildOption.TheVariants.{Workers, RunRows, Claims}
use Rattle.pg_index.specs.declared.words.Given.{Given}

-- an option of this kind was given
abbrev pub has_kind : Given → BuildOption → Bool
has_kind given (Workers count) = is_some given.workers
has_kind given (RunRows rows) = is_some given.run_rows
has_kind given Claims = given.claims

-- what was given, and an option more
abbrev pub with_option : Given → BuildOption → Given
with_option given (Workers count) = record given { workers = Some count }
with_option given (RunRows rows) = record given { run_rows = Some rows }
with_option given Claims = record given { claims = true }

-- the new is the old and an option of another kind
pub record IsWithOption (old : Given) (option : BuildOption) (new : Given) : Type 0 where
  pub other : has_kind old option ≡ false
  pub added : new ≡ with_option old option

-- the same of the option that a text is
abbrev pub IsWithWord : Given → List ℕ → Given → Type 0
IsWithWord old text new = (option : BuildOption) × IsOptionText text option × IsWithOption old option new

-- a text that is no option
abbrev pub IsUnknownText : List ℕ → Type 0
IsUnknownText text = (option : BuildOption) → IsOptionText text option → ⊥

-- a text that is an option of a kind that was given
abbrev pub IsRepeatedText : Given → List ℕ → Type 0
IsRepeatedText given text = (option : BuildOption) × IsOptionText text option × (has_kind given option ≡ true)

-- a text begins neither with a plus nor with a zero that others follow
pub record BeginsAsDecimal (text : List ℕ) : Type 0 where
  pub begun : 0 < length text
  pub unsigned : slice_index text 0 ≢ 43
  pub zero_alone : slice_index text 0 ≡ 48 → length text ≡ 1

-- how many options were given
abbrev pub given_count : Given → ℕ
given_count given =
    (if is_some given.workers then 1 else 0) + ((if is_some given.run_rows then 1 else 0) + (if given.claims then 1 else 0))

-- the number that was given, or else the one that later texts give
abbrev pub number_with : List ℕ → Option ℕ → List (List ℕ) → Option ℕ
number_with mark (Some number) later = Some number
number_with mark None later = number_behind mark later

-- what was given and what later texts say are together what all options say
pub record Tells (words later : List (List ℕ)) (given : Given) : Type 0 where
  pub workers : number_with workers_mark given.workers later ≡ number_behind workers_mark (drop 5 words)
  pub run_rows : number_with run_rows_mark given.run_rows later ≡ number_behind run_rows_mark (drop 5 words)
  pub claims : given.claims || list_any (bytes_eq claims_mark) later ≡ list_any (bytes_eq claims_mark) (drop 5 words)

-- the numbers that were given may be
pub record AreInRange (given : Given) : Type 0 where
  pub workers : IfSome given.workers (λ count. IsInRange (Workers count))
  pub run_rows : IfSome given.run_rows (λ rows. IsInRange (RunRows rows))

-- the first words are faultless, and their options are those that were given
pub record AreRead (words : List (List ℕ)) (read : ℕ) (given : Given) : Type 0 where
  pub faultless : IsFaultlessBelow words (read + 1)
  pub kinds : (option : BuildOption)
      → MatchBool (has_kind given option) (IsGivenBefore words (read + 1) option)
      (IsGivenBefore words (read + 1) option → ⊥)
  pub count : read ≡ 5 + given_count given
  pub in_range : AreInRange given
  pub told : Tells words (drop read words) given
