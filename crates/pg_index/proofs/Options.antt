-- The options of a command line, one word after the other.
use Rattle.std.proofs.Common.{◌≡◌, ◌⊎◌, ℕ, suc, ◌+◌, ◌-◌, ◌^◌, ◌<◌, ◌≤◌, Bool, true, false, List, [], ◌∷◌, length, get_or, drop, add-one, Option, Some, None, inl, inr, refl, sym, ◌∙◌, ap, subst, arith}
use Rattle.std.proofs.lemmas.Bool.{MatchBool-at_false, MatchBool-at_true, cases_lt, false≢true}
use Rattle.std.proofs.lemmas.Fmt.{decimal_is_IsNumeral}
use Rattle.std.proofs.lemmas.Option.{get_or_from_slice_get, slice_get-map, slice_get_read, slice_get_within}
use Rattle.std.proofs.Math.Seq.{drop-cons}
use Rattle.std.specs.Global.{Global}
use Rattle.std.specs.List.{list_any, slice_get}
use Rattle.std.specs.Prelude.{MatchBool, String, string_bytes, option_map, is_some, if◌then◌else◌, ◌||◌, slice_index}
use Rattle.std.specs.Str.{bytes_eq}
use Rattle.pg_index.proofs.Faultless.{faultless_more, of_option, option_fault}
use Rattle.pg_index.specs.Calls.Options.{AreInRange, AreRead, IsRepeatedText, IsUnknownText, IsWithWord, Tells, given_count, has_kind, number_with, with_option}
use Rattle.pg_index.specs.Words.{AreOneKind, HasOption, IsFaulty, IsFaultlessBelow, IsGivenBefore, IsInRange, IsOptionText, IsRepeated, IsUnknown, IsUsageFault}
use Rattle.pg_index.specs.Words.{claims_mark, option_text, run_rows_mark, texts_of, word, workers_mark}
use Rattle.pg_index.specs.declared.words.BuildOption.{BuildOption}
use Rattle.pg_index.specs.declared.words.BuildOption.TheVariants.{Workers, RunRows, Claims}
use Rattle.pg_index.specs.declared.words.Given.{Given}

-- the third letter of an option tells its kind
abbrev third : List ℕ → ℕ
third text = slice_index text 2

one_kind : (one other : BuildOption) → option_text one ≡ option_text other → AreOneKind one other
one_kind (Workers m) (Workers n) same = refl
one_kind (RunRows m) (RunRows n) same = refl
one_kind Claims Claims same = refl
one_kind (Workers m) (RunRows n) same = let e : 119 ≡ 114 = ap third same in absurd (omega (arith, e))
one_kind (Workers m) Claims same = let e : 119 ≡ 99 = ap third same in absurd (omega (arith, e))
one_kind (RunRows m) (Workers n) same = let e : 114 ≡ 119 = ap third same in absurd (omega (arith, e))
one_kind (RunRows m) Claims same = let e : 114 ≡ 99 = ap third same in absurd (omega (arith, e))
one_kind Claims (Workers n) same = let e : 99 ≡ 119 = ap third same in absurd (omega (arith, e))
one_kind Claims (RunRows n) same = let e : 99 ≡ 114 = ap third same in absurd (omega (arith, e))

-- one word is options of one kind
kind_of_word : (words : List (List ℕ)) (k : ℕ) (one other : BuildOption) → HasOption words k one → HasOption words k other → AreOneKind one other
kind_of_word words k one other has has' =
    let same : Some (option_text one) ≡ Some (option_text other) = sym has.there ∙ has'.there in
    one_kind one other (cc)

-- a word that is an option of a kind that wasn't given before is at no fault
option_faultless : (words : List (List ℕ)) (k : ℕ) (option : BuildOption) → HasOption words k option → (IsGivenBefore words k option → ⊥) → IsFaulty words k → ⊥
option_faultless words k option has new fault = elim (of_option words k has.behind fault).1 [
  | inl unknown ↦ unknown option has
  | inr repeated ↦
      let before = repeated.2 in
      new (before.0, before.1, before.2, before.3, before.4 ∙ kind_of_word words k repeated.0 option repeated.1 has)
]

-- a word behind the statements by its text
has_option : (words : List (List ℕ)) (read : ℕ) (text : List ℕ) (option : BuildOption) → 5 ≤ read → word words (read + 1) ≡ Some text → IsOptionText text option
    → HasOption words (read + 1) option
has_option words read text option behind there is = record { behind = omega arith; there = there ∙ ap (λ (t : List ℕ). Some t) is.written; in_range = is.in_range }

text_of_option : (words : List (List ℕ)) (read : ℕ) (text : List ℕ) (option : BuildOption) → word words (read + 1) ≡ Some text → HasOption words (read + 1) option
    → IsOptionText text option
text_of_option words read text option there has =
    let same : Some text ≡ Some (option_text option) = sym there ∙ has.there in
    record { written = cc; in_range = has.in_range }

-- the options of one word more
given_later : (words : List (List ℕ)) (k : ℕ) (option : BuildOption) → IsGivenBefore words k option → IsGivenBefore words (k + 1) option
given_later words k option given = (given.0, given.1, omega (arith, given.2), given.3, given.4)

given_here : (words : List (List ℕ)) (k : ℕ) (option other : BuildOption) → HasOption words k option → AreOneKind option other → IsGivenBefore words (k + 1) other
given_here words k option other has same = (option, k, omega arith, has, same)

given_earlier : (words : List (List ℕ)) (k : ℕ) (option other : BuildOption) → HasOption words k option → (AreOneKind option other → ⊥) → IsGivenBefore words (k + 1) other
    → IsGivenBefore words k other
given_earlier words k option other has apart given = elim (cases_lt given.1 k) [
  | inl lt ↦ (given.0, given.1, lt, given.3, given.4)
  | inr ge ↦
      let at : given.1 ≡ k = omega (arith, given.2) in
      let here : HasOption words k given.0 = subst (λ (j : ℕ). HasOption words j given.0) at given.3 in
      absurd (apart (kind_of_word words k option given.0 has here ∙ given.4))
]

-- what is known of a kind, of which there is no option here
kind_as_before : (words : List (List ℕ)) (k : ℕ) (option other : BuildOption) (b : Bool) → HasOption words k option → (AreOneKind option other → ⊥)
    → MatchBool b (IsGivenBefore words k other) (IsGivenBefore words k other → ⊥) → MatchBool b (IsGivenBefore words (k + 1) other) (IsGivenBefore words (k + 1) other → ⊥)
kind_as_before words k option other true has apart given = given_later words k other given
kind_as_before words k option other false has apart new = λ later. new (given_earlier words k option other has apart later)

-- marks are told apart by their third letters
letters : (one other : ℕ) → (one ≡ other → ⊥) → (a b : List ℕ) → third a ≡ one → third b ≡ other → a ≡ b → ⊥
letters one other differ a b is is' same = differ (sym is ∙ (ap third same ∙ is'))

kinds_with : (words : List (List ℕ)) (k : ℕ) (given : Given) (option other : BuildOption) → HasOption words k option
    → MatchBool (has_kind given other) (IsGivenBefore words k other) (IsGivenBefore words k other → ⊥)
    → MatchBool (has_kind (with_option given option) other) (IsGivenBefore words (k + 1) other) (IsGivenBefore words (k + 1) other → ⊥)
kinds_with words k given (Workers m) (Workers n) has known = given_here words k (Workers m) (Workers n) has refl
kinds_with words k given (RunRows m) (RunRows n) has known = given_here words k (RunRows m) (RunRows n) has refl
kinds_with words k given Claims Claims has known = given_here words k Claims Claims has refl
kinds_with words k given (Workers m) (RunRows n) has known = kind_as_before words k (Workers m) (RunRows n) (is_some given.run_rows) has (letters 119 114 (λ e. omega (arith, e)) workers_mark run_rows_mark refl refl) known
kinds_with words k given (Workers m) Claims has known = kind_as_before words k (Workers m) Claims given.claims has (letters 119 99 (λ e. omega (arith, e)) workers_mark claims_mark refl refl) known
kinds_with words k given (RunRows m) (Workers n) has known = kind_as_before words k (RunRows m) (Workers n) (is_some given.workers) has (letters 114 119 (λ e. omega (arith, e)) run_rows_mark workers_mark refl refl) known
kinds_with words k given (RunRows m) Claims has known = kind_as_before words k (RunRows m) Claims given.claims has (letters 114 99 (λ e. omega (arith, e)) run_rows_mark claims_mark refl refl) known
kinds_with words k given Claims (Workers n) has known = kind_as_before words k Claims (Workers n) (is_some given.workers) has (letters 99 119 (λ e. omega (arith, e)) claims_mark workers_mark refl refl) known
kinds_with words k given Claims (RunRows n) has known = kind_as_before words k Claims (RunRows n) (is_some given.run_rows) has (letters 99 114 (λ e. omega (arith, e)) claims_mark run_rows_mark refl refl) known

-- an option of another kind is one more
one_more : (b : Bool) (more : ℕ) → b ≡ false → 1 + more ≡ ((if b then 1 else 0) + more) + 1
one_more false more other = omega arith
one_more true more other = absurd (false≢true (sym other))

count_with : (given : Given) (option : BuildOption) → has_kind given option ≡ false → given_count (with_option given option) ≡ given_count given + 1
count_with given (Workers n) other = one_more (is_some given.workers) ((if is_some given.run_rows then 1 else 0) + (if given.claims then 1 else 0)) other
count_with given (RunRows n) other =
    let more = one_more (is_some given.run_rows) (if given.claims then 1 else 0) other in
    omega (arith, more)
count_with given Claims other =
    let more = one_more given.claims 0 other in
    omega (arith, more)

few_of : (b : Bool) → (if b then 1 else 0) ≤ 1
few_of true = omega arith
few_of false = omega arith

pub given_few : (given : Given) → given_count given ≤ 3
given_few given = omega (arith, few_of (is_some given.workers), few_of (is_some given.run_rows), few_of given.claims)

-- numbers that are in range stay so
range_with : (given : Given) (option : BuildOption) → AreInRange given → IsInRange option → AreInRange (with_option given option)
range_with given (Workers n) old new = record { workers = new; run_rows = old.run_rows }
range_with given (RunRows n) old new = record { workers = old.workers; run_rows = new }
range_with given Claims old new = record { workers = old.workers; run_rows = old.run_rows }

-- A number is passed over by the options of other kinds, and told by the first of its own.
passes_workers : (rows : ℕ) (o : Option ℕ) (later : List (List ℕ)) → number_with workers_mark o (option_text (RunRows rows) ∷ later) ≡ number_with workers_mark o later
passes_workers rows None later = refl
passes_workers rows (Some n) later = refl

claims_pass_workers : (o : Option ℕ) (later : List (List ℕ)) → number_with workers_mark o (claims_mark ∷ later) ≡ number_with workers_mark o later
claims_pass_workers None later = refl
claims_pass_workers (Some n) later = refl

passes_run_rows : (count : ℕ) (o : Option ℕ) (later : List (List ℕ)) → number_with run_rows_mark o (option_text (Workers count) ∷ later) ≡ number_with run_rows_mark o later
passes_run_rows count None later = refl
passes_run_rows count (Some n) later = refl

claims_pass_run_rows : (o : Option ℕ) (later : List (List ℕ)) → number_with run_rows_mark o (claims_mark ∷ later) ≡ number_with run_rows_mark o later
claims_pass_run_rows None later = refl
claims_pass_run_rows (Some n) later = refl

tells_workers : (count : ℕ) (o : Option ℕ) (later : List (List ℕ)) → count < 2 ^ 64 → is_some o ≡ false → number_with workers_mark o (option_text (Workers count) ∷ later) ≡ Some count
tells_workers count None later small other = ap (λ (n : ℕ). Some n) (decimal_is_IsNumeral count small).1
tells_workers count (Some n) later small other = absurd (false≢true (sym other))

tells_run_rows : (rows : ℕ) (o : Option ℕ) (later : List (List ℕ)) → rows < 2 ^ 64 → is_some o ≡ false → number_with run_rows_mark o (option_text (RunRows rows) ∷ later) ≡ Some rows
tells_run_rows rows None later small other = ap (λ (n : ℕ). Some n) (decimal_is_IsNumeral rows small).1
tells_run_rows rows (Some n) later small other = absurd (false≢true (sym other))

tells_claims : (b : Bool) (later : List (List ℕ)) → true || list_any (bytes_eq claims_mark) later ≡ b || list_any (bytes_eq claims_mark) (claims_mark ∷ later)
tells_claims true later = refl
tells_claims false later = refl

tells_with : (words later : List (List ℕ)) (given : Given) (option : BuildOption) → IsInRange option → has_kind given option ≡ false → Tells words (option_text option ∷ later) given
    → Tells words later (with_option given option)
tells_with words later given (Workers n) range other told = record {
  workers = sym (tells_workers n given.workers later (omega arith) other) ∙ told.workers;
  run_rows = sym (passes_run_rows n given.run_rows later) ∙ told.run_rows;
  claims = told.claims;
}
tells_with words later given (RunRows n) range other told = record {
  workers = sym (passes_workers n given.workers later) ∙ told.workers;
  run_rows = sym (tells_run_rows n given.run_rows later (omega (arith, range.1)) other) ∙ told.run_rows;
  claims = told.claims;
}
tells_with words later given Claims range other told = record {
  workers = sym (claims_pass_workers given.workers later) ∙ told.workers;
  run_rows = sym (claims_pass_run_rows given.run_rows later) ∙ told.run_rows;
  claims = tells_claims given.claims later ∙ told.claims;
}

pub text_there : (words : List (String Global)) (read : ℕ) (w : String Global) (text : List ℕ) → read < length words → w ≡ get_or words read w → text ≡ string_bytes w
    → slice_get (texts_of words) read ≡ Some text
text_there words read w text inside is told =
    slice_get-map string_bytes words read ∙ ap (λ (o : Option (String Global)). option_map string_bytes o) (slice_get_read words (length words) read w refl inside is)
    ∙ ap (λ (t : List ℕ). Some t) (sym told)

-- a word by its place
word_at : (words : List (List ℕ)) (read : ℕ) (text : List ℕ) → slice_get words read ≡ Some text → word words (read + 1) ≡ Some text
word_at words read text here = let at : read + 1 - 1 ≡ read = omega arith in ap (slice_get words) at ∙ here

dropped : (words : List (List ℕ)) (read : ℕ) (text : List ℕ) → slice_get words read ≡ Some text → drop read words ≡ text ∷ drop (read + 1) words
dropped words read text here =
    let inside = slice_get_within words read text here in
    rw (add-one, drop-cons words read [] inside) (ap (λ (t : List ℕ). t ∷ drop (suc read) words) (get_or_from_slice_get words read text [] here))

none_kind : (words : List (List ℕ)) (option : BuildOption) → (IsGivenBefore words 6 option → ⊥)
    → MatchBool (has_kind (record { workers = None; run_rows = None; claims = false }) option) (IsGivenBefore words 6 option) (IsGivenBefore words 6 option → ⊥)
none_kind words (Workers n) none = none
none_kind words (RunRows n) none = none
none_kind words Claims none = none

-- before the first option nothing is given
pub read_none : (words : List (List ℕ)) → IsFaultlessBelow words 6 → AreRead words 5 (record { workers = None; run_rows = None; claims = false })
read_none words below =
    let none : (option : BuildOption) → IsGivenBefore words 6 option → ⊥ = λ option given. omega (arith, given.2, given.3.behind) in
    record {
      faultless = below;
      kinds = λ option. none_kind words option (none option);
      count = refl;
      in_range = record { workers = tt; run_rows = tt };
      told = record { workers = refl; run_rows = refl; claims = refl };
    }

-- one option more
pub read_more : (words : List (List ℕ)) (read : ℕ) (text : List ℕ) (old new : Given) → slice_get words read ≡ Some text → AreRead words read old → IsWithWord old text new
    → AreRead words (read + 1) new
read_more words read text old new here state with =
    let option = with.0 in
    let is : IsOptionText text option = with.1 in
    let other : has_kind old option ≡ false = with.2.other in
    let count : read ≡ 5 + given_count old = state.count in
    let has : HasOption words (read + 1) option = has_option words read text option (omega arith) (word_at words read text here) is in
    let kinds = state.kinds option in
    let next : drop read words ≡ option_text option ∷ drop (read + 1) words = dropped words read text here ∙ ap (λ (t : List ℕ). t ∷ drop (read + 1) words) is.written in
    let new_kind : IsGivenBefore words (read + 1) option → ⊥ = MatchBool-at_false (IsGivenBefore words (read + 1) option) (IsGivenBefore words (read + 1) option → ⊥) other kinds in
    let step : AreRead words (read + 1) (with_option old option) = record {
      faultless = faultless_more words (read + 1) state.faultless (option_faultless words (read + 1) option has new_kind);
      kinds = λ p. kinds_with words (read + 1) old option p has (state.kinds p);
      count = omega (arith, count_with old option other);
      in_range = range_with old option state.in_range is.in_range;
      told = tells_with words (drop (read + 1) words) old option is.in_range other (subst (λ (later : List (List ℕ)). Tells words later old) next state.told);
    } in
    subst (λ (g : Given). AreRead words (read + 1) g) (sym with.2.added) step

-- a word that is no option, or repeats one
pub read_fault : (words : List (List ℕ)) (read : ℕ) (text : List ℕ) (given : Given) → slice_get words read ≡ Some text → AreRead words read given
    → IsUnknownText text ⊎ IsRepeatedText given text → IsUsageFault words (read + 1)
read_fault words read text given here state fault =
    let count : read ≡ 5 + given_count given = state.count in
    let there = word_at words read text here in
    let inside = slice_get_within words read text here in
    let kind : IsUnknown words (read + 1) ⊎ IsRepeated words (read + 1) = elim fault [
      | inl unknown ↦ inl (λ option has. unknown option (text_of_option words read text option there has))
      | inr repeated ↦
          let option = repeated.0 in
          let before = MatchBool-at_true (IsGivenBefore words (read + 1) option) (IsGivenBefore words (read + 1) option → ⊥) repeated.2 (state.kinds option) in
          inr (option, has_option words read text option (omega arith) there repeated.1, before)
    ] in
    (option_fault words (read + 1) (omega arith) (omega (arith, inside)) kind, state.faultless)
