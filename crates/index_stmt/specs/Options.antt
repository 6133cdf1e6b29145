-- The options of an index (btoptions of nbtutils.c, brinoptions of brin.c, ginoptions of ginutil.c; their ranges and
-- defaults in reloptions.c).
use Rattle.std.specs.Prelude.{ℕ, Bool, true, false, codes, nat_le, ◌&&◌, ◌||◌, if◌then◌else◌, Option, Some, None, List, Result, Ok, Err, is_some, unwrap_or}
use Rattle.std.specs.Option.{option_map_or, option_and_then}
use Rattle.std.specs.Str.{bytes_eq}
use Rattle.stmt_token.specs.declared.sign.Sign.TheVariants.{LeftParen, RightParen, Comma, Equal}
use Rattle.stmt_token.specs.Borrowed.{number_of, setting_of}
use Rattle.stmt_token.specs.Tokens.{TokenValue}
use Rattle.stmt_token.specs.Tokens.{Word, Number, Text}
use Rattle.opclass.specs.declared.types.Method.{Method}
use Rattle.opclass.specs.declared.types.Method.TheVariants as method
use Rattle.index_stmt.specs.declared.fault.StmtCause.{StmtCause}
use Rattle.index_stmt.specs.declared.fault.StmtCause.TheVariants.{NotAllowed, OutOfRange, Repeated}
use Rattle.index_stmt.specs.declared.options.OptionName.{OptionName}
use Rattle.index_stmt.specs.declared.options.OptionName.TheVariants.{Fillfactor, DeduplicateItems, PagesPerRange, Fastupdate}
use Rattle.index_stmt.specs.declared.options.Settings.{Settings}
use Rattle.index_stmt.specs.Names.{word_in}
use Rattle.index_stmt.specs.Rule.{Rule, ◌>>=◌, ◌>>◌, done, if_next, is_sign, is_word, meaning, separated, sign, token_as}

-- no option is set
abbrev pub unset : Settings
unset = record { fillfactor = None; deduplicate_items = None; pages_per_range = None; fastupdate = None }

-- the options of each method
abbrev pub option_named : Method → List ℕ → Option OptionName
option_named method.BTree word =
    if bytes_eq word (codes "fillfactor") then Some Fillfactor
    else if bytes_eq word (codes "deduplicate_items") then Some DeduplicateItems
    else None
option_named method.Brin word = if bytes_eq word (codes "pages_per_range") then Some PagesPerRange else None
option_named method.Gin word = if bytes_eq word (codes "fastupdate") then Some Fastupdate else None

abbrev pub is_set : Settings → OptionName → Bool
is_set settings Fillfactor = is_some settings.fillfactor
is_set settings DeduplicateItems = is_some settings.deduplicate_items
is_set settings PagesPerRange = is_some settings.pages_per_range
is_set settings Fastupdate = is_some settings.fastupdate

-- a word has to be an option of the method that isn't set yet
abbrev pub known_option : Method → Settings → List ℕ → Result OptionName StmtCause
known_option method settings word =
    option_map_or (λ option. if is_set settings option then Err Repeated else Ok option) (option_named method word)
    (Err NotAllowed)

-- the value of an option is a number, a word or a string
abbrev pub value_in : TokenValue → Option TokenValue
value_in (Number number) = Some (Number number)
value_in (Word word) = Some (Word word)
value_in (Text bytes) = Some (Text bytes)
value_in other = None

-- what a word says that stands for a truth value
abbrev pub truth_of : List ℕ → Option Bool
truth_of word =
    if bytes_eq word (codes "on") || bytes_eq word (codes "true") then Some true
    else if bytes_eq word (codes "off") || bytes_eq word (codes "false") then Some false
    else None

-- the truth value that a value is; a string counts as the word that it spells
abbrev pub truth_in : TokenValue → Option Bool
truth_in value = option_and_then truth_of (setting_of value)

-- a number has to lie in a range
abbrev pub in_range : ℕ → ℕ → Option ℕ → Result ℕ StmtCause
in_range low high None = Err OutOfRange
in_range low high (Some number) =
    if nat_le low number && nat_le number high then Ok number else Err OutOfRange

-- a truth value has to be one
abbrev pub as_truth : Option Bool → Result Bool StmtCause
as_truth value = option_map_or Ok value (Err OutOfRange)

-- a value that is let through is set
abbrev pub set_to : {A : Type 0} → (A → Settings) → Result A StmtCause → Result Settings StmtCause
set_to set (Ok value) = Ok (set value)
set_to set (Err cause) = Err cause

-- the options with one more
abbrev pub with_option : Settings → OptionName → TokenValue → Result Settings StmtCause
with_option settings Fillfactor value =
    set_to (λ percent. record settings { fillfactor = Some percent }) (in_range 10 100 (number_of value))
with_option settings DeduplicateItems value =
    set_to (λ on. record settings { deduplicate_items = Some on }) (as_truth (truth_in value))
with_option settings PagesPerRange value =
    set_to (λ pages. record settings { pages_per_range = Some pages }) (in_range 1 131072 (number_of value))
with_option settings Fastupdate value =
    set_to (λ on. record settings { fastupdate = Some on }) (as_truth (truth_in value))

-- option = word "=" (number | word | string)
unfoldable pub option : Method → Settings → Rule Settings
option method settings = do
  name ← meaning (token_as word_in) (known_option method settings)
  sign Equal
  meaning (token_as value_in) (with_option settings name)

-- "(" option {"," option} ")"
unfoldable pub option_list : Method → Rule Settings
option_list method = do
  sign LeftParen
  settings ← separated (is_sign Comma) (option method) unset
  sign RightParen
  done settings

-- [WITH "(" option {"," option} ")"]
unfoldable pub options : Method → Rule Settings
options method =
    if_next (is_word (codes "with"))
    (option_list method) (done unset)

-- what holds where an option isn't set
abbrev pub fillfactor_of : Settings → ℕ
fillfactor_of settings = unwrap_or settings.fillfactor 90

abbrev pub deduplicate_of : Settings → Bool
deduplicate_of settings = unwrap_or settings.deduplicate_items true

abbrev pub pages_per_range_of : Settings → ℕ
pages_per_range_of settings = unwrap_or settings.pages_per_range 128

-- the options with one more, where there is a value at all
abbrev pub with_value : Settings → OptionName → Option TokenValue → Result Settings StmtCause
with_value settings name value = option_map_or (with_option settings name) value (Err OutOfRange)
