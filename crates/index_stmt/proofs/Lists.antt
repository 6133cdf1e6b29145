-- Which rules take a token where they read something, and lists of items that do.
use Rattle.std.proofs.Common.{◌≡◌, ℕ, zero, suc, ◌<◌, ◌≤◌, Bool, true, false, cond, List, length, drop, Result, Ok, Err, refl, ap, ◌∙◌, sym, arith, length-drop, All}
use Rattle.stmt_token.specs.Spelling.{CanBeQuoted}
use Rattle.stmt_token.specs.Tokens.{TokenValue}
use Rattle.index_stmt.specs.declared.fault.StmtCause.{StmtCause}
use Rattle.index_stmt.specs.declared.fault.Stop.{Stop}
use Rattle.index_stmt.specs.declared.fault.Stop.TheVariants as stops
use Rattle.index_stmt.specs.Pass.{Ahead, Reads, ReadsFreely}
use Rattle.index_stmt.specs.Rule.{Read, Rule, go_on, ◌>>=◌, done, if_next, listed, next_is, separated}

-- where a rule reads something, tokens are left whose names can be quoted if those of all can
abbrev pub Leaves : {A : Type 0} → Rule A → Type 0
Leaves {A} rule =
    (tokens : List TokenValue) (value : A) (rest : List TokenValue) → rule tokens ≡ Ok (value, rest) → All CanBeQuoted tokens → All CanBeQuoted rest

-- fewer tokens are left where the rule reads something
pub record Takes {A : Type 0} (rule : Rule A) : Type 0 where
  pub fewer : (tokens : List TokenValue) (value : A) (rest : List TokenValue) → rule tokens ≡ Ok (value, rest) → length rest < length tokens
  pub leaves : Leaves rule

-- no more tokens are left
pub record Keeps {A : Type 0} (rule : Rule A) : Type 0 where
  pub no_more : (tokens : List TokenValue) (value : A) (rest : List TokenValue) → rule tokens ≡ Ok (value, rest) → length rest ≤ length tokens
  pub leaves : Leaves rule

-- where two rules in a row read something, the first one did
pub both_read : {A B : Type 0} (read : Read A) (next : A → Rule B) (value : B) (rest : List TokenValue) → go_on read next ≡ Ok (value, rest)
    → (first : A) × (between : List TokenValue) × (read ≡ Ok (first, between)) × (next first between ≡ Ok (value, rest))
both_read (Ok (first, between)) next value rest e = (first, between, refl, e)
both_read (Err fault) next value rest e = cc

pub takes_first : {A B : Type 0} (rule : Rule A) (next : A → Rule B) → Takes rule → ((x : A) → Keeps (next x)) → Takes (rule >>= next)
takes_first rule next takes keeps = record {
  fewer = λ tokens value rest e.
      let both = both_read (rule tokens) next value rest e in
      let less = takes.fewer tokens both.0 both.1 both.2 in
      let most = (keeps both.0).no_more both.1 value rest both.3 in
      omega (arith, less, most);
  leaves = λ tokens value rest e each.
      let both = both_read (rule tokens) next value rest e in
      (keeps both.0).leaves both.1 value rest both.3 (takes.leaves tokens both.0 both.1 both.2 each);
}

pub keeps_both : {A B : Type 0} (rule : Rule A) (next : A → Rule B) → Keeps rule → ((x : A) → Keeps (next x)) → Keeps (rule >>= next)
keeps_both rule next first keeps = record {
  no_more = λ tokens value rest e.
      let both = both_read (rule tokens) next value rest e in
      let less = first.no_more tokens both.0 both.1 both.2 in
      let most = (keeps both.0).no_more both.1 value rest both.3 in
      omega (arith, less, most);
  leaves = λ tokens value rest e each.
      let both = both_read (rule tokens) next value rest e in
      (keeps both.0).leaves both.1 value rest both.3 (first.leaves tokens both.0 both.1 both.2 each);
}

pub takes_keeps : {A : Type 0} (rule : Rule A) → Takes rule → Keeps rule
takes_keeps rule takes = record {
  no_more = λ tokens value rest e. let less = takes.fewer tokens value rest e in omega (arith, less);
  leaves = takes.leaves;
}

-- items take tokens, and each list of more than enough of them is the same
enough_after : {S : Type 0} (between : TokenValue → Bool) (more less : S → Rule S) (after : S) (rest : List TokenValue)
    → more after (drop 1 rest) ≡ less after (drop 1 rest) → if_next between (more after) (done after) rest ≡ if_next between (less after) (done after) rest
enough_after between more less after rest same = ap (λ r. cond (next_is between rest) r (Ok (after, rest))) same

enough_read : {S : Type 0} (between : TokenValue → Bool) (more less : S → Rule S) (read : Read S)
    → ((after : S) (rest : List TokenValue) → read ≡ Ok (after, rest) → more after (drop 1 rest) ≡ less after (drop 1 rest))
    → go_on read (λ after. if_next between (more after) (done after)) ≡ go_on read (λ after. if_next between (less after) (done after))
enough_read between more less (Ok (after, rest)) same = enough_after between more less after rest (same after rest refl)
enough_read between more less (Err fault) same = refl

none_read : {S : Type 0} (read : Read S) (next : S → Rule S) → ((after : S) (rest : List TokenValue) → read ≡ Ok (after, rest) → ⊥) → read ≡ go_on read next
none_read (Ok (after, rest)) next none = absurd (none after rest refl)
none_read (Err fault) next none = refl

pub listed-enough : {S : Type 0} (between : TokenValue → Bool) (item : S → Rule S) → ((s : S) → Takes (item s))
    → (m n : ℕ) (before : S) (tokens : List TokenValue) → length tokens ≤ m → length tokens ≤ n
    → listed m between item before tokens ≡ listed n between item before tokens
listed-enough between item takes zero zero before tokens hm hn = refl
listed-enough between item takes zero (suc n) before tokens hm hn =
    none_read (item before tokens) _ (λ after rest e. let less = (takes before).fewer tokens after rest e in absurd (omega (arith, less)))
listed-enough between item takes (suc m) zero before tokens hm hn =
    sym (none_read (item before tokens) _ (λ after rest e. let less = (takes before).fewer tokens after rest e in absurd (omega (arith, less))))
listed-enough between item takes (suc m) (suc n) before tokens hm hn =
    enough_read between (listed m between item) (listed n between item) (item before tokens) (λ after rest e.
    let less = (takes before).fewer tokens after rest e in
    let dropped = length-drop 1 rest in
    listed-enough between item takes m n after (drop 1 rest) (omega (arith, less, dropped)) (omega (arith, less, dropped)))

-- a list is an item and, behind the token between them, a list
pub separated-step : {S : Type 0} (between : TokenValue → Bool) (item : S → Rule S) → ((s : S) → Takes (item s))
    → (before : S) (tokens : List TokenValue)
    → separated between item before tokens ≡ go_on (item before tokens) (λ after. if_next between (separated between item after) (done after))
unfolding separated
separated-step between item takes before tokens =
    listed-enough between item takes (length tokens) (suc (length tokens)) before tokens (omega arith) (omega arith)
    ∙ enough_read between (listed (length tokens) between item) (separated between item) (item before tokens) (λ after rest e.
    let less = (takes before).fewer tokens after rest e in
    let dropped = length-drop 1 rest in
    listed-enough between item takes (length tokens) (length (drop 1 rest)) after (drop 1 rest) (omega (arith, less, dropped)) (omega arith))

pub separated-more : {S : Type 0} (between : TokenValue → Bool) (item : S → Rule S) → ((s : S) → Takes (item s))
    → (before after : S) (tokens rest : List TokenValue) → item before tokens ≡ Ok (after, rest) → next_is between rest ≡ true
    → separated between item before tokens ≡ separated between item after (drop 1 rest)
separated-more between item takes before after tokens rest read more =
    separated-step between item takes before tokens ∙ rw (read, more) refl

pub separated-last : {S : Type 0} (between : TokenValue → Bool) (item : S → Rule S) → ((s : S) → Takes (item s))
    → (before after : S) (tokens rest : List TokenValue) → item before tokens ≡ Ok (after, rest) → next_is between rest ≡ false
    → separated between item before tokens ≡ Ok (after, rest)
separated-last between item takes before after tokens rest read last =
    separated-step between item takes before tokens ∙ rw (read, last) refl

pub separated-fault : {S : Type 0} (between : TokenValue → Bool) (item : S → Rule S) → ((s : S) → Takes (item s))
    → (before : S) (tokens : List TokenValue) (fault : StmtCause × List TokenValue) → item before tokens ≡ Err fault
    → separated between item before tokens ≡ Err fault
separated-fault between item takes before tokens fault read =
    separated-step between item takes before tokens ∙ rw read refl

-- a rule's function that stops where another one does stops at the same fault
pub fault_same : {A : Type 0} (inner outer : Rule A) (at begun new : Ahead) (stop : Stop)
    → ((fault : StmtCause × List TokenValue) → inner at.tokens ≡ Err fault → outer begun.tokens ≡ Err fault)
    → at.text ≡ begun.text → Reads inner at (Err stop) new → Reads outer begun (Err stop) new
fault_same inner outer at begun new (stops.Fault cause) same text read = (same _ read.0, read.1 ∙ text)
fault_same inner outer at begun new stops.Memory same text read = tt

-- the same of a function that takes no memory
pub free_fault_same : {A : Type 0} (inner outer : Rule A) (at begun new : Ahead) (cause : StmtCause)
    → ((fault : StmtCause × List TokenValue) → inner at.tokens ≡ Err fault → outer begun.tokens ≡ Err fault)
    → at.text ≡ begun.text → ReadsFreely inner at (Err cause) new → ReadsFreely outer begun (Err cause) new
free_fault_same inner outer at begun new cause same text read = (same _ read.0, read.1 ∙ text)

-- what one rule's function reads, another's reads too that comes to the same
pub reads_same : {A : Type 0} (inner outer : Rule A) (at begun new : Ahead) (result : Result A Stop)
    → outer begun.tokens ≡ inner at.tokens → at.text ≡ begun.text → Reads inner at result new → Reads outer begun result new
reads_same inner outer at begun new (Ok value) same text read = (same ∙ read.0, read.1 ∙ text)
reads_same inner outer at begun new (Err (stops.Fault cause)) same text read = (same ∙ read.0, read.1 ∙ text)
reads_same inner outer at begun new (Err stops.Memory) same text read = tt
