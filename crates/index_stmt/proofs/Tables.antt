-- Which tables the statement of a table describes.
use Rattle.std.proofs.Common.{◌≡◌, ◌≢◌, ℕ, zero, suc, ◌<◌, ◌≤◌, ◌+◌, Bool, true, false, cond, List, [], ◌∷◌, ◌++◌, length, drop, get_or, Some, is_some, Ok, Err, refl, ap, ◌∙◌, sym, subst, arith, length-append, nat_lt, All, AllPairs, codes, lit≤}
use Rattle.std.proofs.Math.ListN.{get_or-append}
use Rattle.std.proofs.Math.Seq.{get_or-append_seam}
use Rattle.std.proofs.lemmas.Bool.Decides.{nat_tests}
use Rattle.std.proofs.lemmas.List.Elements.{All-drop}
use Rattle.std.proofs.lemmas.Slice.Eq.{bytes_eq-Decides}
use Rattle.std.specs.Str.{bytes_eq}
use borrow.Author.Count.{below_more}
use Rattle.stmt_token.specs.declared.sign.Sign.TheVariants.{Comma, LeftParen, RightParen}
use Rattle.stmt_token.specs.Spelling.{CanBeQuoted}
use Rattle.stmt_token.specs.Tokens.{TokenValue}
use Rattle.opclass.specs.declared.table.Column.{Column}
use Rattle.opclass.specs.declared.table.Table.{Table}
use Rattle.index_stmt.specs.declared.fault.StmtCause.TheVariants.{NotAllowed, Repeated}
use Rattle.index_stmt.specs.Columns.{column_from, column_named}
use Rattle.opclass.specs.Indexes.{IsTable}
use Rattle.index_stmt.specs.Rule.{Read, Rule, done, if_next, is_sign, judged, listed, meaning, next_is, separated, sign, word}
use Rattle.index_stmt.specs.Names.{name, qualified}
use Rattle.index_stmt.specs.Columns.{collation}
use Rattle.index_stmt.specs.TypeNames.{type_name}
use Rattle.index_stmt.specs.TableStatement.{column, end_of_statement, new_name, nullness, table_statement}
use Rattle.index_stmt.proofs.Lists.{Takes, both_read}

-- the values of two readings that are one
pub same_value : {A : Type 0} (x y : A) (s t : List TokenValue) → ◌≡◌ {A = Read A} (Ok (x, s)) (Ok (y, t)) → x ≡ y
same_value {A} x y s t e =
    let p : ◌≡◌ {A = A × List TokenValue} (x, s) (y, t) = cc in
    ap (λ (r : A × List TokenValue). r.0) p

-- behind an item the list goes on or ends
list_ends : {S : Type 0} (Q : S → Type 0) (between : TokenValue → Bool) (more : S → Rule S) (first after : S) (mid rest : List TokenValue)
    → Q first → (more first (drop 1 mid) ≡ Ok (after, rest) → Q after)
    → if_next between (more first) (done first) mid ≡ Ok (after, rest) → Q after
list_ends Q between more first after mid rest q on e = ends (next_is between mid) e
  where
    ends : (b : Bool) → cond b (more first (drop 1 mid)) (Ok (first, mid)) ≡ Ok (after, rest) → Q after
    ends true e = on e
    ends false e = subst Q (same_value first after mid rest e) q

-- where each item leads from P to Q, and from tokens with T to such, a list of them does
listed_leads : {S : Type 0} (P Q : S → Type 0) (T : List TokenValue → Type 0) (between : TokenValue → Bool) (item : S → Rule S)
    → ((s : S) (tokens : List TokenValue) (after : S) (rest : List TokenValue) → P s → T tokens → item s tokens ≡ Ok (after, rest) → Q after × T rest)
    → ((s : S) → Q s → P s) → ((tokens : List TokenValue) → T tokens → T (drop 1 tokens))
    → (more : ℕ) (before : S) (tokens : List TokenValue) (after : S) (rest : List TokenValue) → P before → T tokens
    → listed more between item before tokens ≡ Ok (after, rest) → Q after
listed_leads P Q T between item step weaker behind zero before tokens after rest p t e = (step before tokens after rest p t e).0
listed_leads P Q T between item step weaker behind (suc more) before tokens after rest p t e =
    let both = both_read (item before tokens) _ after rest e in
    let led = step before tokens both.0 both.1 p t both.2 in
    list_ends Q between (listed more between item) both.0 after both.1 rest led.0
    (λ on. listed_leads P Q T between item step weaker behind more both.0 (drop 1 both.1) after rest (weaker both.0 led.0) (behind both.1 led.1) on) both.3

pub separated_leads : {S : Type 0} (P Q : S → Type 0) (between : TokenValue → Bool) (item : S → Rule S)
    → ((s : S) (tokens : List TokenValue) (after : S) (rest : List TokenValue) → P s → item s tokens ≡ Ok (after, rest) → Q after)
    → ((s : S) → Q s → P s)
    → (before : S) (tokens : List TokenValue) (after : S) (rest : List TokenValue) → P before
    → separated between item before tokens ≡ Ok (after, rest) → Q after
unfolding separated
separated_leads P Q between item step weaker before tokens after rest p e =
    listed_leads P Q (λ tokens. Unit {0}) between item (λ s tokens after rest p t e. (step s tokens after rest p e, tt)) weaker (λ tokens t. tt)
    (length tokens) before tokens after rest p tt e

-- the same of items that a rule reads from tokens whose names can be quoted
pub separated_named : {S : Type 0} (P : S → Type 0) (between : TokenValue → Bool) (item : S → Rule S) → ((s : S) → Takes (item s))
    → ((s : S) (tokens : List TokenValue) (after : S) (rest : List TokenValue) → P s → All CanBeQuoted tokens → item s tokens ≡ Ok (after, rest) → P after)
    → (before : S) (tokens : List TokenValue) (after : S) (rest : List TokenValue) → P before → All CanBeQuoted tokens
    → separated between item before tokens ≡ Ok (after, rest) → P after
unfolding separated
separated_named P between item takes step before tokens after rest p each e =
    listed_leads P P (λ tokens. All CanBeQuoted tokens) between item
    (λ s tokens after rest p each e. (step s tokens after rest p each e, (takes s).leaves tokens after rest e each)) (λ s p. p)
    (λ tokens each. All-drop CanBeQuoted 1 tokens each)
    (length tokens) before tokens after rest p each e

-- each pair of a list and of one more item
pub pairs_push : {X : Type 0} (R : X → X → Type 0) (xs : List X) (x : X) → AllPairs R xs → All (λ a. R a x) xs → AllPairs R (xs ++ x ∷ [])
pairs_push {X} R xs x pairs each i j d below inside =
    below_more (λ j. (i : ℕ) (d : X) → i < j → R (get_or (xs ++ x ∷ []) i d) (get_or (xs ++ x ∷ []) j d)) (length xs)
    (λ j inside i d below. rw (get_or-append xs (x ∷ []) d i (omega arith), get_or-append xs (x ∷ []) d j inside) (pairs i j d below inside))
    (λ i d below. rw (get_or-append xs (x ∷ []) d i below, get_or-append_seam xs x [] d) (each i d below))
    j (omega (arith, length-append xs (x ∷ []))) i d below

true_is_not_false : true ≡ false → ⊥
true_is_not_false e = cc

-- a name that isn't found is no column's
not_first : (b : Bool) (wanted : List ℕ) (first : Column) (others : List Column) (number : ℕ) → bytes_eq first.name wanted ≡ b
    → is_some (cond b (Some (record { number = number; kind = first.kind })) (column_from (number + 1) others wanted)) ≡ false
    → (is_some (column_from (number + 1) others wanted) ≡ false → (k : ℕ) (d : Column) → k < length others → (get_or others k d).name ≢ wanted)
    → (k : ℕ) (d : Column) → k < suc (length others) → (get_or (first ∷ others) k d).name ≢ wanted
not_first true wanted first others number same none rest k d inside = absurd (true_is_not_false none)
not_first false wanted first others number same none rest zero d inside =
    λ e. absurd (true_is_not_false (sym ((bytes_eq-Decides first.name wanted).1 e) ∙ same))
not_first false wanted first others number same none rest (suc k) d inside = rest none k d (omega arith)

not_found : (number : ℕ) (columns : List Column) (wanted : List ℕ) → is_some (column_from number columns wanted) ≡ false
    → (k : ℕ) (d : Column) → k < length columns → (get_or columns k d).name ≢ wanted
not_found number [] wanted none k d inside = absurd (omega arith)
not_found number (first ∷ others) wanted none k d inside =
    not_first (bytes_eq first.name wanted) wanted first others number refl none (not_found (number + 1) others wanted) k d inside

pub record AreColumns (columns : List Column) : Type 0 where
  pub most : length columns ≤ 1600
  pub differ : AllPairs (λ a b. a.name ≢ b.name) columns

-- a name that is let through is new, and there is room for it
pub let_through : (found : Bool) (room : Bool) (name meant : List ℕ) (begun tokens rest : List TokenValue)
    → judged (cond found (Err Repeated) (cond room (Ok name) (Err NotAllowed))) begun tokens ≡ Ok (meant, rest)
    → (found ≡ false) × (room ≡ true) × (name ≡ meant)
let_through true room name meant begun tokens rest e = cc
let_through false true name meant begun tokens rest e = (refl, refl, same_value name meant tokens rest e)
let_through false false name meant begun tokens rest e = cc

-- one more column than there are
longer : (columns : List Column) (one : Column) → AreColumns columns → length columns < 1600 → All (λ column. column.name ≢ one.name) columns
    → (0 < length (columns ++ one ∷ [])) × AreColumns (columns ++ one ∷ [])
longer columns one are room new = (
  omega (arith, length-append columns (one ∷ [])),
  record {
    most = omega (arith, length-append columns (one ∷ []));
    differ = pairs_push (λ a b. a.name ≢ b.name) columns one are.differ new;
  },
)

-- one more column
column_leads : (columns : List Column) (tokens : List TokenValue) (after : List Column) (rest : List TokenValue) → AreColumns columns
    → column columns tokens ≡ Ok (after, rest) → (0 < length after) × AreColumns after
unfolding column
column_leads columns tokens after rest are e =
    let named = both_read (meaning name (new_name columns) tokens) _ after rest e in
    let typed = both_read (type_name named.1) _ after rest named.3 in
    let collated = both_read (collation typed.0 typed.1) _ after rest typed.3 in
    let nulls = both_read (nullness collated.1) _ after rest collated.3 in
    let is = same_value _ after nulls.1 rest nulls.3 in
    let read = both_read (name tokens) _ named.0 named.1 named.2 in
    let new = let_through (is_some (column_named columns read.0)) (nat_lt (length columns) 1600) read.0 named.0 tokens read.1 named.1 read.3 in
    let one : Column = record { name = named.0; kind = typed.0 } in
    subst (λ columns. (0 < length columns) × AreColumns columns) is (longer columns one are (room new.1)
    (λ k d inside. subst (λ name. (get_or columns k d).name ≢ name) new.2 (not_found 1 columns read.0 new.0 k d inside)))
  where
    room : nat_lt (length columns) 1600 ≡ true → length columns < 1600
    room e = grind (arith, nat_tests)

-- the statement of a table describes a table
pub table_is : (tokens : List TokenValue) (table : Table) (rest : List TokenValue) → table_statement tokens ≡ Ok (table, rest) → IsTable table
unfolding table_statement
table_is tokens table rest e =
    let a = both_read (word (codes "create") tokens) _ table rest e in
    let b = both_read (word (codes "table") a.1) _ table rest a.3 in
    let c = both_read (qualified name b.1) _ table rest b.3 in
    let d = both_read (sign LeftParen c.1) _ table rest c.3 in
    let f = both_read (separated (is_sign Comma) column [] d.1) _ table rest d.3 in
    let g = both_read (sign RightParen f.1) _ table rest f.3 in
    let h = both_read (end_of_statement g.1) _ table rest g.3 in
    let is = same_value _ table h.1 rest h.3 in
    let columns = separated_leads AreColumns (λ columns. (0 < length columns) × AreColumns columns) (is_sign Comma) column column_leads (λ s both. both.1)
    [] d.1 f.0 f.1 (record { most = lit≤ tt; differ = λ i j d below inside. absurd (omega arith) }) f.2 in
    subst IsTable is (record { some = columns.0; most = columns.1.most; differ = columns.1.differ })
