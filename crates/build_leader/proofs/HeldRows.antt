-- What workers hold: of no rows, of more rows, of rows in another order, and of two workers together.
use Rattle.std.proofs.Common.{◌≡◌, List, [], ◌∷◌, ◌++◌, length, refl, sym, ap, subst, ◌∙◌, arith}
use Rattle.std.specs.List.Sorted.{IsPermutation}
use Rattle.std.proofs.lemmas.List.{append_assoc, append-nil}
use Rattle.std.proofs.lemmas.List.Sorted.{IsPermutation-append, IsPermutation-refl, IsPermutation-sym, IsPermutation-trans, length_permutation}
use Rattle.opclass.specs.declared.spec.IndexSpec.{IndexSpec}
use Rattle.opclass.specs.declared.types.Method.{Method}
use Rattle.opclass.specs.declared.types.Method.TheVariants.{BTree, Brin, Gin}
use Rattle.shared_tape.specs.declared.stored.Record.{Record}
use Rattle.brin_summary.specs.declared.ranges.SummedRange.{SummedRange}
use Rattle.build_leader.specs.declared.scan.sink.Sink.{Sink}
use Rattle.build_leader.specs.Entries.{rows_entries}
use Rattle.build_leader.specs.Holding.{Held, HoldBy, HoldRows, StaysSuited, Suits, TakesInto, held_by, held_together}
use Rattle.build_leader.proofs.EntryRows.{entries_append, entries_permuted}
use Rattle.build_leader.proofs.Holding.{hold_append, hold_none as no_ranges, hold_permuted as ranges_permuted}

-- ---- nothing

abbrev pub nothing_held : Held
nothing_held = record { records = []; ranges = [] }

hold_none_by : (method : Method) (spec : IndexSpec) → HoldBy method spec [] nothing_held
hold_none_by BTree spec = (IsPermutation-refl [], refl)
hold_none_by Brin spec = (refl, no_ranges spec)
hold_none_by Gin spec = (IsPermutation-refl [], refl)

pub hold_none : (spec : IndexSpec) → HoldRows spec [] nothing_held
hold_none spec = hold_none_by spec.method spec

-- ---- together

nothing_together : {X : Type 0} (a b : List X) → a ≡ [] → b ≡ [] → a ++ b ≡ []
nothing_together a b first second = ap (λ front. front ++ b) first ∙ second

hold_together_by : (method : Method) (spec : IndexSpec) (rows others : List Record) (a b : Held) → HoldBy method spec rows a
    → HoldBy method spec others b → HoldBy method spec (rows ++ others) (held_together a b)
hold_together_by BTree spec rows others a b one other =
    (IsPermutation-append rows a.records others b.records one.0 other.0, nothing_together a.ranges b.ranges one.1 other.1)
hold_together_by Brin spec rows others a b one other =
    (nothing_together a.records b.records one.0 other.0, hold_append spec rows others a.ranges b.ranges one.1 other.1)
hold_together_by Gin spec rows others a b one other = (
  subst (λ (entries : List Record). IsPermutation entries (a.records ++ b.records)) (sym (entries_append rows others))
      (IsPermutation-append (rows_entries rows) a.records (rows_entries others) b.records one.0 other.0),
  nothing_together a.ranges b.ranges one.1 other.1,
)

pub hold_together : (spec : IndexSpec) (rows others : List Record) (a b : Held) → HoldRows spec rows a → HoldRows spec others b
    → HoldRows spec (rows ++ others) (held_together a b)
hold_together spec rows others a b one other = hold_together_by spec.method spec rows others a b one other

-- ---- in another order

hold_permuted_by : (method : Method) (spec : IndexSpec) (rows others : List Record) (held : Held) → IsPermutation rows others
    → HoldBy method spec rows held → HoldBy method spec others held
hold_permuted_by BTree spec rows others held same hold =
    (IsPermutation-trans others rows held.records (IsPermutation-sym rows others same) hold.0, hold.1)
hold_permuted_by Brin spec rows others held same hold =
    (hold.0, ranges_permuted spec rows others held.ranges same hold.1)
hold_permuted_by Gin spec rows others held same hold = (
  IsPermutation-trans (rows_entries others) (rows_entries rows) held.records
      (entries_permuted others rows (IsPermutation-sym rows others same)) hold.0,
  hold.1,
)

pub hold_permuted : (spec : IndexSpec) (rows others : List Record) (held : Held) → IsPermutation rows others
    → HoldRows spec rows held → HoldRows spec others held
hold_permuted spec rows others held same hold = hold_permuted_by spec.method spec rows others held same hold

-- the records held in another order
none_permuted : (records moved : List Record) → IsPermutation records moved → records ≡ [] → moved ≡ []
none_permuted records [] same none = refl
none_permuted records (record' ∷ moved) same none =
    let count = length_permutation records (record' ∷ moved) same in
    let nothing = ap length none in
    absurd (omega (arith, count, nothing))

hold_moved_by : (method : Method) (spec : IndexSpec) (rows records moved : List Record) (ranges : List SummedRange)
    → IsPermutation records moved → HoldBy method spec rows (record { records = records; ranges = ranges })
    → HoldBy method spec rows (record { records = moved; ranges = ranges })
hold_moved_by BTree spec rows records moved ranges same hold = (IsPermutation-trans rows records moved hold.0 same, hold.1)
hold_moved_by Brin spec rows records moved ranges same hold = (none_permuted records moved same hold.0, hold.1)
hold_moved_by Gin spec rows records moved ranges same hold =
    (IsPermutation-trans (rows_entries rows) records moved hold.0 same, hold.1)

pub hold_moved : (spec : IndexSpec) (rows records moved : List Record) (ranges : List SummedRange) → IsPermutation records moved
    → HoldRows spec rows (record { records = records; ranges = ranges })
    → HoldRows spec rows (record { records = moved; ranges = ranges })
hold_moved spec rows records moved ranges same hold = hold_moved_by spec.method spec rows records moved ranges same hold

-- ---- what goes into a sink

pub takes_none : (spec : IndexSpec) (sink : Sink) → TakesInto spec sink [] sink
takes_none spec sink before hold =
    subst (λ (rows : List Record). HoldRows spec rows (held_by sink)) (sym (append-nil before)) hold

pub takes_both : (spec : IndexSpec) (old mid new : Sink) (rows others : List Record) → TakesInto spec old rows mid
    → TakesInto spec mid others new → TakesInto spec old (rows ++ others) new
takes_both spec old mid new rows others first second before hold =
    subst (λ (all : List Record). HoldRows spec all (held_by new)) (append_assoc before rows others)
    (second (before ++ rows) (first before hold))

pub stays_suited : (spec : IndexSpec) (old new : Sink) → StaysSuited old new → Suits spec old → Suits spec new
stays_suited spec old new stays suits = (suits.0, stays spec suits.0 suits.1)

pub stays_both : (old mid new : Sink) → StaysSuited old mid → StaysSuited mid new → StaysSuited old new
stays_both old mid new first second spec run_rows is = second spec run_rows (first spec run_rows is)
