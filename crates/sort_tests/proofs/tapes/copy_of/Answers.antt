use Rattle.std.proofs.Common.{◌≡◌, ℕ, zero, suc, ◌+◌, ◌-◌, ◌≤◌, List, [], ◌∷◌, ◌++◌, length, take, drop, arith, refl, sym, ap, ◌∙◌, subst, is_lt}
use Rattle.std.specs.Prelude.{slice_range}
use Rattle.std.proofs.lemmas.List.{get_or-take, length-take-le}
use Rattle.opclass.specs.declared.spec.SortPart.{SortPart}
use Rattle.shared_tape.specs.declared.stored.Record.{Record}
use Rattle.shared_tape.specs.Stored.{record_cmp}
use Rattle.shared_tape.specs.Runs.{RunView, IsAscending, with_record_of}
use Rattle.sort_tests.proofs.tapes.copy_of.Goals as goal

front_and_one : (at one all : ℕ) (rows : List Record) → one ≡ 1 → all ≡ suc at → take at rows ++ take one (drop at rows) ≡ take all rows
front_and_one zero one all rows e f = ap (λ (n : ℕ). take n rows) e ∙ sym (ap (λ (n : ℕ). take n rows) f)
front_and_one (suc at) one all [] e f = ap (λ (n : ℕ). take n []) e ∙ sym (ap (λ (n : ℕ). take n []) f)
front_and_one (suc at) one all (row ∷ rows) e f =
    ap (λ (others : List Record). row ∷ others) (front_and_one at one (suc at) rows e refl) ∙ sym (ap (λ (n : ℕ). take n (row ∷ rows)) f)

-- a front of a run with the next record is a longer front
one_more : (run : RunView) (at : ℕ) (rows : List Record) → rows ≡ take at run.records → with_record_of run at rows ≡ take (at + 1) run.records
one_more run at rows is =
    ap (λ (front : List Record). front ++ slice_range run.records at (at + 1)) is
    ∙ front_and_one at (at + 1 - at) (at + 1) run.records (omega arith) (omega arith)

front_ascending : (order : List SortPart) (n : ℕ) (rows : List Record) → n ≤ length rows → IsAscending order rows → IsAscending order (take n rows)
front_ascending order n rows within up k d low inside =
    let size = length-take-le n rows within in
    (λ i. is_lt (record_cmp order (get_or-take n rows (k + 1) d (omega arith) i) (get_or-take n rows k d (omega arith) i)))
    ∙ up k d low (omega arith)

pub append_from-requires-clause-ascending : goal.append_from-requires-clause-ascending
append_from-requires-clause-ascending c =
    subst (λ (order : List SortPart). IsAscending order (with_record_of c.args.run.now c.loop-at.at c.loop-at.copy.records)) (sym c.loop-at.invariant.order)
    (subst (IsAscending c.args.run.now.order) (sym (one_more c.args.run.now c.loop-at.at c.loop-at.copy.records c.loop-at.invariant.records))
    (front_ascending c.args.run.now.order (c.loop-at.at + 1) c.args.run.now.records
    (omega (arith, c.len-at-end.ensures.length, c.loop-at-test.true)) c.len-at-end.ensures.run.ascending))

pub loop-at-preserved : goal.loop-at-preserved
loop-at-preserved c = record {
  order = ap (λ (run : RunView). run.order) c.in_ok-append_from.ensures.ok ∙ c.loop-at.invariant.order;
  records =
      ap (λ (run : RunView). run.records) c.in_ok-append_from.ensures.ok
      ∙ one_more c.args.run.now c.loop-at.at c.loop-at.copy.records c.loop-at.invariant.records;
}
