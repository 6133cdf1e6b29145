use Rattle.std.proofs.Common.{◌≡◌, ℕ, List, All, subst, sym, ◌∙◌}
use Rattle.std.specs.Prelude.{Contains}
use Rattle.std.specs.Cmp.Lexicographic.{same_text}
use Rattle.build_leader.specs.IndexRow.{index_columns, needed_of}
use Rattle.build_leader.specs.Reader.{AreAt}
use Rattle.build_leader.proofs.Needed.{columns_are_needed, same_needed}
use Rattle.build_leader.proofs.scan.row_reader.RowReader.of.Goals as goal

pub places_of-requires : goal.places_of-requires
places_of-requires c =
    let t = c.args.plan.now.table in
    let s = c.args.plan.now.spec in
    let needed : needed_of t s ≡ c.as_slice.result.now = sym (c.as_slice.ensures ∙ same_needed t s c.requires.index c.in_ok-needed.needed c.in_ok-needed.ensures) in
    let columns : index_columns s ≡ c.deref.result.now = sym (c.deref.ensures.value ∙ c.in_ok-columns.ensures) in
    subst (λ (listed : List ℕ). All (Contains c.as_slice.result.now) listed) columns
    (subst (λ (all : List ℕ). All (Contains all) (index_columns s)) needed (columns_are_needed t s c.requires.index))

pub invariant_of-result : goal.invariant_of-result
invariant_of-result c =
    let t = c.args.plan.now.table in
    let s = c.args.plan.now.spec in
    record {
      index = record { table_is = c.requires.table; over = c.requires.index };
      needed = same_needed t s c.requires.index c.in_ok-needed.needed c.in_ok-needed.ensures;
      kinds = c.in_ok-kinds_of.ensures;
      places =
          subst (λ (listed : List ℕ). AreAt c.in_ok-needed.needed c.in_ok-places.places.items listed) (c.deref.ensures.value ∙ c.in_ok-columns.ensures)
          (subst (λ (all : List ℕ). AreAt all c.in_ok-places.places.items c.deref.result.now) c.as_slice.ensures c.in_ok-places.ensures);
      as_needed = λ told.
          sym c.as_slice-2.ensures
          ∙ same_text c.as_slice-2.result.now c.as_slice-3.result.now (sym told ∙ c.eq-as_needed.ensures)
          ∙ c.as_slice-3.ensures.value ∙ c.in_ok-columns.ensures;
    }
