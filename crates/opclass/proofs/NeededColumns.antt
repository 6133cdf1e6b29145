-- How the columns that an index needs follow from those that it names.
use Rattle.std.proofs.Common.{◌≡◌, subst, sym, List, [], ℕ, eqb, nat_cmp}
use Rattle.std.specs.Prelude.{Contains}
use Rattle.std.specs.List.{dedup}
use Rattle.std.specs.List.Retain.{DiffersFromLast, IsFiltered}
use Rattle.std.specs.List.Sorted.{IsPermutation, IsSorted, IsStrictlyIncreasing}
use Rattle.std.proofs.lemmas.List.Filters.{dedup_is}
use Rattle.std.proofs.lemmas.List.Kept.{Contains-dedup_nat, Contains-from_dedup}
use Rattle.std.proofs.lemmas.List.Sorted.{Contains-permutation, IsPermutation-sym}
use Rattle.std.proofs.lemmas.Map.Keys.{IsStrictlyIncreasing-dedup}
use Rattle.opclass.specs.declared.spec.IndexSpec.{IndexSpec}
use Rattle.opclass.specs.Needed.{named_columns, EachNamedOnce}

-- the named columns, sorted and without repeats
pub each_named_once : (spec : IndexSpec) (named sorted columns : List ℕ) → named ≡ named_columns spec → IsPermutation named sorted → IsSorted nat_cmp sorted
    → IsFiltered (DiffersFromLast eqb) [] sorted columns → EachNamedOnce spec columns
each_named_once spec named sorted columns is moved ascends kept =
    let left : columns ≡ dedup eqb sorted = dedup_is eqb sorted columns kept in
    record {
      ascending = subst IsStrictlyIncreasing (sym left) (IsStrictlyIncreasing-dedup sorted ascends);
      same = λ column. (
        (λ there. subst (λ xs. Contains xs column) is
            (Contains-permutation sorted named column (IsPermutation-sym named sorted moved)
            (Contains-from_dedup eqb sorted column (subst (λ xs. Contains xs column) left there)))),
        (λ there. subst (λ xs. Contains xs column) (sym left)
            (Contains-dedup_nat sorted column
            (Contains-permutation named sorted column moved (subst (λ xs. Contains xs column) (sym is) there)))),
      );
    }
