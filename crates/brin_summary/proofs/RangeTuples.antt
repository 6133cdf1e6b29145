-- Which ranges' tuples there are, and what they begin with.
use Rattle.std.proofs.Common.{◌≡◌, ◌⊎◌, ⊎_elim, ℕ, zero, suc, ◌+◌, ◌*◌, Bool, true, false, ◌&&◌, List, [], ◌∷◌, length, map, take, Some, slice_get, All, refl, sym, ap, subst, ◌∙◌, arith}
use Rattle.std.specs.List.{AllZip, range_with_len}
use Rattle.std.proofs.lemmas.List.{take_at}
use Rattle.std.proofs.lemmas.List.Elements.{All-cons, All-head, All-nil, All-tail}
use Rattle.std.proofs.lemmas.Slice.Zip.{AllZip-long}
use Rattle.pg_bytes.proofs.ItemPage.{length-aligned}
use Rattle.pg_bytes.specs.PageLayout.{aligned}
use Rattle.opclass.specs.Values.{IsValueOf}
use Rattle.opclass.specs.declared.types.ColType.{ColType}
use Rattle.opclass.specs.declared.value.KeyVal.{KeyVal}
use Rattle.opclass.specs.declared.value.KeyVal.TheVariants.{Nil, Num, Raw, Items}
use Rattle.tuple_data.specs.Nulls.{is_null}
use Rattle.brin_summary.proofs.Choosing.{greater-comm, greater-either, greater-null, lesser-comm, lesser-either, lesser-null}
use Rattle.brin_summary.proofs.Flags.{length-bounds_of, length-null_flags}
use Rattle.brin_summary.proofs.Tuples.{length-tuple_header, tuple_size-anywhere}
use Rattle.brin_summary.specs.Laws.{SummariesHaveTuples, TuplesHaveTheirHeader}
use Rattle.brin_summary.specs.Reading.{HasPair}
use Rattle.brin_summary.specs.Summary.{ColumnSummary, RangeSummary, column_summary, greater, greatest, is_some_row, least, lesser, summary_of, value_in}
use Rattle.brin_summary.specs.Tuple.{bound_kinds, bounds_of, header_bytes, header_of, is_all_null, place_behind, range_data, range_tuple}

-- ---- a tuple's header

pub length-bound_kinds : (kinds : List ColType) → length (bound_kinds kinds) ≡ 2 * length kinds
length-bound_kinds [] = refl
length-bound_kinds (kind ∷ kinds) = let rest = length-bound_kinds kinds in omega arith

pub columns-counted : (kinds : List ColType) (range : RangeSummary) → AllZip IsValueOf (bound_kinds kinds) (bounds_of range.columns)
    → length range.columns ≡ length kinds
columns-counted kinds range typed =
    let same = AllZip-long IsValueOf (bound_kinds kinds) (bounds_of range.columns) typed in
    let a = length-bound_kinds kinds in
    let b = length-bounds_of range.columns in
    omega arith

pub have_header : TuplesHaveTheirHeader
unfolding range_tuple
have_header kinds first range bytes is =
    let head : List ℕ = header_bytes (header_of first range) in
    let count = columns-counted kinds range is.typed in
    let size = length-tuple_header first range in
    let whole = length-aligned head in
    record {
      block = is.block;
      flags = length-null_flags range.columns ∙ omega arith;
      front = ap (take (place_behind (header_of first range).flags)) is.bytes_are
          ∙ take_at (aligned head) (aligned (range_data kinds range)) (place_behind (header_of first range).flags) (omega arith);
    }

-- ---- the bounds of values of a type

null-is : (value : KeyVal) → is_null value ≡ true → value ≡ Nil
null-is Nil null = refl
null-is (Num number) null = absurd (cc)
null-is (Raw bytes) null = absurd (cc)
null-is (Items elements) null = absurd (cc)

-- what is chosen of two is null where both are
chosen-null : (choose : KeyVal → KeyVal → KeyVal) → ((a b : KeyVal) → choose a b ≡ choose b a) → ((a : KeyVal) → choose a Nil ≡ a)
    → ((a b : KeyVal) → (choose a b ≡ a) ⊎ (choose a b ≡ b)) → (a b : KeyVal) → is_null (choose a b) ≡ (is_null a && is_null b)
chosen-null choose commutes with_null either a b = go (is_null a) (is_null b) refl refl
  where
    go : (s t : Bool) → is_null a ≡ s → is_null b ≡ t → is_null (choose a b) ≡ (is_null a && is_null b)
    go true t is_a is_b =
        let a_null = null-is a is_a in
        let chosen : choose a b ≡ b = ap (λ (v : KeyVal). choose v b) a_null ∙ commutes Nil b ∙ with_null b in
        rw is_a (ap is_null chosen)
    go false true is_a is_b =
        let b_null = null-is b is_b in
        let chosen : choose a b ≡ a = ap (choose a) b_null ∙ with_null a in
        rw (is_a) (ap is_null chosen ∙ is_a)
    go false false is_a is_b =
        rw is_a (⊎_elim (λ e. ap is_null e ∙ is_a) (λ e. ap is_null e ∙ is_b) (either a b))

null-pair : (values : List KeyVal) → is_null (greatest values) ≡ is_null (least values)
null-pair [] = refl
null-pair (value ∷ values) =
    chosen-null greater greater-comm greater-null greater-either value (greatest values)
    ∙ ap (λ (b : Bool). is_null value && b) (null-pair values)
    ∙ sym (chosen-null lesser lesser-comm lesser-null lesser-either value (least values))

least-typed : (kind : ColType) (values : List KeyVal) → All (IsValueOf kind) values → IsValueOf kind (least values)
least-typed kind [] typed = tt
least-typed kind (value ∷ values) typed =
    let Of : KeyVal → Type 0 = IsValueOf kind in
    ⊎_elim (λ e. subst Of (sym e) (All-head Of value values typed)) (λ e. subst Of (sym e) (least-typed kind values (All-tail Of value values typed))) (lesser-either value (least values))

greatest-typed : (kind : ColType) (values : List KeyVal) → All (IsValueOf kind) values → IsValueOf kind (greatest values)
greatest-typed kind [] typed = tt
greatest-typed kind (value ∷ values) typed =
    let Of : KeyVal → Type 0 = IsValueOf kind in
    ⊎_elim (λ e. subst Of (sym e) (All-head Of value values typed)) (λ e. subst Of (sym e) (greatest-typed kind values (All-tail Of value values typed))) (greater-either value (greatest values))

-- ---- the columns of rows

value-typed : (kinds : List ColType) (row : List KeyVal) (column : ℕ) (kind : ColType) → AllZip IsValueOf kinds row
    → slice_get kinds column ≡ Some kind → IsValueOf kind (value_in column row)
value-typed [] row column kind typed there = absurd (cc)
value-typed (first ∷ kinds) [] column kind typed there = absurd typed
value-typed (first ∷ kinds) (value ∷ row) zero kind typed there =
    let is : first ≡ kind = cc in
    subst (λ (k : ColType). IsValueOf k value) is typed.0
value-typed (first ∷ kinds) (value ∷ row) (suc column) kind typed there = value-typed kinds row column kind typed.1 there

values-typed : (kinds : List ColType) (rows : List (List KeyVal)) (column : ℕ) (kind : ColType) → All (AllZip IsValueOf kinds) rows
    → slice_get kinds column ≡ Some kind → All (IsValueOf kind) (map (value_in column) rows)
values-typed kinds [] column kind typed there = All-nil (IsValueOf kind)
values-typed kinds (row ∷ rows) column kind typed there =
    All-cons (IsValueOf kind) (value_in column row) (map (value_in column) rows)
    (value-typed kinds row column kind (All-head (AllZip IsValueOf kinds) row rows typed) there)
    (values-typed kinds rows column kind (All-tail (AllZip IsValueOf kinds) row rows typed) there)

bounds-typed : (kinds : List ColType) (column_at : ℕ → ColumnSummary) (base : ℕ)
    → ((column : ℕ) (kind : ColType) → slice_get kinds column ≡ Some kind
    → IsValueOf kind (column_at (base + column)).low × IsValueOf kind (column_at (base + column)).high)
    → AllZip IsValueOf (bound_kinds kinds) (bounds_of (map column_at (range_with_len base (length kinds))))
bounds-typed [] column_at base each = tt
bounds-typed (kind ∷ kinds) column_at base each =
    let here : base + 0 ≡ base = omega arith in
    let mine : IsValueOf kind (column_at base).low × IsValueOf kind (column_at base).high =
    subst (λ (n : ℕ). IsValueOf kind (column_at n).low × IsValueOf kind (column_at n).high) here (each 0 kind refl) in (
      mine.0,
      (
        mine.1,
        bounds-typed kinds column_at (base + 1)
            (λ column k there.
            let next : base + suc column ≡ base + 1 + column = omega arith in
            subst (λ (n : ℕ). IsValueOf k (column_at n).low × IsValueOf k (column_at n).high) next (each (suc column) k there)),
      ),
    )

all-map : (P : ColumnSummary → Type 0) (f : ℕ → ColumnSummary) (xs : List ℕ) → ((x : ℕ) → P (f x)) → All P (map f xs)
all-map P f [] each = All-nil P
all-map P f (x ∷ xs) each = All-cons P (f x) (map f xs) (each x) (all-map P f xs each)

no-row : (rows : List (List KeyVal)) → is_some_row rows ≡ false → rows ≡ []
no-row [] none = refl
no-row (row ∷ rows) none = absurd (cc)

pub have_tuples : SummariesHaveTuples
unfolding summary_of column_summary
have_tuples kinds first rows fits typed small = record {
  block = fits;
  typed = bounds-typed kinds (λ column. column_summary (map (value_in column) rows)) 0
      (λ column kind there.
      let same : 0 + column ≡ column = omega arith in
      rw same (
        least-typed kind (map (value_in column) rows) (values-typed kinds rows column kind typed there),
        greatest-typed kind (map (value_in column) rows) (values-typed kinds rows column kind typed there),
      ));
  paired = all-map HasPair (λ column. column_summary (map (value_in column) rows)) (range_with_len 0 (length kinds)) (λ column. null-pair (map (value_in column) rows));
  empty = λ none. all-map (λ (column : ColumnSummary). is_all_null column ≡ true) (λ column. column_summary (map (value_in column) rows)) (range_with_len 0 (length kinds))
      (λ column. ap (λ (rs : List (List KeyVal)). is_null (least (map (value_in column) rs))) (no-row rows none));
  bytes_are = refl;
  size = (let same = tuple_size-anywhere kinds first (summary_of (length kinds) rows) in omega arith);
}
