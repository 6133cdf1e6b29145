-- The parts between cuts of keys, one behind the other: they are the whole in order, and rows of two parts never clash.
use Rattle.std.proofs.Common.{◌≡◌, ◌≢◌, ℕ, zero, suc, ◌+◌, ◌-◌, ◌<◌, ◌≤◌, List, [], ◌∷◌, ◌++◌, length, Some, IsTrue, refl, sym, ap, subst, ◌∙◌, inl, inr, arith, slice_index_or, All, append_assoc}
use Rattle.std.specs.Prelude.{slice_get}
use Rattle.std.specs.List.{flat_map}
use Rattle.std.specs.List.Sorted.{IsPermutation, IsSorted}
use Rattle.std.specs.Ordering.{is_lt}
use Rattle.std.specs.declared.cmp.Ordering.TheVariants.{Equal}
use Rattle.std.proofs.lemmas.Bool.{cases_lt}
use Rattle.std.proofs.lemmas.List.{append-nil, length-append}
use Rattle.std.proofs.lemmas.List.Elements.{All-append, All-filter, All-nil, All-weaker, filter_passes}
use Rattle.std.proofs.lemmas.List.Sorted.{All-permutation}
use Rattle.std.proofs.lemmas.Option.{get_or_from_slice_get, slice_get-get_or, slice_get_within}
use Rattle.opclass.specs.declared.spec.IndexSpec.{IndexSpec}
use Rattle.opclass.specs.declared.spec.SortPart.{SortPart}
use Rattle.opclass.specs.Order.{bytes_cmp, key_cmp}
use Rattle.shared_tape.specs.declared.stored.Record.{Record}
use Rattle.shared_tape.specs.Stored.{IsStorable, record_cmp}
use Rattle.run_merge.specs.Cutting.{is_in_part, part_of}
use Rattle.run_merge.specs.Sorted.{IsSortedRecords}
use Rattle.run_merge.proofs.Firsts.{record_weak}
use Rattle.run_merge.proofs.Merging.{filter-all}
use Rattle.run_merge.proofs.Parts.{parts_whole}
use Rattle.build_leader.specs.KeyParts.{AreOfParts, SharesNoKeys}
use Rattle.build_leader.specs.Unique.{Clash, ClashAt, IsFirstClash, NoneClash}
use Rattle.build_leader.proofs.PackerRows.{get-left, get-right}
use Rattle.build_leader.proofs.InsertedRows.{in_order}

-- ---- rows put behind others

module _ (spec : IndexSpec) where
  -- no row clashes with one of others
  abbrev pub Apart : List Record → List Record → Type 0
  Apart rows more = All (λ a. All (λ b. Clash spec a b → ⊥) more) rows

  holds_at : {X : Type 0} (P : X → Type 0) (xs : List X) (place : ℕ) (x : X) → All P xs → slice_get xs place ≡ Some x → P x
  holds_at P xs place x all at =
      subst P (get_or_from_slice_get xs place x x at) (all place x (slice_get_within xs place x at))

  -- neighbours of which the first is among these rows
  clash_in : (rows more : List Record) (place : ℕ) (a b : Record) → place < length rows → NoneClash spec rows
      → Apart rows more → ClashAt spec (rows ++ more) place a b → ⊥
  clash_in rows more place a b inside none apart at = elim (cases_lt (place + 1) (length rows)) [
    | inl earlier ↦
        none place a b (record {
          one = one;
          next = sym (get-left rows more (place + 1) earlier) ∙ at.next;
          clash = at.clash;
        })
    | inr last ↦
        let e : length rows + 0 ≡ place + 1 = omega arith in
        let next : slice_get more 0 ≡ Some b =
        sym (get-right rows more 0) ∙ ap (slice_get (rows ++ more)) e ∙ at.next in
        holds_at (λ d. Clash spec a d → ⊥) more 0 b (holds_at (λ c. All (λ d. Clash spec c d → ⊥) more) rows place a apart one) next at.clash
  ]
    where
      one : slice_get rows place ≡ Some a
      one = sym (get-left rows more place inside) ∙ at.one

  -- neighbours that are both behind these rows
  clash_behind : (rows more : List Record) (place : ℕ) (a b : Record) → length rows ≤ place
      → ClashAt spec (rows ++ more) place a b → ClashAt spec more (place - length rows) a b
  clash_behind rows more place a b past at =
      let e : length rows + (place - length rows) ≡ place = omega arith in
      let next : length rows + (place - length rows + 1) ≡ place + 1 = omega arith in record {
        one = sym (get-right rows more (place - length rows)) ∙ ap (slice_get (rows ++ more)) e ∙ at.one;
        next = sym (get-right rows more (place - length rows + 1)) ∙ ap (slice_get (rows ++ more)) next ∙ at.next;
        clash = at.clash;
      }

  pub none_append : (rows more : List Record) → NoneClash spec rows → NoneClash spec more → Apart rows more
      → NoneClash spec (rows ++ more)
  none_append rows more none behind apart place a b at = elim (cases_lt place (length rows)) [
    | inl inside ↦ clash_in rows more place a b inside none apart at
    | inr past ↦ behind (place - length rows) a b (clash_behind rows more place a b past at)
  ]

  -- the first clash of rows is that of these with others before them and behind them
  pub first_append : (rows more rest : List Record) (first second : _) → NoneClash spec rows → Apart rows (more ++ rest)
      → IsFirstClash spec more first second → IsFirstClash spec (rows ++ (more ++ rest)) first second
  first_append rows more rest first second none apart is = record {
    place = length rows + is.place;
    a = is.a;
    b = is.b;
    clash = record {
      one = get-right rows (more ++ rest) is.place ∙ get-left more rest is.place one ∙ is.clash.one;
      next =
          (let e : length rows + is.place + 1 ≡ length rows + (is.place + 1) = omega arith in
          ap (slice_get (rows ++ (more ++ rest))) e)
          ∙ get-right rows (more ++ rest) (is.place + 1)
          ∙ get-left more rest (is.place + 1) next
          ∙ is.clash.next;
      clash = is.clash.clash;
    };
    least = λ earlier a b less at. elim (cases_lt earlier (length rows)) [
      | inl inside ↦ clash_in rows (more ++ rest) earlier a b inside none apart at
      | inr past ↦
          let behind = clash_behind rows (more ++ rest) earlier a b past at in
          is.least (earlier - length rows) a b (omega arith) (record {
            one = sym (get-left more rest (earlier - length rows) (omega (arith, next))) ∙ behind.one;
            next = sym (get-left more rest (earlier - length rows + 1) (omega (arith, next))) ∙ behind.next;
            clash = behind.clash;
          })
    ];
    first_is = is.first_is;
    second_is = is.second_is;
  }
    where
      one : is.place < length more
      one = slice_get_within more is.place is.a is.clash.one

      next : is.place + 1 < length more
      next = slice_get_within more (is.place + 1) is.b is.clash.next

-- ---- the parts

module _ (order : List SortPart) (cuts : List (List ℕ)) (records : List Record) (storable : All (IsStorable order) records) where
  abbrev in_part : ℕ → Record → Type 0
  in_part part row = IsTrue (is_in_part order cuts part row) × IsStorable order row

  -- the rows of a part in order are rows of the part
  of_part : (part : ℕ) (sorted : List Record) → IsSortedRecords order (part_of order cuts part records) sorted
      → All (in_part part) sorted
  of_part part sorted is =
      All-permutation (in_part part) (part_of order cuts part records) sorted is.same
      (λ place d inside. (
        filter_passes (is_in_part order cuts part) records place d inside,
        All-filter (is_in_part order cuts part) (IsStorable order) records storable place d inside,
      ))

  -- the rows of the first parts are each of one of them
  abbrev in_first : ℕ → Record → Type 0
  in_first count row = (part : ℕ) × ((part < count) × in_part part row)

  of_first : (count : ℕ) (rows : List Record) → AreOfParts order cuts records count rows → All (in_first count) rows
  of_first zero rows are = subst (All (in_first 0)) (sym are) (All-nil (in_first 0))
  of_first (suc count) rows are =
      let before = are.0 in
      let last = are.1.0 in
      subst (All (in_first (suc count))) (sym are.1.1.2)
      (All-append (in_first (suc count)) before last
      (All-weaker (in_first count) (in_first (suc count)) (λ row in'. (in'.0, (omega (arith, in'.1.0), in'.1.1))) before
      (of_first count before are.1.1.0))
      (All-weaker (in_part count) (in_first (suc count)) (λ row in'. (count, (omega arith, in'))) last
      (of_part count last are.1.1.1)))

  -- a row of a part from one on, and before another
  abbrev pub between : ℕ → ℕ → Record → Type 0
  between from to row = (part : ℕ) × ((from ≤ part) × (part < to) × in_part part row)

  pub from_part : (count : ℕ) (last : List Record) → IsSortedRecords order (part_of order cuts count records) last
      → All (between count (suc count)) last
  from_part count last is =
      All-weaker (in_part count) (between count (suc count)) (λ row of. (count, (omega arith, omega arith, of))) last
      (of_part count last is)

  -- records in order for each part that is left
  pub completed : (more count to : ℕ) (rows : List Record) → more + count ≡ to → AreOfParts order cuts records count rows
      → (rest : List Record) × (AreOfParts order cuts records to (rows ++ rest) × All (between count to) rest)
  completed zero count to rows long are =
      let is : count ≡ to = omega (arith, long) in (
        [],
        (
          subst (AreOfParts order cuts records to) (sym (append-nil rows))
              (subst (λ (n : ℕ). AreOfParts order cuts records n rows) is are),
          All-nil (between count to),
        ),
      )
  completed (suc more) count to rows long are =
      let so_far = completed more count (more + count) rows refl are in
      let last = in_order (λ (a b : Record). is_lt (record_cmp order a b)) (record_weak order)
      (part_of order cuts (more + count) records) in
      let is : IsSortedRecords order (part_of order cuts (more + count) records) last.sorted =
      record { same = last.same; ascending = last.ascending } in
      let end : suc (more + count) ≡ to = omega (arith, long) in (
        so_far.0 ++ last.sorted,
        (
          subst (λ (n : ℕ). AreOfParts order cuts records n (rows ++ (so_far.0 ++ last.sorted))) end
              (rows ++ so_far.0, (last.sorted, (so_far.1.0, is, sym (append_assoc rows so_far.0 last.sorted)))),
          All-append (between count to) so_far.0 last.sorted
              (All-weaker (between count (more + count)) (between count to)
              (λ row of. (of.0, (of.1.0, omega (arith, of.1.1, end), of.1.2))) so_far.0 so_far.1.1)
              (All-weaker (between (more + count) (suc (more + count))) (between count to)
              (λ row of. (of.0, (omega (arith, of.1.0), omega (arith, of.1.1, end), of.1.2))) last.sorted
              (from_part (more + count) last.sorted is)),
        ),
      )

  -- the parts as a list of them
  listed : (count : ℕ) (rows : List Record) → AreOfParts order cuts records count rows
      → (parts : List (List Record)) × ((length parts ≡ count)
      × (((part : ℕ) (one : List Record) → slice_get parts part ≡ Some one → IsSortedRecords order (part_of order cuts part records) one)
      × (flat_map (λ (part : List Record). part) parts ≡ rows)))
  listed zero rows are = ([], (refl, ((λ part one at. cc), sym are)))
  listed (suc count) rows are =
      let so_far = listed count are.0 are.1.1.0 in
      let parts = so_far.0 in
      let last = are.1.0 in (
        parts ++ last ∷ [],
        (
          length-append parts (last ∷ []) ∙ (let e : length parts + 1 ≡ suc count = omega (arith, so_far.1.0) in e),
          (
            (λ part one at. elim (cases_lt part (length parts)) [
              | inl below ↦ so_far.1.1.0 part one (sym (get-left parts (last ∷ []) part below) ∙ at)
              | inr above ↦
                  let rest : length parts + (part - length parts) ≡ part = omega arith in
                  let there : slice_get (last ∷ []) (part - length parts) ≡ Some one =
                  sym (get-right parts (last ∷ []) (part - length parts)) ∙ ap (slice_get (parts ++ last ∷ [])) rest ∙ at in
                  let within : part - length parts < 1 = slice_get_within (last ∷ []) (part - length parts) one there in
                  let is : part ≡ count = omega (arith, so_far.1.0) in
                  let none : part - length parts ≡ 0 = omega arith in
                  let same : last ≡ one = get_or_from_slice_get (last ∷ []) 0 one last (ap (slice_get (last ∷ [])) (sym none) ∙ there) in
                  subst (λ (n : ℕ). IsSortedRecords order (part_of order cuts n records) one) (sym is)
                  (subst (IsSortedRecords order (part_of order cuts count records)) same are.1.1.1)
            ]),
            flat parts last ∙ ap (λ (rows : List Record). rows ++ last) so_far.1.1.1 ∙ sym are.1.1.2,
          ),
        ),
      )
    where
      flat : (parts : List (List Record)) (last : List Record)
          → flat_map (λ (part : List Record). part) (parts ++ last ∷ []) ≡ flat_map (λ (part : List Record). part) parts ++ last
      flat [] last = append-nil last
      flat (part ∷ parts) last = ap (λ (rows : List Record). part ++ rows) (flat parts last) ∙ sym (append_assoc part (flat_map (λ (part : List Record). part) parts) last)

  -- all parts are the whole
  pub all_parts : (rows : List Record) → IsSorted bytes_cmp cuts → AreOfParts order cuts records (length cuts + 1) rows
      → IsSortedRecords order records rows
  all_parts rows up are =
      let list = listed (length cuts + 1) rows are in
      subst (IsSortedRecords order records) list.1.1.1
      (parts_whole order records storable cuts up list.0 list.1.0 (λ part within.
      let inside : part < length list.0 = omega (arith, list.1.0) in
      list.1.1.0 part (slice_index_or list.0 part []) (slice_get-get_or list.0 part [] inside)))

  -- no two parts have records of equal keys
  module _ (share : SharesNoKeys order cuts) where
    -- the rows of the first parts have other keys than those of parts behind them
    pub keys_differ : (count : ℕ) (rows more : List Record) → AreOfParts order cuts records count rows
        → All (between count (length cuts + 1)) more → All (λ a. All (λ b. key_cmp order a.keys b.keys ≢ Equal) more) rows
    keys_differ count rows more are behind =
        All-weaker (in_first count) (λ a. All (λ b. key_cmp order a.keys b.keys ≢ Equal) more)
        (λ a in'. All-weaker (between count (length cuts + 1)) (λ b. key_cmp order a.keys b.keys ≢ Equal)
        (λ b of. share a b in'.1.1.1 of.1.2.1 in'.0 of.0 (omega (arith, in'.1.0, of.1.0, of.1.1)) (omega (arith, of.1.1))
        (λ e. omega (arith, in'.1.0, of.1.0, e)) in'.1.1.0 of.1.2.0)
        more behind) rows (of_first count rows are)

-- without cuts the one part is the whole
pub only_part : (order : List SortPart) (cuts : List (List ℕ)) (records left : List Record) → cuts ≡ []
    → IsPermutation (part_of order cuts 0 records) left → IsPermutation records left
only_part order cuts records left none same =
    subst (λ rows. IsPermutation rows left) (filter-all (is_in_part order [] 0) records (λ row. refl))
    (subst (λ cuts. IsPermutation (part_of order cuts 0 records) left) none same)
