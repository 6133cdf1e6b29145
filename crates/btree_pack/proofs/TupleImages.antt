-- The tuples of an index: their sizes, and what separators keep.
use Rattle.std.proofs.Common.{◌≡◌, ◌≢◌, ℕ, zero, suc, ◌+◌, ◌-◌, ◌%◌, ◌<◌, ◌≤◌, Bool, true, false, cond, List, [], ◌∷◌, ◌++◌, length, take, refl, sym, ap, ◌∙◌, subst, arith, length-append}
use Rattle.std.proofs.lemmas.List.{take_all, take-append-le}
use Rattle.std.specs.List.{common_prefix_len}
use Rattle.std.specs.Prelude.{◌↔◌, IsTrue, Option, Some, None}
use Rattle.pg_bytes.specs.Numbers.{rounded_up}
use Rattle.pg_bytes.specs.declared.row_ptr.RowPtr.{RowPtr}
use Rattle.opclass.specs.declared.types.ColType.{ColType}
use Rattle.opclass.specs.declared.value.KeyVal.{KeyVal}
use Rattle.opclass.specs.Order.{column_cmp, unsaid}
use Rattle.opclass.proofs.KeyOrder.{column_cmp_exact, column_cmp_total}
use Rattle.std.specs.Ordering.{is_eq}
use Rattle.std.proofs.lemmas.Cmp.{tied_itself}
use Rattle.std.specs.declared.cmp.Ordering.{Ordering}
use Rattle.std.specs.declared.cmp.Ordering.TheVariants.{Less, Equal, Greater}
use Rattle.tuple_data.proofs.Columns.{front_columns}
use Rattle.tuple_data.specs.Data.{data_of}
use Rattle.tuple_data.specs.Nulls.{has_null, is_null}
use Rattle.btree_item.proofs.Keeping.{keeps_one_number}
use Rattle.btree_item.proofs.Sizes.{length-attributes, length-index_tuple, length-posting}
use Rattle.btree_item.specs.Leaf.{plain_image, posting_image, posting_size}
use Rattle.btree_item.specs.Pivot.{tail_size}
use Rattle.btree_item.specs.Truncation.{KeepsUpToDifference}
use Rattle.btree_item.specs.Tuple.{bitmap_size, size_of}
use Rattle.btree_pack.specs.Images.{images_of}
use Rattle.btree_pack.specs.Laws.{WritesWhole}
use Rattle.btree_pack.specs.Separators.{is_same_value}
use Rattle.btree_pack.specs.Pass.Grouped.{IsGroupOf, separator_image}
use Rattle.btree_pack.specs.Pass.Packing.{IsTuple}
use Rattle.btree_pack.specs.declared.row_group.RowGroup.{RowGroup}

-- ---- sizes

null-front : (kept : ℕ) (values : List KeyVal) → has_null (take kept values) ≡ true → has_null values ≡ true
null-front zero values some = cc
null-front (suc kept) [] some = some
null-front (suc kept) (value ∷ values) some = go (is_null value) refl (null-front kept values)
  where
    go : (t : Bool) → is_null value ≡ t → (has_null (take kept values) ≡ true → has_null values ≡ true) → has_null (value ∷ values) ≡ true
    go true is later = rw is refl
    go false is later = rw is (later (rw is at some))

bitmap-front : (kept : ℕ) (values : List KeyVal) → bitmap_size (take kept values) ≤ bitmap_size values
bitmap-front kept values = go (has_null (take kept values)) refl
  where
    go : (t : Bool) → has_null (take kept values) ≡ t → bitmap_size (take kept values) ≤ bitmap_size values
    go false is = let none : ◌≡◌ {A = ℕ} (bitmap_size (take kept values)) 0 = ap (λ t. cond t 8 0) is in omega arith
    go true is =
        let one : ◌≡◌ {A = ℕ} (bitmap_size (take kept values)) 8 = ap (λ t. cond t 8 0) is in
        let all : ◌≡◌ {A = ℕ} (bitmap_size values) 8 = ap (λ t. cond t 8 0) (null-front kept values is) in
        omega arith

-- the first columns take no more than all of them
pub size-front : (kept : ℕ) (kinds : List ColType) (values : List KeyVal) → size_of (take kept kinds) (take kept values) ≤ size_of kinds values
unfolding size_of
size-front kept kinds values =
    let parts = front_columns 0 kept kinds values in
    let bitmap = bitmap-front kept values in
    let whole = ap length parts.1 in
    let long = length-append (data_of (take kept kinds) (take kept values)) parts.0 in
    omega arith

pub size-whole : (kinds : List ColType) (values : List KeyVal) → (rounded_up 8 (size_of kinds values) ≡ size_of kinds values) × (8 ≤ size_of kinds values)
unfolding size_of
size-whole kinds values = (omega arith, omega arith)

whole-tail : (size : ℕ) (last : Option RowPtr) → rounded_up 8 size ≡ size → rounded_up 8 (size + tail_size last) ≡ size + tail_size last
whole-tail size None whole = omega arith
whole-tail size (Some last) whole = omega arith

pub writes_whole : (kinds : List ColType) (keys : ℕ) → WritesWhole (images_of kinds keys)
writes_whole kinds keys = record {
  plain = λ values ptr.
      let long : length (plain_image kinds values ptr) ≡ size_of kinds values = length-index_tuple ptr _ kinds values in
      let whole = size-whole kinds values in
      omega arith;
  posting = λ values ptrs. let long = length-posting (take keys kinds) values ptrs in omega arith;
  pivot = λ kept.
      let front : List ColType = take (length kept.keys) (take keys kinds) in
      let long = length-attributes front kept.keys (length kept.keys) kept.pointer 0 in
      let whole = whole-tail (size_of front kept.keys) kept.pointer (size-whole front kept.keys).0 in
      ap (rounded_up 8) long ∙ whole ∙ sym long;
  some = λ kept.
      let front : List ColType = take (length kept.keys) (take keys kinds) in
      let long = length-attributes front kept.keys (length kept.keys) kept.pointer 0 in
      let whole = (size-whole front kept.keys).1 in
      omega arith;
}

-- ---- what a separator keeps

same-value : (a b : KeyVal) → IsTrue (is_same_value a b) ↔ (a ≡ b)
same-value a b = (
  λ holds. column_cmp_exact unsaid a b (equal (column_cmp unsaid a b) holds),
  λ same. ap is_eq (ap (column_cmp unsaid a) (sym same) ∙ tied_itself (column_cmp_total unsaid) a),
)
  where
    equal : (o : Ordering) → is_eq o ≡ true → o ≡ Equal
    equal Less holds = cc
    equal Equal holds = refl
    equal Greater holds = cc

-- two lists are alike up to where they differ
pub record AreAlikeUpTo (left right : List KeyVal) (at : ℕ) : Type 0 where
  pub within : at ≤ length right
  pub alike : take at left ≡ take at right
  pub apart : at < length right → take (suc at) left ≢ take (suc at) right

pub prefix-alike : (left right : List KeyVal) → length left ≡ length right → AreAlikeUpTo left right (common_prefix_len is_same_value left right)
prefix-alike [] [] same = record { within = omega arith; alike = refl; apart = λ less. absurd (omega arith) }
prefix-alike [] (b ∷ right) same = absurd (omega arith)
prefix-alike (a ∷ left) [] same = absurd (omega arith)
prefix-alike (a ∷ left) (b ∷ right) same = go (is_same_value a b) refl (prefix-alike left right (omega arith))
  where
    go : (t : Bool) → is_same_value a b ≡ t → AreAlikeUpTo left right (common_prefix_len is_same_value left right)
        → AreAlikeUpTo (a ∷ left) (b ∷ right) (common_prefix_len is_same_value (a ∷ left) (b ∷ right))
    go true is rest =
        let at : ℕ = common_prefix_len is_same_value left right in
        let here : common_prefix_len is_same_value (a ∷ left) (b ∷ right) ≡ suc at =
        ap (λ t. cond t (1 + at) 0) is ∙ omega arith in
        let within = rest.within in
        subst (AreAlikeUpTo (a ∷ left) (b ∷ right)) (sym here) (record {
          within = omega arith;
          alike = ap (λ x. x ∷ take at left) ((same-value a b).0 is) ∙ ap (λ l. b ∷ l) rest.alike;
          apart = λ less e. rest.apart (omega arith) (let tail : take (suc at) left ≡ take (suc at) right = cc in tail);
        })
    go false is rest =
        let at : ℕ = common_prefix_len is_same_value left right in
        let here : common_prefix_len is_same_value (a ∷ left) (b ∷ right) ≡ 0 = ap (λ t. cond t (1 + at) 0) is in
        subst (AreAlikeUpTo (a ∷ left) (b ∷ right)) (sym here) (record {
          within = omega arith;
          alike = refl;
          apart = λ less e. let head : a ≡ b = cc in let no : true ≡ false = sym ((same-value a b).1 head) ∙ is in cc;
        })

take-fewer : {X : Type 0} (m n : ℕ) (a b : List X) → m ≤ n → take n a ≡ take n b → take m a ≡ take m b
take-fewer {X = X} m n a b less same = sym (take-within m n a less) ∙ ap (take m) same ∙ take-within m n b less
  where
    take-within : (m n : ℕ) (xs : List X) → m ≤ n → take m (take n xs) ≡ take m xs
    take-within zero n xs less = refl
    take-within (suc m) zero xs less = absurd (omega arith)
    take-within (suc m) (suc n) [] less = refl
    take-within (suc m) (suc n) (x ∷ xs) less = ap (λ l. x ∷ l) (take-within m n xs (omega arith))

-- where two neighbours' keys differ within so many, a number that they keep is behind what is alike
pub kept-within : (left right more_left more_right : List KeyVal) (kept : ℕ) → length left ≡ length right
    → KeepsUpToDifference (left ++ more_left) (right ++ more_right) kept → kept ≤ length right
    → kept ≡ common_prefix_len is_same_value left right + 1
kept-within left right more_left more_right kept same keeps few =
    let at = prefix-alike left right same in
    let within = at.within in
    let some = keeps.some in
    let front : (n : ℕ) → n ≤ length right → (take n (left ++ more_left) ≡ take n left) × (take n (right ++ more_right) ≡ take n right) =
    λ n low. (take-append-le n left more_left (omega arith), take-append-le n right more_right low) in
    keeps_one_number left right kept (common_prefix_len is_same_value left right + 1)
    (record {
      some = some;
      within = omega arith;
      alike = sym (front (kept - 1) (omega arith)).0 ∙ keeps.alike ∙ (front (kept - 1) (omega arith)).1;
      apart = λ low e. keeps.apart (let long = length-append right more_right in omega arith) ((front kept few).0 ∙ e ∙ sym (front kept few).1);
    })
    (alike-keeps left right (common_prefix_len is_same_value left right) at)
  where
    alike-keeps : (left right : List KeyVal) (at : ℕ) → AreAlikeUpTo left right at → KeepsUpToDifference left right (at + 1)
    alike-keeps left right at are =
        let less : at + 1 - 1 ≡ at = omega arith in
        let next : at + 1 ≡ suc at = omega arith in
        let within = are.within in
        record {
          some = omega arith;
          within = omega arith;
          alike = ap (λ (n : ℕ). take n left) less ∙ are.alike ∙ sym (ap (λ (n : ℕ). take n right) less);
          apart = λ low e. are.apart (omega arith) (sym (ap (λ (n : ℕ). take n left) next) ∙ e ∙ ap (λ (n : ℕ). take n right) next);
        }

-- and else the keys are equal
pub kept-beyond : (left right more_left more_right : List KeyVal) (kept : ℕ) → length left ≡ length right
    → KeepsUpToDifference (left ++ more_left) (right ++ more_right) kept → length right < kept → left ≡ right
kept-beyond left right more_left more_right kept same keeps many =
    let n : ℕ = length right in
    let alike = take-fewer n (kept - 1) (left ++ more_left) (right ++ more_right) (omega arith) keeps.alike in
    sym (take_all n left (omega arith)) ∙ sym (take-append-le n left more_left (omega arith)) ∙ alike
    ∙ take-append-le n right more_right (omega arith) ∙ take_all n right (omega arith)

-- ---- groups as the packer keeps them

whole-is : (n : ℕ) → rounded_up 8 n ≡ n → n % 8 ≡ 0
whole-is n whole = omega arith

pub plain-tuple : (kinds : List ColType) (values : List KeyVal) (ptr : RowPtr) → size_of kinds values ≤ 2704
    → IsTuple (plain_image kinds values ptr) × (length (plain_image kinds values ptr) ≡ size_of kinds values)
plain-tuple kinds values ptr small =
    let long : length (plain_image kinds values ptr) ≡ size_of kinds values = length-index_tuple ptr _ kinds values in
    let whole = size-whole kinds values in
    (record { whole = ap (λ (n : ℕ). n % 8) long ∙ whole-is (size_of kinds values) whole.0; least = omega arith; most = omega arith }, long)

pub posting-tuple : (kinds : List ColType) (keys : List KeyVal) (ptrs : List RowPtr) → posting_size kinds keys (length ptrs) ≤ 812
    → IsTuple (posting_image kinds keys ptrs) × (length (posting_image kinds keys ptrs) ≡ posting_size kinds keys (length ptrs))
posting-tuple kinds keys ptrs small =
    let long = length-posting kinds keys ptrs in
    let whole = size-whole kinds keys in
    let again : rounded_up 8 (posting_size kinds keys (length ptrs)) ≡ posting_size kinds keys (length ptrs) = omega arith in
    (record { whole = ap (λ (n : ℕ). n % 8) long ∙ whole-is (posting_size kinds keys (length ptrs)) again; least = omega arith; most = omega arith }, long)

tail-most : (last : Option RowPtr) → tail_size last ≤ 8
tail-most None = omega arith
tail-most (Some last) = omega arith

pub keys-small : (kinds : List ColType) (keys : ℕ) (group : RowGroup) → IsGroupOf kinds keys group
    → size_of (take group.kept (take keys kinds)) (take group.kept (take keys group.values)) ≤ group.size
keys-small kinds keys group is =
    let one = size-front group.kept (take keys kinds) (take keys group.values) in
    let all = size-front keys kinds group.values in
    let size = is.size in
    omega arith

pub separator-tuple : (kinds : List ColType) (keys : ℕ) (group : RowGroup) → IsGroupOf kinds keys group
    → IsTuple (separator_image kinds keys group) × (length (separator_image kinds keys group) ≤ group.size + 8)
separator-tuple kinds keys group is =
    let front : List ColType = take group.kept (take keys kinds) in
    let values : List KeyVal = take group.kept (take keys group.values) in
    let long : length (separator_image kinds keys group) ≡ size_of front values + tail_size group.pointer = length-attributes front values group.kept group.pointer 0 in
    let small = keys-small kinds keys group is in
    let tail = tail-most group.pointer in
    let size = is.small in
    let whole = size-whole front values in (
      record {
        whole = ap (λ (n : ℕ). n % 8) long ∙ whole-is (size_of front values + tail_size group.pointer) (whole-tail (size_of front values) group.pointer whole.0);
        least = omega arith;
        most = omega arith;
      },
      omega arith,
    )

pub plain-is_tuple : (kinds : List ColType) (values : List KeyVal) (ptr : RowPtr) → size_of kinds values ≤ 2704 → IsTuple (plain_image kinds values ptr)
plain-is_tuple kinds values ptr small = (plain-tuple kinds values ptr small).0

pub posting-is_tuple : (kinds : List ColType) (keys : List KeyVal) (ptrs : List RowPtr) → posting_size kinds keys (length ptrs) ≤ 812 → IsTuple (posting_image kinds keys ptrs)
posting-is_tuple kinds keys ptrs small = (posting-tuple kinds keys ptrs small).0

pub size-all : (kinds : List ColType) (values : List KeyVal) (keys : ℕ) → keys ≡ length kinds → length values ≡ length kinds
    → size_of (take keys kinds) (take keys values) ≡ size_of kinds values
size-all kinds values keys all columns =
    ap (λ k. size_of k (take keys values)) (take_all keys kinds (omega arith)) ∙ ap (size_of kinds) (take_all keys values (omega arith))

pub plain-size : (size : ℕ) (kinds : List ColType) (values : List KeyVal) (ptr : RowPtr) → size ≡ size_of kinds values → size ≤ length (plain_image kinds values ptr)
plain-size size kinds values ptr is =
    let long : length (plain_image kinds values ptr) ≡ size_of kinds values = length-index_tuple ptr _ kinds values in omega arith

pub plain-small : (kinds : List ColType) (values : List KeyVal) (ptr : RowPtr) → size_of kinds values ≤ 2704 → length (plain_image kinds values ptr) ≤ 2704
plain-small kinds values ptr small =
    let long : length (plain_image kinds values ptr) ≡ size_of kinds values = length-index_tuple ptr _ kinds values in omega arith
