-- Tuples put together from their parts.
use Rattle.std.proofs.Common.{◌≡◌, ℕ, ◌+◌, ◌-◌, List, ◌++◌, length, ap, ◌∙◌, arith, length-append}
use Rattle.std.proofs.lemmas.List.{append_assoc}
use Rattle.std.specs.List.{flat_map}
use Rattle.pg_bytes.specs.Numbers.{number_bytes}
use Rattle.pg_bytes.specs.Places.{zeros}
use Rattle.pg_bytes.specs.Pointers.{row_pointer_bytes}
use Rattle.pg_bytes.specs.declared.row_ptr.RowPtr.{RowPtr}
use Rattle.pg_bytes.proofs.Writes.{length-number_bytes}
use Rattle.opclass.specs.declared.types.ColType.{ColType}
use Rattle.opclass.specs.declared.value.KeyVal.{KeyVal}
use Rattle.tuple_data.specs.Data.{data_of}
use Rattle.btree_item.specs.Tuple.{bitmap_of, data_end, index_tuple, info_of, no_row_mark, size_of}
use Rattle.btree_item.specs.Leaf.{pointers_end, posting_front, posting_image, posting_size}
use Rattle.btree_item.proofs.Sizes.{data_end-within, length-bitmap, length-index_tuple, length-pointers, length-row_pointer}

-- a buffer behind which head, bitmap and data were put
pub record HasData (old headed mapped whole : List ℕ) (front : RowPtr) (info : ℕ) (kinds : List ColType) (values : List KeyVal) : Type 0 where
  pub head : headed ≡ old ++ (row_pointer_bytes front ++ number_bytes 2 info)
  pub bitmap : mapped ≡ headed ++ bitmap_of values
  pub data_put : whole ≡ mapped ++ data_of kinds values

pub length-HasData : (old headed mapped whole : List ℕ) (front : RowPtr) (info : ℕ) (kinds : List ColType) (values : List KeyVal)
    → HasData old headed mapped whole front info kinds values → length whole ≡ length old + data_end kinds values
length-HasData old headed mapped whole front info kinds values put =
    let six = length-row_pointer front in
    let two = length-number_bytes 2 info in
    let bits = length-bitmap values in
    let a = length-append (row_pointer_bytes front) (number_bytes 2 info) in
    let b = ap length put.head ∙ length-append old (row_pointer_bytes front ++ number_bytes 2 info) in
    let c = ap length put.bitmap ∙ length-append headed (bitmap_of values) in
    let d = ap length put.data_put ∙ length-append mapped (data_of kinds values) in
    omega arith

regrouped : (old p t b d z : List ℕ) → (((old ++ (p ++ t)) ++ b) ++ d) ++ z ≡ old ++ (p ++ (t ++ (b ++ (d ++ z))))
regrouped old p t b d z = simp append_assoc

-- zeros up to the size make it a tuple
pub tuple-joined : (old headed mapped whole : List ℕ) (front : RowPtr) (info end : ℕ) (kinds : List ColType) (values : List KeyVal)
    → HasData old headed mapped whole front info kinds values → end ≡ length old + size_of kinds values
    → whole ++ zeros (end - length whole) ≡ old ++ index_tuple front info kinds values
unfolding index_tuple
tuple-joined old headed mapped whole front info end kinds values put at_end =
    let behind = length-HasData old headed mapped whole front info kinds values put in
    let within = data_end-within kinds values in
    let left : end - length whole ≡ size_of kinds values - data_end kinds values = omega arith in
    let all : whole ≡ ((old ++ (row_pointer_bytes front ++ number_bytes 2 info)) ++ bitmap_of values) ++ data_of kinds values =
    put.data_put ∙ ap (λ m. m ++ data_of kinds values) (put.bitmap ∙ ap (λ h. h ++ bitmap_of values) put.head) in
    ap (λ n. whole ++ zeros n) left
    ∙ ap (λ w. w ++ zeros (size_of kinds values - data_end kinds values)) all
    ∙ regrouped old (row_pointer_bytes front) (number_bytes 2 info) (bitmap_of values) (data_of kinds values) (zeros (size_of kinds values - data_end kinds values))

-- a buffer behind which a tuple of keys and row pointers were put
pub record HasPointers (old tupled whole : List ℕ) (kinds : List ColType) (keys : List KeyVal) (ptrs : List RowPtr) (info : ℕ) : Type 0 where
  pub tuple : tupled ≡ old ++ index_tuple (posting_front kinds keys ptrs) info kinds keys
  pub pointers : whole ≡ tupled ++ flat_map row_pointer_bytes ptrs

pub length-HasPointers : (old tupled whole : List ℕ) (kinds : List ColType) (keys : List KeyVal) (ptrs : List RowPtr) (info : ℕ)
    → HasPointers old tupled whole kinds keys ptrs info → length whole ≡ length old + pointers_end kinds keys (length ptrs)
length-HasPointers old tupled whole kinds keys ptrs info put =
    let size = length-index_tuple (posting_front kinds keys ptrs) info kinds keys in
    let count = length-pointers ptrs in
    let a = ap length put.tuple ∙ length-append old (index_tuple (posting_front kinds keys ptrs) info kinds keys) in
    let b = ap length put.pointers ∙ length-append tupled (flat_map row_pointer_bytes ptrs) in
    omega arith

pub posting-joined : (old tupled whole : List ℕ) (kinds : List ColType) (keys : List KeyVal) (ptrs : List RowPtr) (info end : ℕ)
    → info ≡ info_of (posting_size kinds keys (length ptrs) + no_row_mark) kinds keys → HasPointers old tupled whole kinds keys ptrs info
    → end ≡ length old + posting_size kinds keys (length ptrs) → whole ++ zeros (end - length whole) ≡ old ++ posting_image kinds keys ptrs
unfolding posting_image
posting-joined old tupled whole kinds keys ptrs info end told put at_end =
    let behind = length-HasPointers old tupled whole kinds keys ptrs info put in
    let left : end - length whole ≡ posting_size kinds keys (length ptrs) - pointers_end kinds keys (length ptrs) = omega arith in
    let tuple : List ℕ = index_tuple (posting_front kinds keys ptrs) info kinds keys in
    let last : List ℕ = zeros (posting_size kinds keys (length ptrs) - pointers_end kinds keys (length ptrs)) in
    ap (λ n. whole ++ zeros n) left
    ∙ ap (λ w. w ++ last) (put.pointers ∙ ap (λ t. t ++ flat_map row_pointer_bytes ptrs) put.tuple)
    ∙ append_assoc (old ++ tuple) (flat_map row_pointer_bytes ptrs) last
    ∙ append_assoc old tuple (flat_map row_pointer_bytes ptrs ++ last)
    ∙ ap (λ n. old ++ (index_tuple (posting_front kinds keys ptrs) n kinds keys ++ (flat_map row_pointer_bytes ptrs ++ last))) told
