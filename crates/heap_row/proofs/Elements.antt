-- The elements of an array, one by one.
use Rattle.std.proofs.Common.{◌≡◌, ℕ, suc, ◌+◌, ◌-◌, ◌<◌, ◌≤◌, Bool, List, [], ◌∷◌, ◌++◌, map, max, Option, Some, None, option_map, refl, sym, ap, ◌∙◌, append_assoc, arith}
use Rattle.std.specs.Prelude.{IfOk, IfSome, Result, Ok, Err}
use Rattle.std.specs.declared.alloc.AllocError.{AllocError}
use Rattle.std.specs.List.{range_with_len}
use Rattle.opclass.specs.declared.types.ColType.{ColType}
use Rattle.opclass.specs.declared.value.Elem.{Elem}
use Rattle.heap_row.specs.declared.array.Shape.{Shape}
use Rattle.heap_row.specs.Array.{element_behind, elements_behind, from_place}
use Rattle.heap_row.specs.NullBitmap.{is_absent}

-- elements that were read, and what is still read
abbrev pub with_front : List Elem → Option (List Elem) → Option (List Elem)
with_front front read = option_map (λ elements. front ++ elements) read

-- an element is null
abbrev pub null_at : List ℕ → Shape → ℕ → Bool
null_at content shape n = is_absent (option_map (from_place content) shape.bitmap) n

-- which elements are null, from one on
abbrev pub rest_of : List ℕ → Shape → ℕ → List Bool
rest_of content shape n = map (null_at content shape) (range_with_len n (shape.count - n))

rest_step : (content : List ℕ) (shape : Shape) (n : ℕ) → n < shape.count
    → rest_of content shape n ≡ null_at content shape n ∷ rest_of content shape (n + 1)
rest_step content shape n below = let e : shape.count - n ≡ suc (shape.count - (n + 1)) = omega arith in rw e refl

regroup : (front : List Elem) (value : Elem) (read : Option (List Elem))
    → with_front front (option_map (λ others. value ∷ others) read) ≡ with_front (front ++ value ∷ []) read
regroup front value (Some others) = ap (λ (values : List Elem). Some values) (simp append_assoc)
regroup front value None = refl

-- an element more
pub goes_on : (element : ColType) (content : List ℕ) (shape : Shape) (n place end : ℕ) (front : List Elem) (value : Elem) (total : Option (List Elem))
    → n < shape.count → Some (value, end) ≡ element_behind element content place (null_at content shape n)
    → with_front front (elements_behind element content place (rest_of content shape n)) ≡ total
    → with_front (front ++ value ∷ []) (elements_behind element content end (rest_of content shape (n + 1))) ≡ total
goes_on element content shape n place end front value total below here so_far =
    let step = rest_step content shape n below in
    let read : elements_behind element content place (rest_of content shape n)
    ≡ option_map (λ others. value ∷ others) (elements_behind element content end (rest_of content shape (n + 1)))
    = rw (step, ← here) refl in
    sym (ap (with_front front) read ∙ regroup front value (elements_behind element content end (rest_of content shape (n + 1)))) ∙ so_far

-- none more
pub ends : (element : ColType) (content : List ℕ) (shape : Shape) (n place : ℕ) (front : List Elem) (total : Option (List Elem))
    → n < shape.count → None ≡ element_behind element content place (null_at content shape n)
    → with_front front (elements_behind element content place (rest_of content shape n)) ≡ total
    → None ≡ total
ends element content shape n place front total below none so_far =
    let step = rest_step content shape n below in
    let read : elements_behind element content place (rest_of content shape n) ≡ None = rw (step, ← none) refl in
    sym (ap (with_front front) read) ∙ so_far

-- a bound that is lifted
pub end_lifted : (read : Result (Option (Elem × ℕ)) AllocError) (low high other : ℕ) → low ≤ high
    → IfOk read (λ here. IfSome here (λ one. one.1 ≤ max low other))
    → IfOk read (λ here. IfSome here (λ one. one.1 ≤ max high other))
end_lifted (Ok (Some one)) low high other above bound = omega arith
end_lifted (Ok None) low high other above bound = bound
end_lifted (Err e) low high other above bound = bound
