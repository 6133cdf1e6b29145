use Rattle.std.proofs.Common.{◌≡◌, ◌-◌, ◌+◌, ◌≤◌, ℕ, Bool, true, false, nat_eq, List, [], ◌∷◌, ◌++◌, drop, length, take, arith, length-drop, ◌∙◌, sym, ap, refl}
use Rattle.std.specs.Cmp.Lexicographic.{other_text, pointwise, same_text}
use Rattle.std.proofs.lemmas.List.{take_all, take_at}
use Rattle.pg_bytes.proofs.Writes.{length-zeros, zeros-append}
use Rattle.pg_bytes.specs.Numbers.{rounded_up}
use Rattle.pg_bytes.specs.Places.{zeros}
use Rattle.brin_summary.proofs.reading.is_padded.Goals as goal

eight : zeros 8 ≡ 0 ∷ 0 ∷ 0 ∷ 0 ∷ 0 ∷ 0 ∷ 0 ∷ 0 ∷ []
unfolding zeros
eight = refl

zeros-front : (n : ℕ) → n ≤ 8 → take n (0 ∷ 0 ∷ 0 ∷ 0 ∷ 0 ∷ 0 ∷ 0 ∷ 0 ∷ []) ≡ zeros n
zeros-front n few =
    let parts : zeros 8 ≡ zeros n ++ zeros (8 - n) = ap zeros (let e : 8 ≡ n + (8 - n) = omega arith in e) ∙ sym (zeros-append n (8 - n)) in
    ap (take n) (sym eight ∙ parts) ∙ take_at (zeros n) (zeros (8 - n)) n (length-zeros n)

known : (told : Bool) (xs ys : List ℕ) → told ≡ pointwise nat_eq xs ys → xs ≡ ys → told ≡ true
known true xs ys is same = refl
known false xs ys is same = absurd (other_text xs ys is same)

pub returns-then-bytes-end : goal.returns-then-bytes-end
returns-then-bytes-end c = (
  λ no. absurd (cc),
  λ is.
      let left = ap length is in
      let a = length-drop c.args.size c.args.bytes.now in
      let b = length-zeros (rounded_up 8 c.args.size - c.args.size) in
      let end = c.al8-end.ensures in
      let inside = c.requires.size in
      absurd (c.if-bytes-end.true (omega arith)),
)

pub returns : goal.returns
returns c =
    let bytes : List ℕ = c.args.bytes.now in
    let pad : ℕ = rounded_up 8 c.args.size - c.args.size in
    let all : take (length c.args.bytes.now - c.args.size) (drop c.args.size c.args.bytes.now) ≡ drop c.args.size c.args.bytes.now =
    take_all (length c.args.bytes.now - c.args.size) (drop c.args.size c.args.bytes.now) (omega (arith, length-drop c.args.size c.args.bytes.now)) in
    let none : take (c.al8-end.result - c.args.size) (0 ∷ 0 ∷ 0 ∷ 0 ∷ 0 ∷ 0 ∷ 0 ∷ 0 ∷ []) ≡ zeros (rounded_up 8 c.args.size - c.args.size) =
    ap (λ (n : ℕ). take (n - c.args.size) (0 ∷ 0 ∷ 0 ∷ 0 ∷ 0 ∷ 0 ∷ 0 ∷ 0 ∷ [])) c.al8-end.ensures ∙ zeros-front (rounded_up 8 c.args.size - c.args.size) (omega arith) in (
      λ yes. sym all ∙ same_text _ _ (sym yes ∙ c.eq.ensures) ∙ none,
      λ is. known c.eq.result _ _ c.eq.ensures (all ∙ is ∙ sym none),
    )
