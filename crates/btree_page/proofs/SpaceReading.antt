-- A special space that was written is read.
use Rattle.std.proofs.Common.{◌≡◌, ℕ, ◌+◌, ◌<◌, ◌^◌, List, [], ◌++◌, length, drop, refl, sym, ap, ◌∙◌, arith, length-append}
use Rattle.std.proofs.lemmas.List.{append_assoc, append-nil, drop-drop}
use Rattle.pg_bytes.proofs.ItemPage.{number_at-first, number_at-past}
use Rattle.pg_bytes.proofs.Writes.{length-number_bytes}
use Rattle.pg_bytes.specs.Numbers.{number_at, number_bytes}
use Rattle.btree_page.specs.Laws.{SpecialSpacesAreRead}
use Rattle.btree_page.specs.SpecialSpace.{special_bytes}

-- a number between two parts
pub number-between : (width x : ℕ) (front rest : List ℕ) (place : ℕ) → length front ≡ place → x < 256 ^ width
    → number_at width (front ++ (number_bytes width x ++ rest)) place ≡ x
number-between width x front rest place here fits = number_at-past width front (number_bytes width x ++ rest) place here ∙ number_at-first width x rest fits

-- a number behind others of a special space
in-space : (width : ℕ) (page bytes : List ℕ) (at : ℕ) → drop 8176 page ≡ bytes → number_at width page (8176 + at) ≡ number_at width bytes at
unfolding number_at
in-space width page bytes at is =
    let e : drop (8176 + at) page ≡ drop at bytes = sym (drop-drop at 8176 page) ∙ ap (drop at) is in
    rw e refl

pub space-read : SpecialSpacesAreRead
unfolding special_bytes
space-read space page h is =
    let prev : List ℕ = number_bytes 4 space.prev in
    let next : List ℕ = number_bytes 4 space.next in
    let level : List ℕ = number_bytes 4 space.level in
    let flags : List ℕ = number_bytes 2 space.flags in
    let cycle : List ℕ = number_bytes 2 space.cycle in
    let p = length-number_bytes 4 space.prev in
    let n = length-number_bytes 4 space.next in
    let l = length-number_bytes 4 space.level in
    let f = length-number_bytes 2 space.flags in
    let a = length-append prev next in
    let b = length-append (prev ++ next) level in
    let d = length-append ((prev ++ next) ++ level) flags in
    let at_next : special_bytes space ≡ prev ++ (next ++ (level ++ (flags ++ cycle))) = refl in
    let at_level : special_bytes space ≡ (prev ++ next) ++ (level ++ (flags ++ cycle)) = simp append_assoc refl in
    let at_flags : special_bytes space ≡ ((prev ++ next) ++ level) ++ (flags ++ cycle) = simp append_assoc refl in
    let at_cycle : special_bytes space ≡ (((prev ++ next) ++ level) ++ flags) ++ (cycle ++ []) = simp (append_assoc, append-nil) refl in
    let e_prev : number_at 4 page 8176 ≡ space.prev =
    in-space 4 page (special_bytes space) 0 is ∙ number-between 4 space.prev [] _ 0 refl (omega (arith, h.prev)) in
    let e_next : number_at 4 page 8180 ≡ space.next =
    in-space 4 page _ 4 (is ∙ at_next) ∙ number-between 4 space.next prev _ 4 p (omega (arith, h.next)) in
    let e_level : number_at 4 page 8184 ≡ space.level =
    in-space 4 page _ 8 (is ∙ at_level) ∙ number-between 4 space.level (prev ++ next) _ 8 (omega arith) (omega (arith, h.level)) in
    let e_flags : number_at 2 page 8188 ≡ space.flags =
    in-space 2 page _ 12 (is ∙ at_flags) ∙ number-between 2 space.flags ((prev ++ next) ++ level) _ 12 (omega arith) (omega (arith, h.flags)) in
    let e_cycle : number_at 2 page 8190 ≡ space.cycle =
    in-space 2 page _ 14 (is ∙ at_cycle) ∙ number-between 2 space.cycle (((prev ++ next) ++ level) ++ flags) _ 14 (omega arith) (omega (arith, h.cycle)) in
    rw (e_prev, e_next, e_level, e_flags, e_cycle) refl
