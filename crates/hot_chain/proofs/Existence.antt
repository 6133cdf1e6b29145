-- Each chain of a page can be walked to its end, so a heap-only item has a greatest start or is in no chain.
use Rattle.std.specs.List.{count_by}
use Rattle.std.specs.Option.{is_none}
use Rattle.std.proofs.Common.{◌≡◌, ◌⊎◌, inl, inr, ℕ, zero, suc, ◌+◌, ◌<◌, List, Option, Some, None, IfNone, IfSome, Bool, IsTrue, length, replicate, refl, sym, subst, ◌∙◌, arith}
use Rattle.std.proofs.Math.ListN.{set}
use Rattle.std.proofs.lemmas.Bool.{both_ways, cases_Bool, cases_eq, cases_lt}
use Rattle.std.proofs.lemmas.Option.{none-some}
use Rattle.pg_bytes.specs.Lines.{line_at}
use Rattle.pg_bytes.specs.Pointers.{number_of_state}
use Rattle.pg_bytes.specs.declared.line_ptr.LineState.TheVariants.{Normal, Redirect}
use Rattle.heap_page.specs.Infomask.{is_heap_only}
use Rattle.heap_page.specs.Line.{IsLine, IsNormal, IsRedirect, heap_line_count}
use Rattle.heap_page.specs.Tuple.{header_of}
use Rattle.hot_chain.specs.Chain.{Follows, IsHead, Own, Redirected, IsHeapOnly, IsInNoChain, IsLast, IsNoStart, is_hot_updated}
use Rattle.hot_chain.specs.Pass.RootOffsets.{root_offset, HasRootOffset, IsClosed, IsWalked}
use Rattle.hot_chain.specs.Roots.{IsRoot}
use Rattle.hot_chain.proofs.Fill.{IsFilling, fill_begins, fill_steps}
use Rattle.hot_chain.proofs.Walk.{IsWalking, cases_option, ended_here, fewer_bare, here_inside, walk_begins, walk_closes, walk_ends, walk_steps}

-- a flag is set or not
cases_flag : (flag : Bool) → IsTrue flag ⊎ (IsTrue flag → ⊥)
cases_flag flag = elim (cases_Bool flag) [
  | inl set ↦ inl set
  | inr clear ↦ inr (λ set. both_ways flag clear set)
]

pub cases_heap_only : (page : List ℕ) (item : ℕ) → IsHeapOnly page item ⊎ (IsHeapOnly page item → ⊥)
cases_heap_only page item = cases_flag (is_heap_only (header_of page item).infomask2)

-- the page's line pointer of a number is in a state
abbrev IsLineIn : List ℕ → ℕ → ℕ → Type 0
IsLineIn page k state = IsLine page k × ((line_at page k).state ≡ state)

cases_state : (page : List ℕ) (k state : ℕ) → IsLineIn page k state ⊎ (IsLineIn page k state → ⊥)
cases_state page k state = elim (cases_lt 0 k) [
  | inr none ↦ inr (λ n. omega (arith, n.0.0))
  | inl some ↦ elim (cases_lt (heap_line_count page) k) [
    | inl past ↦ inr (λ n. omega (arith, n.0.1))
    | inr inside ↦ elim (cases_eq (line_at page k).state state) [
      | inl same ↦ inl ((omega arith, omega arith), same)
      | inr differs ↦ inr (λ n. differs n.1)
    ]
  ]
]

cases_normal : (page : List ℕ) (k : ℕ) → IsNormal page k ⊎ (IsNormal page k → ⊥)
cases_normal page k = cases_state page k (number_of_state Normal)

cases_redirect : (page : List ℕ) (k : ℕ) → IsRedirect page k ⊎ (IsRedirect page k → ⊥)
cases_redirect page k = cases_state page k (number_of_state Redirect)

-- what follows an item, if something does
next_of : (page : List ℕ) (item : ℕ) → (next : Option ℕ) × IfSome next (Follows page item) × IfNone next (IsLast page item)
next_of page item =
    let k : ℕ = (header_of page item).ctid.offset in
    elim (cases_flag (is_hot_updated (header_of page item))) [
      | inr still ↦ (None, tt, λ next f. still f.updated)
      | inl updated ↦ elim (cases_normal page k) [
        | inr lost ↦ (None, tt, λ next f. lost (subst (λ (j : ℕ). IsNormal page j) f.named f.normal))
        | inl normal ↦ elim (cases_eq (header_of page k).xmin (header_of page item).xmax) [
          | inr other ↦ (None, tt, λ next f. other (subst (λ (j : ℕ). (header_of page j).xmin ≡ (header_of page item).xmax) f.named f.same))
          | inl same ↦ (Some k, record { updated = updated; named = refl; normal = normal; same = same }, tt)
        ]
      ]
    ]

-- a heap-only tuple begins no chain, nor does a redirect to no tuple or another line pointer
pub heap-only-no-start : (page : List ℕ) (item : ℕ) → IsNormal page item → IsHeapOnly page item → IsNoStart page item
heap-only-no-start page item normal only head (Own at direct same) = direct only
heap-only-no-start page item normal only head (Redirected redirect at target) = omega (arith, normal.1, redirect.1)

lost_target : (page : List ℕ) (start : ℕ) → (IsNormal page start → ⊥) → (IsNormal page (line_at page start).offset → ⊥) → IsNoStart page start
lost_target page start dead lost head (Own normal direct same) = dead normal
lost_target page start dead lost head (Redirected redirect at target) = lost (subst (λ (j : ℕ). IsNormal page j) at target)

other_line : (page : List ℕ) (start : ℕ) → (IsNormal page start → ⊥) → (IsRedirect page start → ⊥) → IsNoStart page start
other_line page start dead direct head (Own normal own same) = dead normal
other_line page start dead direct head (Redirected redirect at target) = direct redirect

-- the head of a start's chain, if it is a start
head_of : (page : List ℕ) (start : ℕ) → (head : Option ℕ) × IfSome head (IsHead page start) × IfNone head (IsNoStart page start)
head_of page start =
    let k : ℕ = (line_at page start).offset in
    elim (cases_normal page start) [
      | inl normal ↦ elim (cases_heap_only page start) [
        | inl only ↦ (None, tt, heap-only-no-start page start normal only)
        | inr direct ↦ (Some start, Own normal direct refl, tt)
      ]
      | inr dead ↦ elim (cases_redirect page start) [
        | inr other ↦ (None, tt, other_line page start dead other)
        | inl redirect ↦ elim (cases_normal page k) [
          | inl target ↦ (Some k, Redirected redirect refl target, tt)
          | inr lost ↦ (None, tt, lost_target page start dead lost)
        ]
      ]
    ]

-- the root offsets once a start's chain is walked
pub record IsAfter (page : List ℕ) (start : ℕ) (old new : List (Option ℕ)) : Type 0 where
  pub room : length new ≡ heap_line_count page + 1
  pub walked : IsWalked page start old new
  pub closed : IsClosed page new

-- a walk that has ended, at the chain's end or at an item that has a root offset
after_walk : (page : List ℕ) (start : ℕ) (old : List (Option ℕ)) (reached : Option ℕ) (new : List (Option ℕ)) → IsWalking page start old reached new
    → ((k : ℕ) → reached ≡ Some k → HasRootOffset new k) → IsAfter page start old new
after_walk page start old reached new w ended = record {
  room = w.room;
  walked = walk_ends page start old reached new w ended;
  closed = walk_closes page start old reached new w ended;
}

-- a walk comes to its end, since each step leaves fewer items without a root offset
walk_on : (fuel : ℕ) (page : List ℕ) (start : ℕ) (old : List (Option ℕ)) (reached : Option ℕ) (new : List (Option ℕ))
    → IsWalking page start old reached new → count_by is_none new < fuel → (end : List (Option ℕ)) × IsAfter page start old end
walk_on zero page start old reached new w few = absurd (omega (arith, few))
walk_on (suc fuel) page start old reached new w few =
    elim (cases_option reached) [
      | inl last ↦ (new, after_walk page start old reached new w (λ k e. absurd (none-some k (sym last ∙ e))))
      | inr at ↦ elim (cases_option (root_offset new at.0)) [
        | inr has ↦ (new, after_walk page start old reached new w (ended_here reached new at.0 at.1 has))
        | inl bare ↦
            let next = next_of page at.0 in
            let fewer = fewer_bare new at.0 start (here_inside page start old reached new w at.0 at.1) bare in
            walk_on fuel page start old next.0 (set new at.0 (Some start)) (walk_steps page start old reached new w at.0 at.1 bare next.0 next.1 next.2) (omega arith)
      ]
    ]

-- the starts are walked from a number down to 0
walk_down : (page : List ℕ) (from : ℕ) (offsets : List (Option ℕ)) → IsFilling page from offsets → (all : List (Option ℕ)) × IsFilling page 0 all
walk_down page zero offsets filling = (offsets, filling)
walk_down page (suc start) offsets filling =
    let head = head_of page start in
    let begun = walk_begins page start offsets head.0 filling.room filling.closed head.1 head.2 in
    let after = walk_on (count_by is_none offsets + 1) page start offsets head.0 offsets begun (omega arith) in
    walk_down page start after.0 (record {
      room = after.1.room;
      closed = after.1.closed;
      greatest = fill_steps page (suc start) start offsets after.0 (omega arith) filling.greatest after.1.walked;
    })

-- a heap-only item has a root, or no chain has it
pub cases_root : (page : List ℕ) (item : ℕ) → IsHeapOnly page item → ((root : ℕ) × IsRoot page item root) ⊎ IsInNoChain page item
cases_root page item only =
    let from : ℕ = heap_line_count page + 1 in
    let all = walk_down page from (replicate from None) (fill_begins page from refl) in
    elim (cases_option (root_offset all.0 item)) [
      | inl bare ↦ inr (λ start m. all.1.greatest.none item start bare (omega arith) m)
      | inr has ↦ inl (has.0, inr (only, all.1.greatest.some item has.0 has.1))
    ]
