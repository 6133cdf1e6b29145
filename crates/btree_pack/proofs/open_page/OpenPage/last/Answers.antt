use Rattle.std.proofs.Common.{◌≡◌, List, ℕ, length, arith, ◌∙◌, refl}
use Rattle.btree_page.proofs.MetaWrites.{length-special_bytes}
use Rattle.btree_pack.proofs.OpenPages.{HasLast, has_last}
use Rattle.btree_page.specs.SpecialSpace.{special_bytes}
use Rattle.btree_page.specs.declared.special.SpecialSpace.{SpecialSpace}
use Rattle.btree_pack.specs.Pass.Begun.{begun_page}
use Rattle.btree_pack.specs.Pass.Packing.{IsOpen, PageState}
use Rattle.btree_pack.proofs.open_page.OpenPage.last.Goals as goal

-- the last tuple has its place
found : (state : PageState) (taken : ℕ) (space : SpecialSpace) (count : ℕ) (page : List ℕ) → IsOpen state taken
    → page ≡ begun_page (special_bytes space) 0 state.before → count ≡ length state.before
    → HasLast (special_bytes space) state.last state.before page count
found state taken space count page opened is same =
    let room = opened.room in
    has_last (special_bytes space) state.last state.before page count (length-special_bytes space) opened.tuples opened.last (omega arith) is same

pub overflow_cast-len : goal.overflow_cast-len
overflow_cast-len c = let few = (found _ _ _ _ _ c.self.invariant c.in_ok-page.ensures c.len.ensures).few in omega arith

pub overflow_add-len : goal.overflow_add-len
overflow_add-len c = let few = (found _ _ _ _ _ c.self.invariant c.in_ok-page.ensures c.len.ensures).few in omega arith

pub put_item-requires-clause-upper : goal.put_item-requires-clause-upper
put_item-requires-clause-upper c = (found _ _ _ _ _ c.self.invariant c.in_ok-page.ensures c.len.ensures).upper

pub put_item-requires-clause-room : goal.put_item-requires-clause-room
put_item-requires-clause-room c = rw c.deref.ensures.value (found _ _ _ _ _ c.self.invariant c.in_ok-page.ensures c.len.ensures).room

pub returns : goal.returns
returns c =
    let is = (found _ _ _ _ _ c.self.invariant c.in_ok-page.ensures c.len.ensures).is in
    rw (← c.self.view_is) (c.put_item.ensures ∙ rw c.deref.ensures.value (is ∙ rw c.special.ensures (rw (← c.self.view_is) refl)))
