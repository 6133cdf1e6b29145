use Rattle.std.proofs.Common.{◌≡◌, ◌+◌, ◌≤◌, List, ℕ, length, arith, ◌∙◌, refl}
use Rattle.btree_page.proofs.MetaWrites.{length-special_bytes}
use Rattle.btree_pack.proofs.OpenPages.{HasHighKey, has_high_key}
use Rattle.btree_pack.specs.Break.{spare}
use Rattle.btree_page.specs.SpecialSpace.{special_bytes}
use Rattle.btree_page.specs.declared.special.SpecialSpace.{SpecialSpace}
use Rattle.btree_pack.specs.Pass.Begun.{begun_page}
use Rattle.btree_pack.specs.Pass.Packing.{IsOpen, IsTuple, PageState}
use Rattle.btree_pack.proofs.open_page.OpenPage.finished.Goals as goal

-- the high key has room on a page that gives its last tuple away
found : (state : PageState) (taken : ℕ) (space : SpecialSpace) (high_key page : List ℕ) → IsOpen state taken → IsTuple high_key
    → length high_key ≤ length state.last + spare state.level → page ≡ begun_page (special_bytes space) 1 state.before
    → HasHighKey (special_bytes space) high_key state.before page
found state taken space high_key page opened key fits is =
    let room = opened.room in
    has_high_key (special_bytes space) high_key state.before page (length-special_bytes space) opened.tuples key (omega arith) is

pub put_item-requires-clause-upper : goal.put_item-requires-clause-upper
put_item-requires-clause-upper c = (found _ _ _ c.args.high_key.now _ c.self.invariant c.requires.tuple (rw (← c.self.view_is) at c.requires.room) c.in_ok-page.ensures).upper

pub put_item-requires-clause-room : goal.put_item-requires-clause-room
put_item-requires-clause-room c = (found _ _ _ c.args.high_key.now _ c.self.invariant c.requires.tuple (rw (← c.self.view_is) at c.requires.room) c.in_ok-page.ensures).room

pub returns : goal.returns
returns c =
    let is = (found _ _ _ c.args.high_key.now _ c.self.invariant c.requires.tuple (rw (← c.self.view_is) at c.requires.room) c.in_ok-page.ensures).is in
    rw (← c.self.view_is) (c.put_item.ensures ∙ is ∙ rw c.special.ensures (rw (← c.self.view_is) refl))
