use Rattle.std.proofs.Common.{◌≡◌, ◌++◌, ◌<◌, ap, sym, subst, ◌∙◌, List, ℕ, drop, length, arith}
use Rattle.opclass.specs.Norm.{directed_bytes}
use Rattle.opclass.specs.Pass.{HasNoEnd, StartsWithBytes, marked}
use Rattle.opclass.proofs.Pieces.{AreBytes}
use Rattle.opclass.proofs.Fronts.{bytes_front, bytes_none, take-front, length-directed_bytes, AreBytes-marked}
use Rattle.opclass.proofs.reader.read_bytes.Goals as goal

pub returns-in_default : goal.returns-in_default
returns-in_default c =
    bytes_none c.args.part c.args.bytes.now
    (subst (λ (mark : ℕ). HasNoEnd mark c.args.bytes.now) c.zero_of.ensures (rw c.in_default.is at c.in_ok-inside.ensures))

pub returns : goal.returns
returns c =
    let items : List ℕ = c.in-Some.inside.items in
    let mark : ℕ = c.zero_of.result in
    let small : mark < 256 = omega arith in
    let read : c.args.bytes.now ≡ marked mark items ++ c.in-Some.behind.now = rw c.in-Some.is at c.in_ok-inside.ensures in
    let are : AreBytes items =
    AreBytes-marked mark items c.in-Some.behind.now small (subst AreBytes read (λ k. (c.type_inv.bytes k).fits)) in
    let turned_items : c.direct.new.bytes ≡ directed_bytes c.args.part items = c.direct.ensures ∙ ap (directed_bytes c.args.part) c.deref_mut.ensures.value in
    let size : c.in-Some.inside.len ≡ length c.direct.new.bytes =
    sym (ap length turned_items ∙ length-directed_bytes c.args.part items ∙ ap length (sym c.deref_mut.ensures.value) ∙ c.deref_mut.ensures.len) in
    subst (λ (inside : List ℕ). StartsWithBytes c.args.part c.args.bytes.now inside c.in-Some.behind.now)
    (sym (take-front c.in-Some.inside.len c.direct.new.bytes (drop (length c.direct.new.bytes) items) size ∙ turned_items))
    (bytes_front c.args.part c.args.bytes.now items c.in-Some.behind.now are
    (read ∙ ap (λ (m : ℕ). marked m items ++ c.in-Some.behind.now) c.zero_of.ensures))
