use Rattle.std.proofs.Common.{◌≡◌, ◌<◌, ◌≤◌, ◌++◌, List, sym, ◌∙◌, ap, subst, arith, inr}
use Rattle.std.specs.Prelude.{Some, None}
use Rattle.opclass.specs.declared.value.KeyVal.{KeyVal}
use Rattle.btree_item.specs.Truncation.{KeepsUpToDifference}
use Rattle.btree_item.specs.Tuple.{size_of}
use Rattle.btree_pack.specs.Pass.Rows.{grown}
use Rattle.btree_pack.specs.Pass.Taken.{IsOfOneIndex, row_of}
use Rattle.btree_pack.specs.declared.grouper.Grouper.{Grouper}
use Rattle.btree_pack.proofs.Takings.{found, greatest-is, join-test, joins-is, pending-facts, tells-keys, tells-pointer, took-first, took-joins, took-over}
use Rattle.btree_pack.proofs.grouper.Grouper.take.Goals as goal

pub returns-in_default-clause-taken : goal.returns-in_default-clause-taken
returns-in_default-clause-taken c =
    let b = c.in_ok-begin.ensures in
    took-first c.args.self.now c.begin.new.self (row_of c.args.row.now) c.exchange.new.values (sym c.in_default.ensures.value) c.requires.row c.in_ok-exchange.ensures
    (record { pending = b.pending; ptrs = b.ptrs; kinds = b.kinds; keys = b.keys; shares = b.shares; tuple = b.tuple })

pub returns-then-joins-clause-taken : goal.returns-then-joins-clause-taken
returns-then-joins-clause-taken c =
    λ rows done has.
    let old = c.args.self.now in
    let p = c.in-Some.group in
    let some = sym c.in-Some.ensures.value in
    let at = found old rows done p some has in
    let facts = pending-facts old p c.requires.ready some in
    let row = row_of c.args.row.now in
    let keeps : KeepsUpToDifference p.values (row.keys ++ row.extra) c.truncate-kept.result = rw c.in_ok-exchange.ensures at c.truncate-kept.ensures in
    inr (
      grown at.group row,
      (
        p,
        took-joins old rows done at.group p row c.truncate-kept.result c.push.new.self c.exchange.new.values c.requires.ready at.pending facts.0 c.requires.row keeps facts.1
            (sym c.joins.ensures ∙ c.if-joins.true) c.in_ok-push.ensures.items,
      ),
    )

pub returns-then-from-self-clause-taken : goal.returns-then-from-self-clause-taken
returns-then-from-self-clause-taken c =
    λ rows done has.
    let old = c.args.self.now in
    let p = c.in-Some.group in
    let some = sym c.in-Some.ensures.value in
    let at = found old rows done p some has in
    let facts = pending-facts old p c.requires.ready some in
    let row = row_of c.args.row.now in
    let values : List KeyVal = c.exchange.new.values in
    let keeps : KeepsUpToDifference p.values (row.keys ++ row.extra) c.truncate-kept.result = rw c.in_ok-exchange.ensures at c.truncate-kept.ensures in
    let mid : Grouper = c.write.new.self in
    let one : IsOfOneIndex old mid = record { kinds = ap (λ (s : Grouper). s.kinds) c.in_ok-write.ensures.others; keys = ap (λ (s : Grouper). s.keys) c.in_ok-write.ensures.others; shares = ap (λ (s : Grouper). s.shares) c.in_ok-write.ensures.others } in
    let ptrs = ap (λ (s : Grouper). s.ptrs.items) c.in_ok-write.ensures.others in
    let apart : join-test old.kinds old.keys old.shares at.group row ≡ c.joins.result =
    joins-is old rows done at.group p row c.truncate-kept.result at.pending facts.0 c.requires.row keeps facts.1 ∙ sym c.joins.ensures in
    let many : old.keys < c.truncate-kept.result = let k = one.keys in let f = c.from.ensures in let t = c.if-from-self.true in omega arith in
    took-over old mid c.begin-then-from-self.new.self rows done at.group p row values mid.keys (Some c.index-last.result.now)
    c.requires.ready at.pending facts.0 c.requires.row (apart ∙ c.if-joins.false) one c.in_ok-write.ensures.tuple c.in_ok-begin-2.ensures c.in_ok-exchange.ensures
    (rw one.keys (tells-pointer old.kinds old.keys (size_of mid.kinds values) at.group row values c.index-last.result.now c.truncate-kept.result
    at.pending.keys_all c.requires.row.keys_all c.in_ok-exchange.ensures
    (subst (λ l. KeepsUpToDifference l (row.keys ++ row.extra) c.truncate-kept.result) at.pending.values keeps) many
    (greatest-is mid.ptrs.items at.group _ c.index-last.result.now (ptrs ∙ at.pending.pointers) (let l = c.len.ensures in let o = mid.ptrs.ok.0 in omega arith) c.index-last.ensures)))

pub returns-clause-taken : goal.returns-clause-taken
returns-clause-taken c =
    λ rows done has.
    let old = c.args.self.now in
    let p = c.in-Some.group in
    let some = sym c.in-Some.ensures.value in
    let at = found old rows done p some has in
    let facts = pending-facts old p c.requires.ready some in
    let row = row_of c.args.row.now in
    let values : List KeyVal = c.exchange.new.values in
    let keeps : KeepsUpToDifference p.values (row.keys ++ row.extra) c.truncate-kept.result = rw c.in_ok-exchange.ensures at c.truncate-kept.ensures in
    let mid : Grouper = c.write.new.self in
    let one : IsOfOneIndex old mid = record { kinds = ap (λ (s : Grouper). s.kinds) c.in_ok-write.ensures.others; keys = ap (λ (s : Grouper). s.keys) c.in_ok-write.ensures.others; shares = ap (λ (s : Grouper). s.shares) c.in_ok-write.ensures.others } in
    let apart : join-test old.kinds old.keys old.shares at.group row ≡ c.joins.result =
    joins-is old rows done at.group p row c.truncate-kept.result at.pending facts.0 c.requires.row keeps facts.1 ∙ sym c.joins.ensures in
    let few : c.truncate-kept.result ≤ old.keys = let k = one.keys in let f = c.from.ensures in let t = c.if-from-self.false in omega arith in
    took-over old mid c.begin-2.new.self rows done at.group p row values c.truncate-kept.result None
    c.requires.ready at.pending facts.0 c.requires.row (apart ∙ c.if-joins.false) one c.in_ok-write.ensures.tuple c.in_ok-begin-3.ensures c.in_ok-exchange.ensures
    (tells-keys old.kinds old.keys (size_of mid.kinds values) at.group row values c.truncate-kept.result
    at.pending.keys_all c.requires.row.keys_all c.in_ok-exchange.ensures
    (subst (λ l. KeepsUpToDifference l (row.keys ++ row.extra) c.truncate-kept.result) at.pending.values keeps) few)
