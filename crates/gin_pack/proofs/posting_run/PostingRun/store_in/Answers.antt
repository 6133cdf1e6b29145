use Rattle.std.proofs.Common.{arith}
use Rattle.gin_pack.proofs.Runs.{all-stored, can-store, none-stored, one-stored}
use Rattle.gin_pack.proofs.posting_run.PostingRun.store_in.Goals as goal

pub loop-head-init : goal.loop-head-init
loop-head-init c =
    none-stored c.args.store.now c.args.self.now c.self.inside.heads.items c.deref-head-items.result.now c.self.inside.ptrs.items c.as_slice-left.result.now
    c.self.view_is c.self.invariant c.deref-head-items.ensures.value c.as_slice-left.ensures.value

pub split_at-requires : goal.split_at-requires
split_at-requires c =
    (can-store c.args.store.now c.loop-head.store c.args.self.now c.deref-head-items.result.now c.loop-head.head-index c.head-item.result
    c.loop-head.left.now c.loop-head.invariant c.loop-head-test.true c.head-item.is c.requires.storing c.requires.listed c.requires.few).fits

pub store-requires-clause-storing : goal.store-requires-clause-storing
store-requires-clause-storing c =
    (can-store c.args.store.now c.loop-head.store c.args.self.now c.deref-head-items.result.now c.loop-head.head-index c.head-item.result
    c.loop-head.left.now c.loop-head.invariant c.loop-head-test.true c.head-item.is c.requires.storing c.requires.listed c.requires.few).storing

pub store-requires-clause-listed : goal.store-requires-clause-listed
store-requires-clause-listed c =
    rw c.split_at.ensures.front
    (can-store c.args.store.now c.loop-head.store c.args.self.now c.deref-head-items.result.now c.loop-head.head-index c.head-item.result
    c.loop-head.left.now c.loop-head.invariant c.loop-head-test.true c.head-item.is c.requires.storing c.requires.listed c.requires.few).listed

pub store-requires-clause-few : goal.store-requires-clause-few
store-requires-clause-few c =
    rw c.split_at.ensures.front
    (can-store c.args.store.now c.loop-head.store c.args.self.now c.deref-head-items.result.now c.loop-head.head-index c.head-item.result
    c.loop-head.left.now c.loop-head.invariant c.loop-head-test.true c.head-item.is c.requires.storing c.requires.listed c.requires.few).few

pub loop-head-preserved : goal.loop-head-preserved
loop-head-preserved c =
    one-stored c.args.store.now c.loop-head.store c.store.new.self c.args.self.now c.deref-head-items.result.now c.loop-head.head-index c.head-item.result
    c.loop-head.left.now c.split_at.result.0.now c.split_at.result.1.now c.loop-head.invariant c.loop-head-test.true c.head-item.is
    c.split_at.ensures.front c.split_at.ensures.back c.in_ok-store.ensures

pub returns : goal.returns
returns c =
    all-stored c.args.store.now c.loop-head.store c.args.self.now c.deref-head-items.result.now c.loop-head.head-index c.loop-head.left.now
    c.loop-head.invariant (let past = c.loop-head-test.false in omega arith)
