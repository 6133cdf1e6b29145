use Rattle.std.proofs.Common.{◌≡◌, ◌+◌, ◌-◌, None, length, replicate, rules, arith}
use Rattle.std.proofs.lemmas.List.{take_at}
use Rattle.heap_page.specs.Line.{heap_line_count}
use Rattle.hot_chain.specs.Pass.RootOffsets.{IsWalked}
use Rattle.hot_chain.proofs.Fill.{fill_begins, fill_steps, fill_ends}
use Rattle.hot_chain.proofs.root_offsets.root_offsets_of.Goals as goal

pub loop-start-init : goal.loop-start-init
loop-start-init c =
    let last : c.lines-start.result + 1 ≡ heap_line_count c.args.view.now.bytes + 1 = search rules in
    let same : c.from.result + 1 ≡ c.lines-start.result + 1 = search rules in
    let empty : c.in_ok-offsets.offsets.items ≡ replicate (c.from.result + 1) None =
    c.in_ok-offsets.ensures.items_if_clones_equal (λ y clone. search rules) in
    rw (empty, same) (fill_begins _ _ last)

pub loop-start-preserved : goal.loop-start-preserved
loop-start-preserved c =
    let room : length c.walk_chain.new.offsets ≡ heap_line_count c.args.view.now.bytes + 1 = search rules in
    let whole : length c.walk_chain.new.offsets ≡ c.loop-start.offsets.len = search rules in
    let walked : IsWalked c.args.view.now.bytes (c.loop-start.start - 1) c.loop-start.offsets.items c.walk_chain.new.offsets = search rules in
    rw take_at record {
      room = room;
      closed = c.walk_chain.ensures.closed;
      greatest = fill_steps _ _ _ _ _ (omega arith) c.loop-start.invariant.greatest walked;
    }

pub returns : goal.returns
returns c = record {
  room = c.loop-start.invariant.room;
  greatest = fill_ends _ _ _ c.loop-start-test.false c.loop-start.invariant.greatest;
}
