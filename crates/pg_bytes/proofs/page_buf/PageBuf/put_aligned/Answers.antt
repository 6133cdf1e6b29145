use Rattle.std.proofs.Common.{◌≡◌, ◌-◌, arith, length, refl}
use Rattle.pg_bytes.proofs.Writes.{length-zeros, written-written}
use Rattle.pg_bytes.specs.Numbers.{rounded_up}
use Rattle.pg_bytes.specs.PageLayout.{aligned}
use Rattle.pg_bytes.specs.Places.{zeros}
use Rattle.pg_bytes.proofs.page_buf.PageBuf.put_aligned.Goals as goal

pub returns : goal.returns
unfolding aligned
returns c =
    let size : length c.args.self.now ≡ 8192 = rw (← c.self.view_is) c.self.invariant in
    let pad = length-zeros (rounded_up 8 (length c.args.item.now) - length c.args.item.now) in
    rw (c.clear.ensures, c.put_slice.ensures, c.al8.ensures)
    (written-written c.args.item.now (zeros (rounded_up 8 (length c.args.item.now) - length c.args.item.now)) c.args.place _ c.args.self.now refl (omega (arith, c.requires)))
