use Rattle.std.proofs.Common.{◌≡◌, ◌-◌, ◌≤◌, true, false, length, take, drop, All}
use Rattle.std.specs.Ordering.{is_lt}
use Rattle.opclass.specs.Order.{bytes_cmp}
use Rattle.shared_tape.specs.Runs.{order_list, IsRun}
use Rattle.run_merge.proofs.between.first_from.Given as goal

abbrev pub invariant-loop-low : goal.invariant-loop-low
invariant-loop-low l = record {
  sound : IsRun l.run;
  order : l.low ≤ l.high;
  within : l.high ≤ length l.run.records;
  below : All (λ bytes. is_lt (bytes_cmp bytes l.cut) ≡ true) (take l.low (order_list l.run));
  from : All (λ bytes. is_lt (bytes_cmp bytes l.cut) ≡ false) (drop l.high (order_list l.run));
}

abbrev pub decreases-loop-low : goal.decreases-loop-low
decreases-loop-low l = l.high - l.low
