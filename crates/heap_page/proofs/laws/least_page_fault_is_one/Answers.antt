use Rattle.std.proofs.Common.{ℕ, ap, ◌∙◌}
use Rattle.pg_bytes.proofs.LeastFaults.{least-fault-is-one}
use Rattle.heap_page.specs.Fault.{HasPageFault, number_of_page_cause}
use Rattle.heap_page.specs.declared.fault.PageFault.{PageFault}
use Rattle.heap_page.proofs.laws.least_page_fault_is_one.Goals as goal

abbrev fault : ℕ → ℕ → PageFault
fault item cause = record { item = item; cause = cause }

pub returns : goal.returns
returns c page columns a b of_a of_b =
    let same = least-fault-is-one number_of_page_cause (HasPageFault page columns) a.item a.cause b.item b.cause of_a of_b in
    ap (λ (item : ℕ). fault item a.cause) same.0 ∙ ap (fault b.item) same.1
