use Rattle.pg_bytes.proofs.LeastFaults.{least-fault-is-one}
use Rattle.hot_chain.specs.Roots.{HasChainFault, number_of_root_cause}
use Rattle.hot_chain.proofs.laws.least_chain_fault_is_one.Goals as goal

pub returns : goal.returns
returns c = λ page. least-fault-is-one number_of_root_cause (HasChainFault page)
