use Rattle.std.proofs.Common.{sym, subst}
use Rattle.std.specs.List.Sorted.{IsPermutation, IsSorted}
use Rattle.std.proofs.lemmas.List.Sorted.{IsPermutation-map}
use Rattle.opclass.specs.Order.{bytes_cmp}
use Rattle.std.proofs.lemmas.Result.{IfOk-weaker}
use Rattle.run_merge.specs.Cutting.{AreAtShares, AreCuts}
use Rattle.run_merge.specs.Pass.{bytes_of, bytes_sampled}
use Rattle.run_merge.proofs.Shares.{sorted_bytes}
use Rattle.run_merge.proofs.cutting.cut_at_samples.Goals as goal

pub choose_cuts-requires-clause-ascending : goal.choose_cuts-requires-clause-ascending
choose_cuts-requires-clause-ascending c =
    subst (λ l. IsSorted bytes_cmp (bytes_of l)) (sym c.deref.ensures.value)
    (sorted_bytes _ c.sort_unstable.ensures.sorted)

pub returns : goal.returns
returns c = IfOk-weaker c.choose_cuts.result (AreAtShares (bytes_of c.deref.result.now) c.args.parts)
    (AreCuts (bytes_sampled c.args.sampled) c.args.tapes.now c.args.parts) (λ cuts shares. record {
      samples = bytes_of c.deref.result.now;
      same = subst (λ l. IsPermutation l (bytes_of c.deref.result.now)) c.in_ok-samples.ensures
          (subst (λ l. IsPermutation (bytes_of c.in_ok-samples.samples.items) (bytes_of l)) (sym c.deref.ensures.value)
          (IsPermutation-map (λ s. s.now) _ _ c.sort_unstable.ensures.permutation));
      ascending = subst (λ l. IsSorted bytes_cmp (bytes_of l)) (sym c.deref.ensures.value)
          (sorted_bytes _ c.sort_unstable.ensures.sorted);
      shares = shares;
    }) c.choose_cuts.ensures
