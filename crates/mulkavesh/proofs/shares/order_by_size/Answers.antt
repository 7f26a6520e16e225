use Rattle.std.proofs.Common.{rules}
use Rattle.std.proofs.lemmas.List.Sorted.{answers_always}
use Rattle.mulkavesh.proofs.shares.order_by_size.Goals as goal

pub returns : goal.returns
returns c = record {
  moved = c.sort_unstable_by_key.ensures.permutation;
  sorted = c.sort_unstable_by_key.ensures.sorted (λ f. (record { 0 = f.size }, f.index)) (answers_always _ _ _ (λ f a r g h. search rules));
}
