use Rattle.std.proofs.Common.{ℕ, List, map, subst}
use Rattle.std.specs.List.Sorted.{IsPermutation}
use Rattle.std.proofs.lemmas.List.Sorted.{IsPermutation-map}
use Rattle.walrus_base.specs.declared.id.Id.{Id}
use Rattle.walrus_base.specs.declared.keys.FunctionKey.{FunctionKey}
use Rattle.walrus_writing.proofs.located.by_rising_id.Goals as goal

pub returns-clause-value : goal.returns-clause-value
returns-clause-value c =
    let number : Id FunctionKey × ℕ → ℕ = λ t. t.1 in
    let sorted = c.sort_unstable.new.self.items in
    subst (λ (l : List ℕ). IsPermutation l (map number sorted)) c.in_ok-turns.ensures.value
    (IsPermutation-map number c.in_ok-turns.turns.items sorted c.sort_unstable.ensures.permutation)
