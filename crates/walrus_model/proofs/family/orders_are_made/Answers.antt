use Rattle.std.specs.Prelude.{IsSome}
use Rattle.walrus_model.specs.Spaces.{SameThing, look}
use Rattle.walrus_model.specs.Abstract.{Table}
use Rattle.walrus_model.proofs.Arenas.{entries_rise, ordered_nothing, ordered_seen}
use Rattle.walrus_model.proofs.Orders.{carries_in_place, lists_permuted, ordered_entries}
use Rattle.walrus_model.proofs.Planned.{imported_first}
use Rattle.walrus_model.proofs.family.orders_are_made.Goals as goal

pub returns-clause-entries : goal.returns-clause-entries
returns-clause-entries g = ordered_entries

pub returns-clause-rising : goal.returns-clause-rising
returns-clause-rising g = entries_rise

pub returns-clause-seen : goal.returns-clause-seen
returns-clause-seen g = λ slots order h. ordered_seen (λ (t : Table). t) slots order h

pub returns-clause-nothing : goal.returns-clause-nothing
returns-clause-nothing g = ordered_nothing Table

pub returns-clause-permuted : goal.returns-clause-permuted
returns-clause-permuted g = λ v s xs ys moved h. lists_permuted (λ p. IsSome (look v s p)) xs ys moved h

pub returns-clause-imported_first : goal.returns-clause-imported_first
returns-clause-imported_first g = imported_first

pub returns-clause-filled : goal.returns-clause-filled
returns-clause-filled g = λ r s things slots in_place filled. carries_in_place (λ x. x) (SameThing r s) (λ j. ⊥) (r.numbers s) in_place things slots filled
