use Rattle.std.proofs.Common.{ap, ◌∙◌}
use Rattle.walrus.specs.Items.Held.{held_entries_left}
use Rattle.walrus_edits.proofs.NameSteps.{names_begin, names_end, names_turn}
use Rattle.walrus_edits.proofs.name_records.push_names.Goals as goal

pub items-init : goal.items-init
items-init g c = (tt, tt, λ name_of law. names_begin c.args.what name_of _ _ _ (ap (held_entries_left g.T.Item.value) c.into_iter-id-iterator.ensures.into_iter_gives ∙ c.iter_entries-id-items.ensures))

pub items-preserved : goal.items-preserved
items-preserved g c = (tt, tt, λ name_of law. names_turn c.args.what name_of _ _ _ _ _ _ _ _ c.in-Some.ensures.steps c.index.ensures (c.own_name.ensures ∙ law _) c.in_ok-push_name.ensures (c.items.invariant.2 name_of law))

pub returns : goal.returns
returns g c = λ name_of law. names_end c.args.what name_of _ _ _ c.in-None.ensures.steps.0 (c.items.invariant.2 name_of law)
