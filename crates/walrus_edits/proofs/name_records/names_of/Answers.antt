use Rattle.std.proofs.Common.{ap, map, refl}
use Rattle.walrus.specs.Items.Data.{DataValue}
use Rattle.walrus.specs.Items.Elements.{ElementValue}
use Rattle.walrus.specs.Items.Functions.{FunctionValue}
use Rattle.walrus.specs.Items.Globals.{GlobalValue}
use Rattle.walrus.specs.Items.Memories.{MemoryValue}
use Rattle.walrus.specs.Items.Tables.{TableValue}
use Rattle.walrus.specs.Items.Tags.{TagValue}
use Rattle.walrus_edits.specs.ItemSteps.{name_told}
use Rattle.walrus_edits.proofs.NameSteps.{all_pushed}
use Rattle.walrus_edits.proofs.name_records.names_of.Goals as goal

pub returns : goal.returns
returns c =
    all_pushed _ _ _ _ _ _ _ _ _ _ _ _ _ _ _ _ _ _ _ (ap (map name_told) c.new-names.ensures.items) c.in_ok-push_name.ensures c.in_ok-push_type_names.ensures
    (c.in_ok-push_names.ensures (λ (f : FunctionValue). f.name) (λ f. refl))
    (c.in_ok-push_names-2.ensures (λ (t : TableValue). t.name) (λ t. refl))
    (c.in_ok-push_names-3.ensures (λ (m : MemoryValue). m.name) (λ m. refl))
    (c.in_ok-push_names-4.ensures (λ (g : GlobalValue). g.name) (λ g. refl))
    (c.in_ok-push_names-5.ensures (λ (t : TagValue). t.name) (λ t. refl))
    (c.in_ok-push_names-6.ensures (λ (e : ElementValue). e.name) (λ e. refl))
    (c.in_ok-push_names-7.ensures (λ (d : DataValue). d.name) (λ d. refl))
