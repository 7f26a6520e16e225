use Rattle.std.proofs.Common.{sym, ap, ◌∙◌, Some}
use Rattle.std.specs.Prelude.{option_map}
use Rattle.walrus_base.specs.Id.{place}
use Rattle.walrus_base.specs.Locals.{locals, local_type}
use Rattle.walrus_base.specs.Value.{val_type}
use Rattle.walrus_functions.proofs.declared.type_at.Goals as goal
use Rattle.walrus_base.proofs.SlotLemmas.{item_at-map}

pub returns-then-contains : goal.returns-then-contains
returns-then-contains c =
    ap (λ v. Some (val_type v)) c.ty.ensures ∙ sym (item_at-map (λ l. val_type (local_type l)) (locals c.args.module_locals.now) (place c.args.id) ∙ ap (option_map (λ l. val_type (local_type l))) c.get.ensures)
