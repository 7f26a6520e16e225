use Rattle.std.proofs.Common.{◌≡◌, ◌∙◌, ℕ, Some, None, slice_set, ap, subst, sym, rules}
use Rattle.walrus.specs.Base.Arena.{item_at}
use Rattle.walrus.specs.Items.Exports.{export_value, exports}
use Rattle.walrus_sections.specs.NameLists.{IsPicked}
use Rattle.std.proofs.lemmas.Bool.{false≢true as untrue}
use Rattle.walrus_tools.proofs.NamedExports.{goes_there, stays_there}
use Rattle.walrus_tools.proofs.named_exports.drop_at.Goals as goal

pub returns-then-is_chosen : goal.returns-then-is_chosen
returns-then-is_chosen c =
    let there : item_at (exports c.args.all.now) c.args.at ≡ Some (export_value c.get.result.now) = search rules in
    stays_there (IsPicked c.args.chooser.now) (exports c.args.all.now) c.args.at (export_value c.get.result.now) there
    (subst (IsPicked c.args.chooser.now) c.as_bytes.ensures.value (c.is_chosen.ensures.0 c.if-is_chosen.true))

pub returns : goal.returns
returns c =
    let there : item_at (exports c.args.all.now) c.args.at ≡ Some (export_value c.get.result.now) = search rules in
    goes_there (IsPicked c.args.chooser.now) (exports c.args.all.now) c.args.at (export_value c.get.result.now) there (exports c.remove_root.new.self)
    (λ picked. untrue (sym c.if-is_chosen.false ∙ c.is_chosen.ensures.1 (subst (IsPicked c.args.chooser.now) (sym c.as_bytes.ensures.value) picked)))
    (c.remove_root.ensures ∙ ap (λ (n : ℕ). slice_set (exports c.args.all.now) n None) c.at-id.ensures)
