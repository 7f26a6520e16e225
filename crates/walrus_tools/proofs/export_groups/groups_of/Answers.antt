use Rattle.std.proofs.Common.{◌≡◌, ℕ, List, [], ◌∷◌, ◌++◌, ap, ap₂, sym, ◌∙◌}
use Rattle.std.proofs.lemmas.List.{append_assoc}
use Rattle.walrus.specs.Items.Exports.{ExportValue, export_value, exports_left}
use Rattle.walrus.specs.Items.Kinds.{exported}
use Rattle.walrus_tools.specs.LinkSteps.{key_of, names_at, same_key}
use Rattle.walrus_tools.proofs.LinkLemmas.{name_if, next_grouped}
use Rattle.walrus_tools.proofs.export_groups.groups_of.Goals as goal

pub exports-preserved : goal.exports-preserved
exports-preserved c =
    let done = c.exports.invariant.2.0 in
    let e = export_value c.in-Some.export.now in
    let key_is : c.key_of.result ≡ key_of (exported e.item) = c.key_of.ensures ∙ ap key_of c.item_id.ensures in
    let name_is : c.as_str.result.now ≡ e.name = c.as_str.ensures.value in (
      tt,
      tt,
      (
        done ++ e ∷ [],
        append_assoc done (e ∷ []) (exports_left c.next.new.self) ∙ ap (λ (left : List ExportValue). done ++ left) (sym c.in-Some.ensures.steps) ∙ c.exports.invariant.2.1,
        next_grouped done e c.exports.groups c.add_name.new.groups c.exports.invariant.2.2
            (λ other. c.in_ok-add_name.ensures other ∙ ap₂ (λ (k : ℕ × ℕ) (n : List ℕ). names_at c.exports.groups other ++ name_if (same_key k other) n) key_is name_is),
      ),
    )
