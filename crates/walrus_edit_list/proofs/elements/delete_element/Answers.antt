use Rattle.std.proofs.Common.{ap, false, refl, subst, ◌∙◌}
use Rattle.std.specs.Prelude.{◌≡◌, None, Some, slice_set}
use Rattle.walrus_base.specs.Arena.{item_at}
use Rattle.walrus_contents.specs.View.{element_kind_of}
use Rattle.walrus_items.specs.Elements.{element_value, elements}
use Rattle.walrus_items.specs.Tables.{tables}
use Rattle.walrus_edit_list.specs.Elements.{in_table}
use Rattle.walrus_edit_list.proofs.elements.delete_element.Goals as goal

pub returns : goal.returns
returns g c =
    let old = elements c.args.module.now.elements in
    let was = element_value c.get.result.now in
    record {
      was = was;
      stood = subst (λ n. item_at old n ≡ Some was) c.at-id.ensures c.get.ensures;
      gone = c.delete.ensures ∙ ap (λ n. slice_set old n None) c.at-id.ensures;
      freed = c.free.ensures ∙ ap (λ n. in_table false (element_kind_of was.kind) n (tables c.args.module.now.tables)) c.at-id.ensures;
      only = refl;
    }
