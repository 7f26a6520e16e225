use Rattle.std.proofs.Common.{ap, false, refl, subst, ◌∙◌}
use Rattle.std.specs.Prelude.{◌≡◌, None, Some, slice_set}
use Rattle.walrus_base.specs.Arena.{item_at}
use Rattle.walrus_contents.specs.View.{data_kind_of}
use Rattle.walrus_items.specs.Data.{data_value, data_segments}
use Rattle.walrus_items.specs.Memories.{memories}
use Rattle.walrus_edit_list.specs.Data.{in_memory}
use Rattle.walrus_edit_list.proofs.data.delete_data.Goals as goal

pub returns : goal.returns
returns g c =
    let old = data_segments c.args.module.now.data_ in
    let was = data_value c.get.result.now in
    record {
      was = was;
      stood = subst (λ n. item_at old n ≡ Some was) c.at-id.ensures c.get.ensures;
      gone = c.delete.ensures ∙ ap (λ n. slice_set old n None) c.at-id.ensures;
      freed = c.free.ensures ∙ ap (λ n. in_memory false (data_kind_of was.kind) n (memories c.args.module.now.memories)) c.at-id.ensures;
      only = refl;
    }
