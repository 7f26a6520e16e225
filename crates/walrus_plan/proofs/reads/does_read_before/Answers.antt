use Rattle.std.proofs.Common.{List, ap, map, ◌∙◌}
use Rattle.std.specs.Prelude.{Contains}
use Rattle.walrus_code.specs.Code.{item_of}
use Rattle.walrus_code.specs.declared.items.ItemId.{ItemId}
use Rattle.walrus_items.specs.Globals.{globals}
use Rattle.walrus_contents.proofs.NamedLemmas.{all_put}
use Rattle.walrus_contents.specs.Named.{own_written}
use Rattle.walrus_contents.specs.View.{parts_view}
use Rattle.walrus_plan.specs.Reads.{may_name, may_name_all}
use Rattle.walrus_plan.proofs.ReadsBefore.{all_same}
use Rattle.walrus_plan.proofs.reads.does_read_before.Goals as goal
use Rattle.walrus_plan.proofs.reads.does_read_before.Goals.{in-Ok, in-Err-Memory}

pub returns-clause-value : goal.returns-clause-value
returns-clause-value c =
    let slots = globals c.args.parts.globals.now in
    let from = c.args.from in
    let own = own_written (parts_view c.args.parts) (item_of c.args.item) in
    elim c.match-push_written_names.branch [
      | in-Ok w ↦ rw w.result-is
          (w.may_be_named.ensures ∙ ap (λ (ids : List ItemId). may_name_all slots from (map item_of ids)) w.as_slice.ensures.value
          ∙ all_same (may_name slots from) _ own (all_put (Contains own) _ _ c.clear.ensures.items w.in-Ok.ensures.1))
      | in-Err-Memory w ↦ rw w.result-is tt
    ]
