-- What holds of the plan and the indices by which a module's parts are written.
use Rattle.std.specs.Prelude.{◌<◌, ◌^◌, length}
use Rattle.walrus_base.specs.ModuleTypes.{type_slots}
use Rattle.walrus_base.specs.Operators.{Space, DataSegments}
use Rattle.walrus_code.specs.Indices.{index_of}
use Rattle.walrus_groups.specs.Indexed.{AreInOrder}
use Rattle.walrus_contents.specs.View.{parts_view}
use Rattle.walrus_contents.specs.declared.parts.Parts.{Parts}
use Rattle.walrus_model.specs.Plan.{AreNumbered, IsPlan}
use Rattle.walrus_model.specs.WellMade.{ImportsMatch}
use Rattle.walrus_theorem.specs.Spelling.{IsCount}
use Rattle.walrus_plan.specs.Planned.{ListsItems}
use Rattle.walrus_plan.specs.Places.{places}
use Rattle.walrus_plan.specs.Reads.{ReadsInOrder}
use Rattle.walrus_plan.specs.declared.prepared.Prepared.{Prepared}

-- A plan of the parts, by which each item has its place as its index. Imports and items name each other, and what types name and initialisers
-- read stands in order. Data segments are counted where that is due.
pub record IsPrepared (p : Parts) (prepared : Prepared) : Type 0 where
  pub matched : ImportsMatch (parts_view p)
  pub reads : ReadsInOrder (parts_view p)
  pub in_order : AreInOrder (type_slots p.types.now)
  pub is_plan : IsPlan (parts_view p) (places prepared.plan)
  pub numbered : AreNumbered (index_of prepared.indices) (places prepared.plan)
  pub few : (space : Space) → length (places prepared.plan space) < 2 ^ 32
  pub lists : ListsItems p prepared.plan
  pub data_count : IsCount (parts_view p) (length (places prepared.plan DataSegments)) prepared.data_count
