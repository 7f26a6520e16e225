-- The ranges of bodies that are told of the records that are written are the transform of their bytes, where no location is kept.
use Rattle.std.proofs.Common.{◌≡◌, ℕ, false, List, map, ap}
use Rattle.std.specs.Prelude.{All, IfOk, Result, Ok, Err}
use Rattle.std.specs.Global.{Vec}
use Rattle.std.specs.Str.{IsUtf8}
use Rattle.wasm_frames.specs.Record as wire
use Rattle.walrus_base.specs.Operators.{Functions, Item}
use Rattle.walrus_contents.specs.View.{parts_view}
use Rattle.walrus_contents.specs.declared.parts.Parts.{Parts}
use Rattle.walrus_items.specs.Transform.{location_of, transform_of}
use Rattle.walrus_items.specs.declared.error.Error.{Error}
use Rattle.walrus_items.specs.declared.transform.CodeTransform.{CodeTransform}
use Rattle.walrus_model.specs.Abstract.{Abstract, Custom}
use Rattle.walrus_model.specs.Config.{Config}
use Rattle.walrus_model.specs.Customs.{written_customs}
use Rattle.walrus_model.specs.Dead.{HasDead}
use Rattle.walrus_model.specs.Declared.{NothingUndeclared}
use Rattle.walrus_model.specs.Sections.{custom_of}
use Rattle.walrus_theorem.specs.Refused.{IsSayable}
use Rattle.walrus_theorem.proofs.SameItems.{with_own}
use Rattle.walrus_writing.specs.Customs.{Task}
use Rattle.walrus_writing.specs.Emitted.{IsWrittenWith}
use Rattle.walrus_writing.specs.Located.{TellsItems}
use Rattle.walrus_writing.specs.Records.{Spells}
use Rattle.walrus_writing.specs.Transform.{IsTransformOf, locations_at}
use Rattle.walrus_writing.proofs.OffsetsThere.{all_offsets}
use Rattle.walrus_writing.proofs.TransformTold.{is_transform_of}

module _ (c : Config) (p : Parts) (job : Task) (with : IsWrittenWith c job.choices) (lives : HasDead (parts_view p) → ⊥) (declared : NothingUndeclared (parts_view p)) (own : List Custom) (roots : List Item)
    (asked : map custom_of job.sections ≡ written_customs (λ x. job.names x.0 x.1) own) (texts : All (λ (x : wire.Custom). IsUtf8 x.name) job.sections) where
  abbrev W : Abstract
  W = with_own (parts_view p) own roots

  pub told_ok : (result : Result (Vec ℕ × CodeTransform) Error) → IfOk result (λ r. Spells p job r.0.items) → IfOk result (λ r. TellsItems p job r.1)
      → IfOk result (λ r. IsSayable W → IsTransformOf c false (locations_at p) W r.0.items (transform_of r.1))
  told_ok (Ok r) spells told = λ sayable.
      let records = told.records in
      let rest = all_offsets p records.names job.choices.features (records.own Functions) records.bodies records.bodies_are in
      is_transform_of c p job with lives declared own roots asked texts sayable records told.names_are rest.0 rest.1 rest.2 r.0.items spells false (transform_of r.1)
      told.told.count told.told.ranges (ap (map location_of) told.told.no_locations)
  told_ok (Err e) spells told = tt
