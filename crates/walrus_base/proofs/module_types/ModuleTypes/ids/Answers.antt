use Rattle.std.proofs.Common.{◌≡◌, map, sym, ap, ◌∙◌}
use Rattle.std.specs.Prelude.{All}
use Rattle.std.proofs.lemmas.Result.{IfOk-weaker}
use Rattle.walrus_base.specs.Arena.{IsLive, live_places}
use Rattle.walrus_base.specs.Id.{place}
use Rattle.walrus_base.proofs.Entries.{all_live, live_places_seen}
use Rattle.walrus_base.specs.ModuleTypes.{type_slots}
use Rattle.walrus_base.specs.TypeDef.{type_def}
use Rattle.walrus_base.proofs.module_types.ModuleTypes.ids.Goals as goal

pub returns : goal.returns
returns c =
    let slots = type_slots c.args.self.now in
    let seen = ap live_places c.as_slice.ensures.value ∙ sym (live_places_seen type_def c.args.self.now.places.items) in
    record {
      value = IfOk-weaker c.live_ids.result (λ ids. map place ids.items ≡ live_places c.as_slice.result.now) (λ ids. map place ids.items ≡ live_places slots)
          (λ ids same. same ∙ seen) c.live_ids.ensures.value;
      live = IfOk-weaker c.live_ids.result (λ ids. map place ids.items ≡ live_places c.as_slice.result.now) (λ ids. All (λ id. IsLive slots (place id)) ids.items)
          (λ ids same. all_live slots ids.items (same ∙ seen)) c.live_ids.ensures.value;
    }
