use Rattle.std.proofs.Common.{length, ap, sym, ◌∙◌}
use Rattle.walrus_base.specs.Id.{place}
use Rattle.walrus_base.specs.ModuleTypes.{type_slots, type_names}
use Rattle.walrus_base.specs.TypeDef.{type_def, type_name, places_between}
use Rattle.walrus_base.specs.TypeSlots.{defs, names, cleared, group_of}
use Rattle.walrus_base.proofs.Indexed.{indexed-cleared, indexed-seen}
use Rattle.walrus_base.proofs.OwnIdLemmas.{under_own_ids-cleared}
use Rattle.walrus_base.proofs.WholeLemmas.{whole-cleared, whole-same}
use Rattle.walrus_base.proofs.SlotLemmas.{map-cleared, length-cleared}
use Rattle.walrus_base.proofs.module_types.ModuleTypes.delete.Goals as goal

pub invariant_of-self : goal.invariant_of-self
invariant_of-self c =
    let old = c.args.self.now in
    let emptied = places_between c.get-ty.result.now.first c.get-ty.result.now.end in
    record {
      whole = whole-same (cleared emptied (type_slots old)) _ (ap (λ places. defs places) c.clear.ensures ∙ map-cleared type_def emptied old.places.items)
          (whole-cleared (type_slots old) (place c.args.id) (type_def c.get-ty.result.now) c.get-ty.ensures.value old.whole);
      under_own_ids = rw c.clear.ensures (under_own_ids-cleared 0 emptied old.places.items old.under_own_ids);
      indexed = indexed-seen old.index old.noted (cleared emptied old.places.items) c.clear.new.places.items (indexed-cleared old.index old.noted emptied old.places.items old.indexed) (ap (λ places. defs places) c.clear.ensures);
      within = rw (ap (λ places. length places) c.clear.ensures ∙ length-cleared emptied old.places.items) old.within;
      in_order = old.in_order;
      not_named = old.not_named;
    }

pub returns-clause-slots : goal.returns-clause-slots
returns-clause-slots c =
    let old = c.args.self.now in
    let emptied = places_between c.get-ty.result.now.first c.get-ty.result.now.end in
    ap (λ places. defs places) c.clear.ensures ∙ map-cleared type_def emptied old.places.items
    ∙ ap (λ o. cleared (group_of o) (type_slots old)) (sym c.get-ty.ensures.value)

pub returns-clause-names : goal.returns-clause-names
returns-clause-names c =
    let old = c.args.self.now in
    let emptied = places_between c.get-ty.result.now.first c.get-ty.result.now.end in
    ap (λ places. names places) c.clear.ensures ∙ map-cleared type_name emptied old.places.items
    ∙ ap (λ o. cleared (group_of o) (type_names old)) (sym c.get-ty.ensures.value)
