use Rattle.std.proofs.Common.{length, ap, ◌∙◌}
use Rattle.walrus_base.specs.Arena.{kept_by}
use Rattle.walrus_base.specs.Marks.{is_marked}
use Rattle.walrus_base.proofs.Kept.{map-kept_by, length-kept_by}
use Rattle.walrus_base.specs.ModuleTypes.{type_slots}
use Rattle.walrus_base.specs.TypeDef.{type_def, type_name}
use Rattle.walrus_base.specs.TypeSlots.{defs, names}
use Rattle.walrus_base.proofs.Indexed.{indexed-kept, indexed-seen}
use Rattle.walrus_base.proofs.OwnIdLemmas.{under_own_ids-kept}
use Rattle.walrus_base.proofs.WholeLemmas.{whole-kept, whole-same}
use Rattle.walrus_base.proofs.module_types.ModuleTypes.keep_only.Goals as goal

pub invariant_of-self : goal.invariant_of-self
invariant_of-self c =
    let old = c.args.self.now in
    let keeps = is_marked c.args.marks.now in
    let kept = c.keep_marked.ensures in
    record {
      whole = whole-same (kept_by keeps (type_slots old)) _ (ap (λ places. defs places) kept ∙ map-kept_by type_def keeps old.places.items)
          (whole-kept keeps (type_slots old) old.whole c.requires);
      under_own_ids = rw kept (under_own_ids-kept 0 keeps old.places.items old.under_own_ids);
      indexed = indexed-seen old.index old.noted (kept_by keeps old.places.items) c.keep_marked.new.places.items (indexed-kept old.index old.noted keeps old.places.items old.indexed) (ap (λ places. defs places) kept);
      within = rw (ap (λ places. length places) kept ∙ length-kept_by keeps old.places.items) old.within;
      in_order = old.in_order;
      not_named = old.not_named;
    }

pub returns-clause-slots : goal.returns-clause-slots
returns-clause-slots c = ap (λ places. defs places) c.keep_marked.ensures ∙ map-kept_by type_def (is_marked c.args.marks.now) c.args.self.now.places.items

pub returns-clause-names : goal.returns-clause-names
returns-clause-names c = ap (λ places. names places) c.keep_marked.ensures ∙ map-kept_by type_name (is_marked c.args.marks.now) c.args.self.now.places.items
