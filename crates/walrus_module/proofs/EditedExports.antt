-- What an edit of the exports makes of the abstract module.
use Rattle.std.proofs.Common.{[], ◌∷◌, map, refl, sym, ap, ◌∙◌, subst}
use Rattle.std.proofs.lemmas.List.{map-append}
use Rattle.walrus_base.specs.Arena.{items}
use Rattle.walrus_contents.specs.View.{export_of}
use Rattle.walrus_items.specs.Exports.{exports}
use Rattle.walrus_theorem.specs.Edits.{GainsExport, LosesExport, SwapsExport}
use Rattle.walrus_module.specs.Edits.{Edits, ExportAdded, ExportDeleted, ExportSet}
use Rattle.walrus_reading.proofs.EditedSlots.{items_added, split}

pub export_added : ExportAdded
export_added old new e only are = subst (Edits (GainsExport (export_of e)) old) (sym only) (λ ss. record {
  exports = ap (λ xs. map export_of (items xs)) are ∙ ap (map export_of) (items_added (exports old.exports) e) ∙ map-append export_of (items (exports old.exports)) (e ∷ []);
  others = refl;
})

pub export_set : ExportSet
export_set old new i was now only there are =
    let s = split (exports old.exports) i was there in
    subst (Edits (SwapsExport (export_of was) (export_of now)) old) (sym only) (λ ss. record {
      exports = record {
        front = map export_of s.front;
        back = map export_of s.back;
        was = ap (map export_of) s.is ∙ map-append export_of s.front (was ∷ s.back);
        is = ap (λ xs. map export_of (items xs)) are ∙ ap (map export_of) (s.set now) ∙ map-append export_of s.front (now ∷ s.back);
      };
      others = refl;
    })

pub export_deleted : ExportDeleted
export_deleted old new i was only there are =
    let s = split (exports old.exports) i was there in
    subst (Edits (LosesExport (export_of was)) old) (sym only) (λ ss. record {
      exports = record {
        front = map export_of s.front;
        back = map export_of s.back;
        was = ap (map export_of) s.is ∙ map-append export_of s.front (was ∷ s.back);
        is = ap (λ xs. map export_of (items xs)) are ∙ ap (map export_of) s.gone ∙ map-append export_of s.front s.back;
      };
      others = refl;
    })
