use Rattle.std.proofs.Common.{ℕ, map, ap, sym, ◌∙◌, subst}
use Rattle.std.specs.Prelude.{All}
use Rattle.std.specs.Global.{Vec}
use Rattle.std.specs.Str.{IsUtf8}
use Rattle.std.proofs.lemmas.List.Elements.{All-map}
use Rattle.wasm_frames.specs.Record.{Custom, custom_record}
use Rattle.walrus_code.specs.Indices.{index_of}
use Rattle.walrus_contents.specs.View.{parts_view}
use Rattle.walrus_items.specs.declared.transform.CodeTransform.{CodeTransform}
use Rattle.walrus_writing.specs.Emitted.{told}
use Rattle.walrus_module.specs.Asked.{OneAskedMayRefuse, section_seen}
use Rattle.walrus_module.specs.Flags.{config_of, flags_of}
use Rattle.walrus_module.specs.View.{meant, with_sections}
use Rattle.walrus_module.proofs.OwnSections.{refused_anyway}
use Rattle.walrus_module.proofs.WellWritten.{written_with}
use Rattle.walrus_module.proofs.WrittenSections.{asks, if_ok_always, spells_as}
use Rattle.walrus_module.proofs.written.ModuleCustomSections.written.Goals as goal

pub returns : goal.returns
returns g c =
    let names = index_of c.args.prepared.indices in
    let ms = meant (λ (i : g.dyn-1.0.I). (g.dyn-1.0.entry i).1) c.args.self.now in
    let config = config_of (flags_of c.args.switches) in
    let v = with_sections (parts_view c.args.parts) ms in
    let named = ap (map custom_record) c.as_slice-2.ensures.value ∙ c.in_ok-customs.ensures.value ∙ ap (map section_seen) c.as_slice.ensures.value in
    let same = ap (map section_seen) c.as_slice.ensures.value ∙ c.in_ok-asked.ensures.value in
    let texts = All-map (λ (x : Custom). IsUtf8 x.name) section_seen _ c.in_ok-asked.ensures.texts in
    let asked = asks c.args.parts names ms _ (named ∙ c.in_ok-asked.ensures.value) (subst (All (λ (x : Custom). IsUtf8 x.name)) (sym named) texts) in
    let wrote = c.write_prepared.ensures.written config v (written_with _ _ c.choices.ensures) asked in
    record {
      emitted = wrote.emitted;
      refused = refused_anyway (OneAskedMayRefuse ms) config v (told c.write_prepared.result) wrote.refused;
      spells = spells_as (λ (r : Vec ℕ × CodeTransform). r.0.items) c.args.parts names _ _ _ _ c.choices.ensures (named ∙ c.in_ok-asked.ensures.value) c.write_prepared.result c.write_prepared.ensures.spells;
      texts = if_ok_always _ c.write_prepared.result (subst (All (λ (x : Custom). IsUtf8 x.name)) (sym (ap (map section_seen) c.as_slice.ensures.value) ∙ same) texts);
      transform = wrote.transform;
    }
