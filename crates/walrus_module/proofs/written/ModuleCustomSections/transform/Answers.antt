use Rattle.std.proofs.Common.{true, List, map, ap, ◌∙◌, subst, IfOk}
use Rattle.wasm_frames.specs.Record.{Custom, custom_record}
use Rattle.walrus_code.specs.Indices.{index_of}
use Rattle.walrus_writing.specs.Transform.{TellsTransform}
use Rattle.walrus_writing.specs.declared.write.Choices.{Choices}
use Rattle.walrus_module.specs.Asked.{OneAskedMayRefuse, asked_first, section_seen}
use Rattle.walrus_module.specs.Flags.{config_of, flags_of}
use Rattle.walrus_module.specs.View.{meant}
use Rattle.walrus_module.proofs.WellWritten.{written_with}
use Rattle.walrus_module.proofs.WrittenSections.{transform_refused}
use Rattle.walrus_module.proofs.written.ModuleCustomSections.transform.Goals as goal

pub returns-clause-told : goal.returns-clause-told
returns-clause-told g c =
    let names = index_of c.args.prepared.now.indices in
    let ms = meant (λ (i : g.dyn-1.0.I). (g.dyn-1.0.entry i).1) c.args.self.now in
    let same = ap (map custom_record) c.as_slice-2.ensures.value ∙ c.in_ok-dylinks.ensures.value ∙ ap (map section_seen) c.as_slice.ensures.value ∙ c.in_ok-asked.ensures.value in
    subst (λ (ch : Choices). IfOk c.code_transform.result (TellsTransform c.args.parts ch names (asked_first ms) true)) c.choices.ensures
    (subst (λ (cs : List Custom). IfOk c.code_transform.result (TellsTransform c.args.parts c.choices.result names cs true)) same c.code_transform.ensures.told)

pub returns-clause-refused : goal.returns-clause-refused
returns-clause-refused g c =
    let ms = meant (λ (i : g.dyn-1.0.I). (g.dyn-1.0.entry i).1) c.args.self.now in
    let same = ap (map custom_record) c.as_slice-2.ensures.value ∙ c.in_ok-dylinks.ensures.value ∙ ap (map section_seen) c.as_slice.ensures.value ∙ c.in_ok-asked.ensures.value in
    transform_refused (OneAskedMayRefuse ms) (config_of (flags_of c.args.switches)) c.choices.result c.args.parts (index_of c.args.prepared.now.indices) ms _ c.code_transform.result c.code_transform.ensures.refused
    (written_with _ _ c.choices.ensures) same c.names_are_texts.ensures
