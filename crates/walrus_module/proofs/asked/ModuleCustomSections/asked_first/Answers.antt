use Rattle.std.proofs.Common.{true, List, ◌++◌, map, ap, ◌∙◌}
use mathlib.Core.Path.{fun_ext}
use Rattle.wasm_frames.specs.Record.{Custom}
use Rattle.walrus_code.specs.Indices.{index_of}
use Rattle.walrus_module.specs.Asked.{in_turn, section_seen, section_under}
use Rattle.walrus_module.specs.View.{meant}
use Rattle.walrus_module.proofs.asked.ModuleCustomSections.asked_first.Goals as goal

pub returns-clause-value : goal.returns-clause-value
returns-clause-value g c =
    let ms = meant (λ i. (g.dyn-1.0.entry i).1) c.args.self.now in
    c.in_ok-ask_in_turn.ensures.asked
    ∙ ap (λ (cs : List Custom). cs ++ map (section_under (index_of c.new-none.result)) (in_turn true ms)) (ap (map section_seen) c.new-dylinks.ensures.items)
    ∙ ap (λ names. map (section_under names) (in_turn true ms)) (fun_ext (λ space. fun_ext (λ i. c.new-none.ensures.indices space i)))
