use Rattle.std.proofs.Common.{true, false, List, ◌++◌, map, ap, ◌∙◌, sym, subst}
use Rattle.std.specs.Prelude.{All}
use Rattle.std.proofs.lemmas.List.Elements.{All-nil}
use mathlib.Core.Path.{fun_ext}
use Rattle.wasm_frames.specs.Record.{Custom}
use Rattle.walrus_code.specs.Indices.{index_of}
use Rattle.walrus_module.specs.Asked.{IsText, in_turn, section_seen, section_under}
use Rattle.walrus_module.specs.View.{meant}
use Rattle.walrus_module.proofs.asked.ModuleCustomSections.asked.Goals as goal

pub returns-clause-value : goal.returns-clause-value
returns-clause-value g c =
    let ms = meant (λ i. (g.dyn-1.0.entry i).1) c.args.self.now in
    let rest = map (section_under (index_of c.args.indices.now)) (in_turn false ms) in
    c.in_ok-ask_in_turn-2.ensures.asked
    ∙ ap (λ (cs : List Custom). cs ++ rest) (c.in_ok-ask_in_turn.ensures.asked ∙ ap (λ (cs : List Custom). cs ++ map (section_under (index_of c.new-none.result)) (in_turn true ms)) (ap (map section_seen) c.new-asked.ensures.items))
    ∙ ap (λ names. map (section_under names) (in_turn true ms) ++ rest) (fun_ext (λ space. fun_ext (λ i. c.new-none.ensures.indices space i)))

pub returns-clause-texts : goal.returns-clause-texts
returns-clause-texts g c = c.in_ok-ask_in_turn-2.ensures.texts (c.in_ok-ask_in_turn.ensures.texts (subst (All IsText) (sym c.new-asked.ensures.items) (All-nil IsText)))
