use Rattle.std.proofs.Common.{◌≡◌, ◌++◌, map}
use Rattle.std.specs.Prelude.{All}
use Rattle.walrus_base.specs.Arena.{entries}
use Rattle.walrus_code.specs.Indices.{index_of}
use Rattle.walrus_module.specs.Asked.{IsText, in_turn, section_seen, section_under}
use Rattle.walrus_module.specs.Customs.{sections, sections_left}
use Rattle.walrus_module.proofs.Asking.{AreAmong, mean}
use Rattle.walrus_module.proofs.asked.ModuleCustomSections.ask_in_turn.Given as goal

-- the sections so far, whose names are text, and those of this turn that are still to come
abbrev pub invariant-loop-entry : goal.invariant-loop-entry
invariant-loop-entry g l =
    (goal.iterator-loop-entry g).can_next l.rest
    × (goal.iterator-loop-entry g).is_finite l.rest
    × AreAmong (mean (λ i. (g.dyn-1.0.entry i).1) (sections_left l.rest)) (mean (λ i. (g.dyn-1.0.entry i).1) (entries (sections l.self)))
    × (map section_seen l.asked.items ++ map (section_under (index_of l.indices)) (in_turn l.first (mean (λ i. (g.dyn-1.0.entry i).1) (sections_left l.rest)))
    ≡ map section_seen l.initial.asked.items ++ map (section_under (index_of l.indices)) (in_turn l.first (mean (λ i. (g.dyn-1.0.entry i).1) (entries (sections l.self)))))
    × (All IsText l.initial.asked.items → All IsText l.asked.items)
