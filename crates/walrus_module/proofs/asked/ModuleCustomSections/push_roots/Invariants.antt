use Rattle.std.proofs.Common.{◌≡◌, flat_map}
use Rattle.walrus_base.specs.Arena.{entries}
use Rattle.walrus_items.specs.Roots.{with_roots}
use Rattle.walrus_module.specs.Customs.{sections, sections_left}
use Rattle.walrus_module.specs.Meaning.{Meaning}
use Rattle.walrus_module.proofs.Asking.{AreAmong, mean}
use Rattle.walrus_module.proofs.asked.ModuleCustomSections.push_roots.Given as goal

-- what is asked for so far, and what those ask for that are still to come
abbrev pub invariant-loop-entry : goal.invariant-loop-entry
invariant-loop-entry g l =
    (goal.iterator-loop-entry g).can_next l.rest
    × (goal.iterator-loop-entry g).is_finite l.rest
    × AreAmong (mean (λ i. (g.dyn-1.0.entry i).1) (sections_left l.rest)) (mean (λ i. (g.dyn-1.0.entry i).1) (entries (sections l.self)))
    × (with_roots l.roots (flat_map (λ (s : Meaning). s.roots) (mean (λ i. (g.dyn-1.0.entry i).1) (sections_left l.rest)))
    ≡ with_roots l.initial.roots (flat_map (λ (s : Meaning). s.roots) (mean (λ i. (g.dyn-1.0.entry i).1) (entries (sections l.self)))))
