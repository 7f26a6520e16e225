use Rattle.std.proofs.Common.{◌≡◌}
use Rattle.std.specs.Prelude.{find}
use Rattle.walrus_module.specs.Entry.{names_raw}
use Rattle.walrus_module.specs.Customs.{sections, sections_left}
use Rattle.walrus_module.specs.Raws.{first_raw}
use Rattle.walrus_module.proofs.customs.ModuleCustomSections.first_raw_id.Given as goal

-- the first one is the first of those that are still to come
abbrev pub invariant-loop-id : goal.invariant-loop-id
invariant-loop-id g l =
    (goal.iterator-loop-id g).can_next l.rest
    × (goal.iterator-loop-id g).is_finite l.rest
    × (first_raw l.name (sections l.self) ≡ find (λ e. names_raw l.name e.1) (sections_left l.rest))
