use Rattle.std.proofs.Common.{◌≡◌, ◌++◌, take}
use Rattle.walrus_items.specs.Roots.{places}
use Rattle.walrus.proofs.sections.listed.ListedSectionCustomSection.add_gc_roots.Given as goal

-- the functions so far are asked for
abbrev pub invariant-ids : goal.invariant-ids
invariant-ids l = l.roots ≡ record (l.initial.roots) { funcs = l.initial.roots.funcs ++ places (take l.id-index l.self.ids.items) }
