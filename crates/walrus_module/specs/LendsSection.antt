-- What the custom sections of a module end as, where one of them may be lent.
use Rattle.std.specs.Prelude.{ℕ, Option}
use Rattle.std.specs.Borrow.{LendsIf, Fml, RattleType, MutBor}
use Rattle.walrus_module.specs.Customs.{with_section}
use Rattle.walrus_module.specs.declared.customs.ModuleCustomSections.{ModuleCustomSections}
use Rattle.walrus_module.specs.contracts.customs.ModuleCustomSections.{the_row}

-- once the borrow r ends, the place has the last value written through r; they stay where nothing is lent
abbrev pub LendsSection : (S : RattleType) → MutBor (ModuleCustomSections S.Denot) → ℕ → Option (MutBor S.Denot) → Fml
LendsSection S customs place r = LendsIf (the_row S) S customs r (λ last. with_section customs.now place last) customs.now
