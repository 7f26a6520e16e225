use Rattle.std.proofs.Common.{ℕ, List, map, sym, subst, refl}
use Rattle.std.specs.Prelude.{Option}
use Rattle.std.specs.List.{AllZip}
use Rattle.walrus_base.specs.Operators.{Tables}
use Rattle.walrus_model.specs.Abstract.{Global, Table}
use Rattle.walrus_model.specs.Ordered.{StandsFor}
use Rattle.walrus_model.specs.Spaces.{SameThing}
use Rattle.walrus_model.proofs.AlongRecords.{stand_by_records}
use Rattle.walrus_base.proofs.Lists.{map-itself}
use Rattle.walrus_model.proofs.OrderOfPlaces.{origins_in_order}
use Rattle.walrus_model.proofs.family.orders_hold.Goals as goal

pub returns-clause-globals : goal.returns-clause-globals
returns-clause-globals g = λ v imports item_of local rising named places defined brought. origins_in_order v.globals (λ (x : Global). x.origin) imports item_of local rising named places defined brought

pub returns-clause-tables : goal.returns-clause-tables
returns-clause-tables g = λ r v slots raw law is order raws e.
    let along = stand_by_records (λ (t : Table). t) (SameThing r Tables) slots raw (λ (t : Table). t) law order raws e in
    subst (λ (ws : List Table). AllZip (StandsFor (SameThing r Tables) v.tables) order ws) (map-itself (λ (t : Table). t) raws (λ t. refl))
    (subst (λ (xs : ℕ → Option Table). AllZip (StandsFor (SameThing r Tables) xs) order (map (λ (t : Table). t) raws)) (sym is) along)
