-- Locals that are declared, counted from a most one down.
use Rattle.std.proofs.Common.{◌≡◌, ℕ, ◌+◌, ◌<◌, List, drop, length, get_or, ap}
use Rattle.std.proofs.lemmas.List.{at_drop_more}
use Rattle.wasm_forms.specs.declared.types.RawVal.TheVariants.{I32}
use Rattle.walrus_bodies.specs.Declarations.{declarations_of}
use Rattle.walrus_bodies.specs.declared.declarations.Declaration.{Declaration}
use Rattle.walrus_functions.specs.Plain.{total}

abbrev pub nothing : Declaration
nothing = record { count = 0; value = I32 }

pub declared_from : (all : List Declaration) (i : ℕ) → i < length all → total (declarations_of (drop i all)) ≡ (get_or all i nothing).count + total (declarations_of (drop (i + 1) all))
declared_from all i within = ap (λ (l : List Declaration). total (declarations_of l)) (at_drop_more (λ l. l) all i nothing within)
