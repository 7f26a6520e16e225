-- Items that sit at their own ids. Parsing and `add` put each item there; a caller may exchange whole items through `get_mut`.
use Rattle.std.specs.Prelude.{ℕ, ◌≡◌, List, Option, Some}
use Rattle.walrus_base.specs.Arena.{item_at}
use Rattle.walrus_base.specs.Locals.{locals, local_place}
use Rattle.walrus_base.specs.declared.locals.ModuleLocals.{ModuleLocals}
use Rattle.walrus_items.specs.Exports.{ModuleExports, exports}
use Rattle.walrus_items.specs.Functions.{ModuleFunctions, functions}

-- the own id of each live item is its place
abbrev pub AtOwnIds : {T : Type 0} → (own : T → ℕ) → List (Option T) → Type 0
AtOwnIds {T} own slots = (i : ℕ) (x : T) → item_at slots i ≡ Some x → own x ≡ i

abbrev pub FunctionsAtOwnIds : ModuleFunctions → Type 0
FunctionsAtOwnIds all = AtOwnIds (λ f. f.id) (functions all)

abbrev pub ExportsAtOwnIds : ModuleExports → Type 0
ExportsAtOwnIds all = AtOwnIds (λ e. e.id) (exports all)

abbrev pub LocalsAtOwnIds : ModuleLocals → Type 0
LocalsAtOwnIds all = AtOwnIds local_place (locals all)
