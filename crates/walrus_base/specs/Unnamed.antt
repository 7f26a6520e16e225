-- Locals without names.
use Rattle.std.specs.Prelude.{◌≡◌, ℕ, List, Option, None, option_and_then}
use Rattle.walrus_base.specs.Arena.{item_at}
use Rattle.walrus_base.specs.TypeDef.{name_bytes}
use Rattle.walrus_base.specs.declared.locals.Local.{Local}

-- no local that is there has a name
abbrev pub AreUnnamed : List (Option Local) → Type 0
AreUnnamed slots = (p : ℕ) → option_and_then (λ local. name_bytes local.name) (item_at slots p) ≡ None
