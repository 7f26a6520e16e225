-- The exports that stay where they are chosen by their names ("Structure > Modules > Exports").
use Rattle.std.specs.Prelude.{◌≡◌, ◌≢◌, ◌≤◌, ◌<◌, ◌⊎◌, ℕ, List, map, length, Option, Some, None}
use Rattle.walrus.specs.Base.Arena.{item_at, items}
use Rattle.walrus.specs.Items.Exports.{ExportValue}

-- the names under which something is exported
abbrev pub export_names : List (Option ExportValue) → List (List ℕ)
export_names all = map (λ e. e.name) (items all)

module _ (P : List ℕ → Type 0) where
  -- an export of whose name this holds is as it was; of another nothing is left, and where none was, none is
  abbrev pub StaysIf : (was is : Option ExportValue) → Type 0
  StaysIf None is = is ≡ None
  StaysIf (Some e) is = (P e.name × (is ≡ Some e)) ⊎ ((P e.name → ⊥) × (is ≡ None))

  -- of these exports exactly those stay, in their places, of whose names this holds
  pub record KeepsNamed (old new : List (Option ExportValue)) : Type 0 where
    pub places : length new ≡ length old
    pub each : (i : ℕ) → StaysIf (item_at old i) (item_at new i)

  -- ---- place by place

  -- the same of the export at one place, and all others are as they were
  pub record KeepsAt (n : ℕ) (old new : List (Option ExportValue)) : Type 0 where
    pub places : length new ≡ length old
    pub here : StaysIf (item_at old n) (item_at new n)
    pub others : (i : ℕ) → i ≢ n → item_at new i ≡ item_at old i

  -- the same of the exports at the first n places
  pub record KeepsUntil (n : ℕ) (old new : List (Option ExportValue)) : Type 0 where
    pub places : length new ≡ length old
    pub before : (i : ℕ) → i < n → StaysIf (item_at old i) (item_at new i)
    pub behind : (i : ℕ) → n ≤ i → item_at new i ≡ item_at old i
