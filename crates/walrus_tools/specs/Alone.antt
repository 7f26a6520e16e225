-- What would go with a function of a module if its body trapped ("Structure > Instructions > Control Instructions").
use Rattle.std.specs.Prelude.{ℕ, Bool, true, false, ◌-◌, ◌≡◌, ◌↔◌, ◌⊎◌, List, [], Option, IsTrue, filter, ◌==◌, option_map}
use Rattle.std.specs.List.{sum_by}
use Rattle.walrus.specs.Base.Operators.{function_item}
use Rattle.walrus.specs.Model.Abstract.{Abstract, Function, FunctionKind, ImportedFunction, LocalFunction, Uninitialised}
use Rattle.walrus.specs.Model.Kept.{Kept}
use Rattle.walrus.specs.Theorem.Report.{Counts}
use Rattle.walrus_tools.specs.Trap.{trap_ops}
use Rattle.walrus_tools.specs.declared.goers.Alone.{Alone}

-- ---- a function that traps

-- in place of a body stands one that traps
abbrev pub trapped_kind : FunctionKind → FunctionKind
trapped_kind (LocalFunction b) = LocalFunction (record b { operators = trap_ops })
trapped_kind (ImportedFunction i) = ImportedFunction i
trapped_kind Uninitialised = Uninitialised

-- the function with such a body, where it is hit
abbrev pub trapped_if : (hit : Bool) → Option Function → Option Function
trapped_if true f = option_map (λ (g : Function). record g { kind = trapped_kind g.kind }) f
trapped_if false f = f

-- it has no types of handlers then
abbrev pub handlers_if : (hit : Bool) → List ℕ → List ℕ
handlers_if true types = []
handlers_if false types = types

-- the module in which the function at place f traps, and which is else the same
abbrev pub trapped_at : (f : ℕ) → Abstract → Abstract
trapped_at f v = record v { functions = λ i. trapped_if (i == f) (v.functions i); handler_types = λ i. handlers_if (i == f) (v.handler_types i) }

-- ---- what goes with it

-- function i stays, and wouldn't if f trapped, or is f
abbrev pub GoesWith : Abstract → (f i : ℕ) → Type 0
GoesWith v f i = Kept v (function_item i) × ((Kept (trapped_at f v) (function_item i) → ⊥) ⊎ (i ≡ f))

-- how many bytes a body has, by its start and its end
abbrev pub size_of : ℕ × (ℕ × ℕ) → ℕ
size_of body = body.1.1 - body.1.0

-- how many bytes these bodies have
abbrev pub bytes_of : List (ℕ × (ℕ × ℕ)) → ℕ
bytes_of bodies = sum_by size_of bodies

-- so many functions go with f, and so many bytes those of these bodies have whose functions do
pub record IsAlone (v : Abstract) (f : ℕ) (bodies : List (ℕ × (ℕ × ℕ))) (alone : Alone) : Type 0 where
  pub functions : Counts (GoesWith v f) alone.functions
  pub goes : ℕ → Bool
  pub are : (i : ℕ) → IsTrue (goes i) ↔ GoesWith v f i
  pub bytes : alone.bytes ≡ bytes_of (filter (λ body. goes body.0) bodies)
