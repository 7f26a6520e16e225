-- When two records say the same under a renaming.
use Rattle.std.specs.Prelude.{ℕ, map, Option, Some, None, option_map, ◌≡◌}
use Rattle.walrus_base.specs.Types.{map_val, map_sub}
use Rattle.walrus_base.specs.Operators.{Types}
use Rattle.walrus_model.specs.Abstract.{TypeDef, Body, FunctionKind, ImportedFunction, LocalFunction, Uninitialised, Function}
use Rattle.walrus_model.specs.Refers.{IsUsed}
use Rattle.walrus_base.specs.Shape.{place_in, in_its_group, others_through}
use Rattle.walrus_model.specs.Renaming.{Renaming, renamed_ops}

-- Type i of one module is type r i of the other: the group put through r, the position in it, and the type as it stands
-- in its group. So r keeps shapes, and two types of one shape may get one number.
pub record SameType (r : ℕ → ℕ) (i : ℕ) (x y : TypeDef) : Type 0 where
  pub group : y.group ≡ map r x.group
  pub position : place_in y.group (r i) ≡ place_in x.group i
  pub sub : in_its_group y ≡ map_sub (others_through r) (in_its_group x)

-- The body of function i: operator for operator, with one injective map of used locals that keeps their types and the
-- places of parameters. Locals that aren't used don't count.
pub record SameBody (r : Renaming) (i : ℕ) (a b : Body) : Type 0 where
  pub operators : b.operators ≡ renamed_ops r (r.locals i) a.operators
  pub apart : (x y : ℕ) → IsUsed a x → IsUsed a y → r.locals i x ≡ r.locals i y → x ≡ y
  pub types : (x : ℕ) → IsUsed a x → b.local_type (r.locals i x) ≡ option_map (map_val (r.numbers Types)) (a.local_type x)
  pub parameters : (x : ℕ) → IsUsed a x → place_in b.parameters (r.locals i x) ≡ place_in a.parameters x

-- what function i is, under r: the same import, or the same body (SameBody); an uninitialised function matches nothing, not even another one
abbrev pub SameKind : Renaming → ℕ → FunctionKind → FunctionKind → Type 0
SameKind r i (ImportedFunction p) (ImportedFunction q) = q ≡ r.imports p
SameKind r i (ImportedFunction p) (LocalFunction b) = ⊥
SameKind r i (ImportedFunction p) Uninitialised = ⊥
SameKind r i (LocalFunction a) (LocalFunction b) = SameBody r i a b
SameKind r i (LocalFunction a) (ImportedFunction q) = ⊥
SameKind r i (LocalFunction a) Uninitialised = ⊥
SameKind r i Uninitialised kind = ⊥

-- function i of one module is g in the other: its type is put through r, and its import or body is the same under r
pub record SameFunction (r : Renaming) (i : ℕ) (f g : Function) : Type 0 where
  pub ty : g.ty ≡ r.numbers Types f.ty
  pub kind : SameKind r i f.kind g.kind

-- both are there, and S holds of them
abbrev pub BothAnd : {X Y : Type 0} → (X → Y → Type 0) → Option X → Option Y → Type 0
BothAnd S (Some x) (Some y) = S x y
BothAnd S (Some x) None = ⊥
BothAnd S None y = ⊥
