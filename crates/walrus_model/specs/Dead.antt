-- What is named in a module and isn't there.
use Rattle.std.specs.Prelude.{ℕ, Some, None, Contains, ◌≡◌}
use Rattle.walrus_base.specs.Operators.{Item}
use Rattle.walrus_model.specs.Abstract.{Abstract, Body, Uninitialised, Function, Import, Export}
use Rattle.walrus_model.specs.Live.{IsLive}
use Rattle.walrus_model.specs.Names.{body_of}
use Rattle.walrus_model.specs.Refers.{IsUsed, written_in}

-- An item, an export, the start function or an import names an item that isn't there, a body uses a local that isn't, or a function has
-- neither an import nor a body.
pub data HasDead (v : Abstract) : Type 0 where
  DeadName : (x y : Item) → Contains (written_in v x) y → (IsLive v y → ⊥) → HasDead v
  DeadLocal : (f x : ℕ) (b : Body) → body_of v f ≡ Some b → IsUsed b x → b.local_type x ≡ None → HasDead v
  DeadExport : (e : Export) → Contains v.exports e → (IsLive v e.item → ⊥) → HasDead v
  DeadStart : (f : ℕ) → v.start ≡ Some f → v.functions f ≡ None → HasDead v
  DeadImport : (i : ℕ) (x : Import) → v.imports i ≡ Some x → (IsLive v x.item → ⊥) → HasDead v
  NoKind : (i : ℕ) (f : Function) → v.functions i ≡ Some f → f.kind ≡ Uninitialised → HasDead v
