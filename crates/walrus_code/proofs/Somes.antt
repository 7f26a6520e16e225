-- What is there and what isn't, and two tests at once.
use Rattle.std.proofs.Common.{◌≡◌, Some, None}
use Rattle.std.specs.Prelude.{Option, IsSome}
pub use Rattle.walrus_base.proofs.Standing.{none_there, some_inj, some_of}
pub use Rattle.walrus_base.proofs.Lookups.{still_some}
use Rattle.wasm_forms.specs.Reading.{◌>>=◌}

pub none_some : {A : Type 0} (x : A) → None ≡ Some x → ⊥
none_some x e = cc

pub some_then : {A B : Type 0} (o : Option A) (f : A → Option B) → IsSome o → ((x : A) → IsSome (f x)) → IsSome (o >>= f)
some_then (Some x) f h k = k x
some_then None f h k = absurd (none_there h)
