-- What is said of bytes that are refused.
use Rattle.std.proofs.Common.{ℕ, List}
use Rattle.std.specs.Prelude.{IfSome, Option, Some, None, Result, Err}
use Rattle.std.specs.Global.{Vec}
use Rattle.walrus_tools.specs.Facade.{Error, ReadsWhole}
use Rattle.mulkavesh.specs.declared.subcommands.Made.{Made}

-- it is said of all that was read
pub found_read : (A : List ℕ → Result Made Error → Type 0) (from_old from_new : Option (List ℕ)) (Says : List ℕ → Error → List ℕ → Type 0) (bytes : List ℕ) (e : Error) → ReadsWhole from_old from_new bytes
    → A bytes (Err e) → (said : Option (Vec ℕ)) → IfSome said (λ text. Says bytes e text.items)
    → IfSome said (λ text. (b : List ℕ) × (ReadsWhole from_old from_new b × A b (Err e)) × Says b e text.items)
found_read A from_old from_new Says bytes e reads answers (Some text) says = (bytes, (reads, answers), says)
found_read A from_old from_new Says bytes e reads answers None says = tt
