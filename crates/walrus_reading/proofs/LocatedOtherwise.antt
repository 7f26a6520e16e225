-- Locations that are given in another way.
use Rattle.std.proofs.Common.{ℕ, List}
use Rattle.std.specs.Prelude.{IfOk, Result}
use Rattle.walrus_code.specs.declared.location.InstrLocId.{InstrLocId}
use Rattle.walrus_reading.specs.Parsed.{AreLocated}
use Rattle.walrus_reading.specs.declared.module.ReadModule.{ReadModule}
use Rattle.walrus_reading.proofs.Locating.{if_located_through}

pub if_located_by : {E : Type 0} {R : ℕ → InstrLocId → Type 0} (S : ℕ → InstrLocId → Type 0) (bytes : List ℕ) (result : Result ReadModule E) → IfOk result (λ m. AreLocated R bytes m.contents.funcs)
    → ((place : ℕ) (loc : InstrLocId) → R place loc → S place loc) → IfOk result (λ m. AreLocated S bytes m.contents.funcs)
if_located_by {E} {R} S bytes result h through = if_located_through R S through bytes result h
