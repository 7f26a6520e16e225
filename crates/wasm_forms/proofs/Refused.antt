-- A refusal that is passed on.
use Rattle.std.proofs.Common.{◌≡◌}
use Rattle.std.specs.Prelude.{Option, None}
use Rattle.wasm_forms.specs.declared.error.WireError.{WireError}
use Rattle.wasm_forms.specs.declared.error.WireError.TheVariants.{Malformed, Memory, TooLarge}
use Rattle.wasm_forms.specs.Reading.{Refuses}

-- the whole has nothing where the part has nothing
pub refused : {A B : Type 0} (e : WireError) (part : Option A) (whole : Option B) → Refuses e part → (part ≡ None → whole ≡ None) → Refuses e whole
refused Malformed part whole h none = none h
refused (Memory d) part whole h none = tt
refused TooLarge part whole h none = h
