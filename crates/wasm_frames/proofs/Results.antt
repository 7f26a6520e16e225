-- What a refusal says of what stands there, passed on.
use Rattle.std.proofs.Common.{◌≡◌}
use Rattle.std.specs.Prelude.{Option, None}
use Rattle.wasm_forms.specs.declared.error.WireError.{WireError}
use Rattle.wasm_forms.specs.declared.error.WireError.TheVariants.{Malformed, Memory, TooLarge}
use Rattle.wasm_forms.specs.Reading.{Refuses}

pub refuses_through : {A B : Type 0} (e : WireError) (o : Option A) (p : Option B) → (o ≡ None → p ≡ None) → Refuses e o → Refuses e p
refuses_through Malformed o p f h = f h
refuses_through (Memory m) o p f h = tt
refuses_through TooLarge o p f h = h
