-- Refusals that can only be a lack of memory.
use Rattle.std.proofs.Common.{◌≡◌, ℕ, List}
use Rattle.std.specs.Prelude.{Option, None, Err}
use Rattle.wasm_forms.specs.Reading.{Refuses}
use Rattle.wasm_forms.specs.Writing.{Adds}
use Rattle.wasm_forms.specs.declared.error.WireError.{WireError}
use Rattle.wasm_forms.specs.declared.error.WireError.TheVariants.{Malformed, Memory, TooLarge}

pub malformed_none : {Y : Type 0} (error : WireError) (read : Option Y) → Refuses error read → error ≡ Malformed → read ≡ None
malformed_none Malformed read h e = h
malformed_none (Memory x) read h e = absurd cc
malformed_none TooLarge read h e = absurd h

pub not_large : {Y : Type 0} (error : WireError) (read : Option Y) → Refuses error read → error ≡ TooLarge → ⊥
not_large Malformed read h e = cc
not_large (Memory x) read h e = cc
not_large TooLarge read h e = h

pub added_malformed : (error : WireError) (old new spelled : List ℕ) (fits : Type 0) → Adds {X = Unit {0}} (Err error) old new spelled fits → error ≡ Malformed → ⊥
added_malformed Malformed old new spelled fits h e = h
added_malformed (Memory x) old new spelled fits h e = cc
added_malformed TooLarge old new spelled fits h e = cc

pub added_large : (error : WireError) (old new spelled : List ℕ) (fits : Type 0) → fits → Adds {X = Unit {0}} (Err error) old new spelled fits → error ≡ TooLarge → ⊥
added_large Malformed old new spelled fits f h e = h
added_large (Memory x) old new spelled fits f h e = cc
added_large TooLarge old new spelled fits f h e = h f
