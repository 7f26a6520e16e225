-- What is told, by what stands in front.
use Rattle.std.proofs.Common.{◌≡◌, ℕ, ◌≤◌, Bool, List, [], ◌∷◌, length, refl, sym, ap, subst, ◌∙◌, arith}
use Rattle.std.specs.Prelude.{Option, Some, None, Result, Ok, Err}
use Rattle.wasm_forms.specs.declared.error.WireError.{WireError}
use Rattle.wasm_forms.specs.declared.error.WireError.TheVariants.{Malformed, Memory, TooLarge}
use Rattle.wasm_forms.specs.Reading.{Gives}
use Rattle.wasm_forms.specs.Grammar.{U32, name, ◌then◌, at}
use Rattle.wasm_payloads.specs.Fault.{Tells, Behind, Counted}
use Rattle.wasm_payloads.specs.Names.{Named, ModuleName, Names, Subsection}
use Rattle.wasm_payloads.specs.Producers.{Field, Fields, field}
use Rattle.wasm_payloads.specs.Steps.{Told, led, behind_at, times_at, counted_at, one, alone, entry_at, map_at, locals_at, function_at, module_at, subsection_at, fields_at, unless_malformed}
use Rattle.wasm_payloads.proofs.Agree.{complete, through_holds}
use Rattle.wasm_payloads.proofs.Agreed.{subsection_agrees, subsection_ends, fields_agree}

counted_found : {A : Type 0} (t : List ℕ → Told A) (bytes rest : List ℕ) (n : ℕ) → at U32 bytes ≡ Some (n, rest) → times_at t n rest ≡ counted_at t bytes
unfolding counted_at behind_at
counted_found t bytes rest n e = sym (ap (led (times_at t)) e)

pub map_found : (make : ℕ → List ℕ → Named) (bytes rest : List ℕ) (n : ℕ) → at U32 bytes ≡ Some (n, rest) → times_at (entry_at make) n rest ≡ map_at make bytes
unfolding map_at
map_found make bytes rest n e = counted_found (entry_at make) bytes rest n e

pub locals_found : (known : ℕ → Bool) (bytes rest : List ℕ) (n : ℕ) → at U32 bytes ≡ Some (n, rest) → times_at (function_at known) n rest ≡ locals_at known bytes
unfolding locals_at
locals_found known bytes rest n e = counted_found (function_at known) bytes rest n e

pub entry_found : (make : ℕ → List ℕ → Named) (bytes rest text : List ℕ) (i : ℕ) → at (U32 then name) bytes ≡ Some ((i, text), rest) → entry_at make bytes ≡ one (make i text) rest
unfolding entry_at behind_at
entry_found make bytes rest text i e = ap (led (λ x. one (make x.0 x.1))) e

alone_found : (x : Named) (rest : List ℕ) → length rest ≡ 0 → alone x rest ≡ one x []
alone_found x [] e = refl
alone_found x (b ∷ rest) e = absurd (omega arith)

pub module_found : (bytes rest text : List ℕ) → at name bytes ≡ Some (text, rest) → length rest ≡ 0 → module_at bytes ≡ one (ModuleName text) []
unfolding module_at behind_at
module_found bytes rest text e n = ap (led (λ t. alone (ModuleName t))) e ∙ alone_found (ModuleName text) rest n

pub no_bytes : (bytes : List ℕ) → length bytes ≡ 0 → bytes ≡ []
no_bytes [] e = refl
no_bytes (b ∷ bytes) e = absurd (omega arith)

-- so many subsections are enough
pub names_are : (known : ℕ → Bool) (bytes : List ℕ) → Names known bytes (times_at (subsection_at known) (length bytes) bytes).0
names_are known bytes =
    let l : length bytes ≤ length bytes = omega arith in
    through_holds (Subsection known) (subsection_at known) (subsection_agrees known) (length bytes) bytes (complete (subsection_at known) (subsection_ends known) (length bytes) bytes l)

-- ---- producers

pub good_some : {X Y : Type 0} (view : X → Y) (r : Result X WireError) (o : Option Y) (q : Option X) (x : X) → Ok q ≡ unless_malformed r → q ≡ Some x → Gives view r o → o ≡ Some (view x)
good_some {X} view (Ok y) o q x e s h = let k : y ≡ x = cc in h ∙ ap (λ z. Some (view z)) k
good_some view (Err Malformed) o q x e s h = absurd (cc)
good_some view (Err (Memory m)) o q x e s h = absurd (cc)
good_some view (Err TooLarge) o q x e s h = absurd h

pub good_none : {X Y : Type 0} (view : X → Y) (r : Result X WireError) (o : Option Y) (q : Option X) → Ok q ≡ unless_malformed r → q ≡ None → Gives view r o → o ≡ None
good_none view (Ok y) o q e s h = absurd (cc)
good_none view (Err Malformed) o q e s h = h
good_none view (Err (Memory m)) o q e s h = absurd (cc)
good_none view (Err TooLarge) o q e s h = absurd h

-- one field, or a fault
abbrev pub field_at : List ℕ → Told Field
field_at = behind_at (at field) one

pub field_found : (bytes rest : List ℕ) (x : Field) → at field bytes ≡ Some (x, rest) → field_at bytes ≡ one x rest
unfolding behind_at
field_found bytes rest x e = ap (led one) e

pub field_lacks : (bytes : List ℕ) → at field bytes ≡ None → field_at bytes ≡ ([], None)
unfolding behind_at
field_lacks bytes e = ap (led one) e

pub counted_fields : (bytes rest : List ℕ) (n : ℕ) → at U32 bytes ≡ Some (n, rest) → times_at field_at n rest ≡ fields_at bytes
unfolding fields_at
counted_fields bytes rest n e = counted_found field_at bytes rest n e

pub fields_found : (bytes : List ℕ) (fields : List Field) → (fields_at bytes).0 ≡ fields → Fields bytes fields
fields_found bytes fields e = ((fields_at bytes).1, subst (λ fs. Counted (Behind field (λ x. Tells (x ∷ []))) bytes fs (fields_at bytes).1) e (fields_agree.holds bytes))
