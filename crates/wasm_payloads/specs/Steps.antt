-- Reading from left to right, step by step: what is told, and the bytes behind it, or None behind a fault.
use Rattle.std.specs.Prelude.{◌≡◌, ℕ, zero, suc, Bool, List, [], ◌∷◌, ◌++◌, Option, Some, None, Result, Ok, Err}
use Rattle.std.specs.Borrow.{Bor}
use Rattle.wasm_forms.specs.declared.error.WireError.{WireError}
use Rattle.wasm_forms.specs.declared.error.WireError.TheVariants.{Malformed, Memory, TooLarge}
use Rattle.wasm_forms.specs.Grammar.{Byte, Block, U32, Where, name, ◌then◌, at}
use Rattle.wasm_payloads.specs.declared.naming.Part.{Part}
use Rattle.wasm_payloads.specs.declared.naming.Part.TheVariants as part
use Rattle.wasm_payloads.specs.declared.naming.Owner.{Owner}
use Rattle.wasm_payloads.specs.declared.naming.Owner.TheVariants as owner
use Rattle.wasm_payloads.specs.Fault.{closed}
use Rattle.wasm_payloads.specs.Names.{Named, ModuleName, ItemName, LocalName, part_of}
use Rattle.wasm_payloads.specs.Producers.{Field, field}
use Rattle.wasm_payloads.specs.Sink.{after_all, IsRefused}

abbrev pub Told : Type 0 → Type 0
Told A = List A × Option (List ℕ)

abbrev pub led : {A B : Type 0} → (A → List ℕ → Told B) → Option (A × List ℕ) → Told B
led t None = ([], None)
led t (Some x) = t x.0 x.1

-- a value in front, and what it leads to
unfoldable pub behind_at : {A B : Type 0} → (List ℕ → Option (A × List ℕ)) → (A → List ℕ → Told B) → List ℕ → Told B
behind_at p t bytes = led t (p bytes)

-- what was told, and what is told from the rest on
abbrev pub onward : {A : Type 0} → List A → Option (List ℕ) → (List ℕ → Told A) → Told A
onward xs None t = (xs, None)
onward xs (Some rest) t = (xs ++ (t rest).0, (t rest).1)

unfoldable pub times_at : {A : Type 0} → (List ℕ → Told A) → ℕ → List ℕ → Told A
times_at t zero bytes = ([], Some bytes)
times_at t (suc n) bytes = onward (t bytes).0 (t bytes).1 (times_at t n)

unfoldable pub counted_at : {A : Type 0} → (List ℕ → Told A) → List ℕ → Told A
counted_at t bytes = behind_at (at U32) (times_at t) bytes

unfoldable pub inside_at : {A : Type 0} → (List ℕ → Told A) → List ℕ → List ℕ → Told A
inside_at t content bytes = ((t content).0, closed (t content).1 bytes)

abbrev pub one : {A : Type 0} → A → List ℕ → Told A
one x bytes = (x ∷ [], Some bytes)

abbrev pub alone : {A : Type 0} → A → List ℕ → Told A
alone x [] = (x ∷ [], Some [])
alone x (b ∷ bytes) = ([], None)

-- ---- names

abbrev pub owned : Owner → ℕ → List ℕ → Named
owned (owner.Items space) = ItemName space
owned (owner.Function f) = LocalName f

unfoldable pub entry_at : (ℕ → List ℕ → Named) → List ℕ → Told Named
entry_at make bytes = behind_at (at (U32 then name)) (λ x. one (make x.0 x.1)) bytes

unfoldable pub map_at : (ℕ → List ℕ → Named) → List ℕ → Told Named
map_at make bytes = counted_at (entry_at make) bytes

unfoldable pub function_at : (ℕ → Bool) → List ℕ → Told Named
function_at known bytes = behind_at (at (Where known U32)) (λ f. map_at (LocalName f)) bytes

unfoldable pub locals_at : (ℕ → Bool) → List ℕ → Told Named
locals_at known bytes = counted_at (function_at known) bytes

unfoldable pub module_at : List ℕ → Told Named
module_at bytes = behind_at (at name) (λ n. alone (ModuleName n)) bytes

unfoldable pub content_at : (ℕ → Bool) → Part → List ℕ → Told Named
content_at known part.Module content = module_at content
content_at known part.Locals content = locals_at known content
content_at known (part.Items space) content = map_at (ItemName space) content
content_at known part.Other content = ([], Some [])

unfoldable pub subsection_at : (ℕ → Bool) → List ℕ → Told Named
subsection_at known bytes = behind_at (at (Byte then Block)) (λ s. inside_at (content_at known (part_of s.0)) s.1) bytes

-- ---- what the steps return

-- the bytes that are left
abbrev pub front_of : Option (Bor (List ℕ)) → Option (List ℕ)
front_of None = None
front_of (Some rest) = Some rest.now

-- what was found is what stands in front
abbrev pub Finds : {X Y : Type 0} → (X → Y) → Option X → Option Y → Type 0
Finds view (Some x) read = read ≡ Some (view x)
Finds view None read = read ≡ None

-- the sink took what is told, and what is returned is the rest, or None at a fault; or it refused
abbrev pub Hands : {Self Seen X : Type 0} → (Self → Seen) → (Seen → Named → Seen) → (Self → Named → WireError → Type 0) → (X → Option (List ℕ)) → Self → Self → Result X WireError → Told Named → Type 0
Hands seen after refuses view old new (Ok x) told = (seen new ≡ after_all after (seen old) told.0) × (told.1 ≡ view x)
Hands seen after refuses view old new (Err e) told = IsRefused seen after refuses old new told.0 e

-- ---- producers

unfoldable pub fields_at : List ℕ → Told Field
fields_at bytes = counted_at (behind_at (at field) one) bytes

-- malformed is no refusal
abbrev pub unless_malformed : {X : Type 0} → Result X WireError → Result (Option X) WireError
unless_malformed (Ok x) = Ok (Some x)
unless_malformed (Err Malformed) = Ok None
unless_malformed (Err (Memory e)) = Err (Memory e)
unless_malformed (Err TooLarge) = Err TooLarge
