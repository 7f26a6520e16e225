-- Bodies that are appended behind what stands there.
use Rattle.std.proofs.Common.{◌≡◌, ◌<◌, ◌^◌, ◌++◌, ◌∷◌, ℕ, Option, IfOk, Bool, true, false, List, [], length, Result, Ok, Err, IsErrAnd, refl, sym, ap, ◌∙◌, subst}
use Rattle.std.proofs.lemmas.List.{append_assoc}
use Rattle.wasm_forms.specs.Spelling.{row_bytes}
use Rattle.wasm_forms.specs.Writing.{Adds, EachFits, FitsVector}
use Rattle.wasm_forms.specs.declared.error.WireError.{WireError}
use Rattle.wasm_forms.specs.declared.error.WireError.TheVariants as wire_errors
use Rattle.wasm_forms.specs.declared.types.RawVal.{RawVal}
use Rattle.wasm_operators.specs.Operators as wire
use Rattle.wasm_operators.specs.Spelling.{op_bytes}
use Rattle.walrus_base.specs.Operators.{Op}
use Rattle.walrus_code.specs.Errors.{ir_error}
use Rattle.walrus_code.specs.Names.{Lookup}
use Rattle.walrus_code.specs.declared.error.IrError.{IrError}
use Rattle.walrus_code.specs.declared.error.IrError.TheVariants.{Malformed, Memory, NoIndex, NotWritable, TooLarge}
use Rattle.walrus_bodies.specs.declared.declarations.Declaration.{Declaration}
use Rattle.walrus_bodies.specs.Declarations.{declarations_of}
use Rattle.walrus_bodies.specs.Emitting.{EmitsOperators, OperatorsWritten, places_from}
use Rattle.walrus_bodies.specs.Results.{kept_if}
use Rattle.walrus_bodies.specs.declared.features.Features.{Features}
use Rattle.walrus_functions.specs.EmittedBody.{Source, EmitsBody, declarations_bytes}
use Rattle.walrus_functions.specs.Writing.{WritesBehind}

-- operators that are written behind a front are so without what stands before it
pub moved : (names : Lookup) (locals : ℕ → Option ℕ) (features : Features) (ops : List Op) (old front new places : List ℕ) → (w : OperatorsWritten names locals features ops (old ++ front) new places)
    → OperatorsWritten names locals features ops front (front ++ row_bytes op_bytes w.texts) (places_from (length front) w.texts)
moved names locals features ops old front new places w = record {
  nested = w.nested;
  allowed = w.allowed;
  texts = w.texts;
  named = w.named;
  stand = w.stand;
  spelled = refl;
  placed = refl;
  back = w.back;
}

-- places that are asked for where nothing stood there
pub told : (asks : Bool) (old front : List ℕ) (texts : List wire.Op) (placed places : List ℕ) → (asks ≡ true → old ≡ []) → placed ≡ kept_if asks places → places ≡ places_from (length (old ++ front)) texts
    → placed ≡ kept_if asks (places_from (length front) texts)
told true old front texts placed places alone is are = is ∙ are ∙ ap (λ (before : List ℕ). places_from (length (before ++ front)) texts) (alone refl)
told false old front texts placed places alone is are = is

passed : {Y Z : Type 0} (names : Lookup) (locals : ℕ → Option ℕ) (features : Features) (ops : List Op) (old new : List ℕ) (declared : List (ℕ × RawVal)) (given : Z → List ℕ) (bytes places : Y → List ℕ) (e : IrError)
    → EmitsOperators names locals features ops old new given (Err e) → WritesBehind names locals features ops declared bytes places (Err e)
passed names locals features ops old new declared given bytes places NoIndex h = h
passed names locals features ops old new declared given bytes places NotWritable h = h
passed names locals features ops old new declared given bytes places (Memory m) h = tt
passed names locals features ops old new declared given bytes places Malformed h = absurd h
passed names locals features ops old new declared given bytes places TooLarge h = absurd h

-- a refusal of the operators
pub refused_operators : {Y Z : Type 0} (names : Lookup) (locals : ℕ → Option ℕ) (features : Features) (ops : List Op) (old new : List ℕ) (declared : List (ℕ × RawVal)) (given : Z → List ℕ) (bytes places : Y → List ℕ) (r : Result Y IrError) (e : IrError) → IsErrAnd r (λ x. x ≡ e)
    → EmitsOperators names locals features ops old new given (Err e) → WritesBehind names locals features ops declared bytes places r
refused_operators names locals features ops old new declared given bytes places (Ok x) e failed h = absurd failed
refused_operators names locals features ops old new declared given bytes places (Err x) e failed h =
    subst (λ (d : IrError). WritesBehind names locals features ops declared bytes places (Err d)) (sym failed) (passed names locals features ops old new declared given bytes places e h)

same_behind : {Y Z : Type 0} (names : Lookup) (locals : ℕ → Option ℕ) (features : Features) (ops : List Op) (declared : List (ℕ × RawVal)) (b p : Z → List ℕ) (bytes places : Y → List ℕ) (e : IrError)
    → WritesBehind names locals features ops declared b p (Err e) → WritesBehind names locals features ops declared bytes places (Err e)
same_behind names locals features ops declared b p bytes places NoIndex h = h
same_behind names locals features ops declared b p bytes places NotWritable h = h
same_behind names locals features ops declared b p bytes places TooLarge h = absurd h
same_behind names locals features ops declared b p bytes places (Memory m) h = tt
same_behind names locals features ops declared b p bytes places Malformed h = absurd h

-- a refusal behind declarations, whatever is answered beside it
pub refused_behind : {Y Z : Type 0} (names : Lookup) (locals : ℕ → Option ℕ) (features : Features) (ops : List Op) (declared : List (ℕ × RawVal)) (b p : Z → List ℕ) (bytes places : Y → List ℕ) (r : Result Y IrError) (e : IrError) → IsErrAnd r (λ x. x ≡ e)
    → WritesBehind names locals features ops declared b p (Err e) → WritesBehind names locals features ops declared bytes places r
refused_behind names locals features ops declared b p bytes places (Ok x) e failed h = absurd failed
refused_behind names locals features ops declared b p bytes places (Err x) e failed h =
    subst (λ (d : IrError). WritesBehind names locals features ops declared bytes places (Err d)) (sym failed) (same_behind names locals features ops declared b p bytes places e h)

-- the same operators and declarations by other words
pub same_ground : {Y : Type 0} (names : Lookup) (locals : ℕ → Option ℕ) (features : Features) (ops given : List Op) (items slice : List Declaration) (bytes places : Y → List ℕ) (r : Result Y IrError) → ops ≡ given → slice ≡ items
    → WritesBehind names locals features given (declarations_of slice) bytes places r → WritesBehind names locals features ops (declarations_of items) bytes places r
same_ground names locals features ops given items slice bytes places r same whole h =
    subst (λ (ds : List Declaration). WritesBehind names locals features ops (declarations_of ds) bytes places r) whole (subst (λ (os : List Op). WritesBehind names locals features os (declarations_of slice) bytes places r) (sym same) h)

pub same_refusal : {X Y : Type 0} (s : Source) (b p : X → List ℕ) (n : X → ℕ → Option ℕ) (i : X → List ℕ) (u : X → List Bool) (bytes places : Y → List ℕ) (numbers : Y → ℕ → Option ℕ) (ids : Y → List ℕ) (used : Y → List Bool) (e : IrError)
    → EmitsBody s b p n i u (Err e) → EmitsBody s bytes places numbers ids used (Err e)
same_refusal s b p n i u bytes places numbers ids used NoIndex h = h
same_refusal s b p n i u bytes places numbers ids used NotWritable h = h
same_refusal s b p n i u bytes places numbers ids used TooLarge h = h
same_refusal s b p n i u bytes places numbers ids used (Memory m) h = tt
same_refusal s b p n i u bytes places numbers ids used Malformed h = absurd h

-- a refusal of the body, whatever is answered beside it
pub refused_body : {X Y : Type 0} (s : Source) (b p : X → List ℕ) (n : X → ℕ → Option ℕ) (i : X → List ℕ) (u : X → List Bool) (bytes places : Y → List ℕ) (numbers : Y → ℕ → Option ℕ) (ids : Y → List ℕ) (used : Y → List Bool) (r : Result Y IrError) (e : IrError) → IsErrAnd r (λ x. x ≡ e)
    → EmitsBody s b p n i u (Err e) → EmitsBody s bytes places numbers ids used r
refused_body s b p n i u bytes places numbers ids used (Ok x) e failed h = absurd failed
refused_body s b p n i u bytes places numbers ids used (Err x) e failed h = subst (λ (d : IrError). EmitsBody s bytes places numbers ids used (Err d)) (sym failed) (same_refusal s b p n i u bytes places numbers ids used e h)

-- ---- a front that can't be written

each_fits : (ds : List Declaration) → EachFits (λ _. Unit {0}) ds
each_fits [] = tt
each_fits (d ∷ ds) = (tt, each_fits ds)

-- so few declarations can't be too many
pub front_refused : {Y : Type 0} (names : Lookup) (locals : ℕ → Option ℕ) (features : Features) (ops : List Op) (declared : List (ℕ × RawVal)) (bytes : Y → List ℕ) (ds : List Declaration) (result : Result Y IrError) (e : WireError) (old new spelled : List ℕ)
    → length ds < 2 ^ 32 → Adds {X = Unit {0}} (Err e) old new spelled (FitsVector (λ _. Unit {0}) ds) → IsErrAnd result (λ x. x ≡ ir_error e) → WritesBehind names locals features ops declared bytes (λ _. []) result
front_refused names locals features ops declared bytes ds (Ok x) e old new spelled few adds failed = absurd failed
front_refused names locals features ops declared bytes ds (Err x) wire_errors.Malformed old new spelled few adds failed = absurd adds
front_refused names locals features ops declared bytes ds (Err x) wire_errors.TooLarge old new spelled few adds failed = absurd (adds (few, each_fits ds))
front_refused names locals features ops declared bytes ds (Err x) (wire_errors.Memory m) old new spelled few adds failed =
    subst (λ (d : IrError). WritesBehind names locals features ops declared bytes (λ _. []) (Err d)) (sym failed) tt

-- ---- operators behind a front

behind_front : (names : Lookup) (locals : ℕ → Option ℕ) (features : Features) (ops : List Op) (old front new places : List ℕ) → OperatorsWritten names locals features ops (old ++ front) new places
    → (bytes told : List ℕ) × (OperatorsWritten names locals features ops front bytes told × (new ≡ old ++ bytes))
behind_front names locals features ops old front new places w =
    (front ++ row_bytes op_bytes w.texts, places_from (length front) w.texts, (moved names locals features ops old front new places w, w.spelled ∙ append_assoc old front (row_bytes op_bytes w.texts)))

-- they are written behind what stood before it
pub behind : {Y : Type 0} (names : Lookup) (locals : ℕ → Option ℕ) (features : Features) (ops : List Op) (old middle new : List ℕ) (declared : List (ℕ × RawVal)) (r : Result Y IrError) → middle ≡ old ++ declarations_bytes declared
    → (places : List ℕ) × EmitsOperators names locals features ops middle new (λ _. places) r → (bytes places : List ℕ) × (WritesBehind names locals features ops declared (λ _. bytes) (λ _. places) r × IfOk r (λ _. new ≡ old ++ bytes))
behind names locals features ops old middle new declared (Ok x) is h =
    behind_front names locals features ops old (declarations_bytes declared) new h.0 (subst (λ (bytes : List ℕ). OperatorsWritten names locals features ops bytes new h.0) is h.1)
behind {Y} names locals features ops old middle new declared (Err e) is h = ([], [], (passed {Y = Y} {Z = Y} names locals features ops middle new declared (λ _. h.0) (λ _. []) (λ _. []) e h.1, tt))
