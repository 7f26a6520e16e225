-- Bodies of functions: declarations, and operators behind them.
use Rattle.std.proofs.Common.{◌≡◌, ℕ, ◌+◌, ◌-◌, ◌^◌, List, [], ◌∷◌, ◌++◌, length, map, min, Option, Some, None, Result, Ok, Err, IsErrAnd, slice_get, refl, ap, ◌∙◌, sym, subst, arith, append_assoc, length-append}
use Rattle.std.proofs.lemmas.List.{map-append}
use Rattle.std.proofs.lemmas.List.FromFn.{length-range_with_len}
use Rattle.std.specs.List.{range_with_len}
use Rattle.wasm_forms.specs.declared.types.RawVal.{RawVal}
use Rattle.wasm_forms.specs.Grammar.{Is}
use Rattle.wasm_forms.proofs.Bind.{some_same}
use Rattle.wasm_forms.proofs.Exact.{one_reading}
use Rattle.walrus_base.specs.Id.{place}
use Rattle.walrus_base.specs.Types.{ValType}
use Rattle.walrus_base.specs.declared.id.Id.{Id}
use Rattle.walrus_base.specs.declared.keys.LocalKey.{LocalKey}
use Rattle.walrus_base.specs.Operators.{Op}
use Rattle.walrus_base.specs.Locals.{new_local}
use Rattle.walrus_base.specs.Value.{val_type}
use Rattle.walrus_base.specs.declared.locals.Local.{Local}
use Rattle.walrus_base.specs.declared.value.ValType.{ValType as DeclaredValType}
use Rattle.walrus_code.specs.Results.{locals_at}
use Rattle.walrus_code.specs.declared.error.IrError.{IrError}
use Rattle.walrus_code.specs.declared.error.IrError.TheVariants.{Malformed, Memory, NoIndex, NotWritable, TooLarge}
use Rattle.walrus_code.specs.declared.location.InstrLocId.{InstrLocId}
use Rattle.walrus_bodies.specs.declared.body.ReadBody.{ReadBody}
use Rattle.walrus_bodies.specs.Body.{Context, OperatorsRead, BodyReads, Located, declarations, declared_types}
use Rattle.walrus_bodies.specs.BodyRead.{body_locals, new_locals, AddsLocals, Grows, ReadsBody, AreDeclared, Declares}
use Rattle.walrus_bodies.specs.Declarations.{ReadsDeclarations}
use Rattle.walrus_bodies.specs.Results.{ReadsOperators}
use Rattle.walrus_base.proofs.Ranges.{range-more}

-- ---- locals that are added

new_locals-more : (ids : List (Id LocalKey)) (types : List DeclaredValType) (id : Id LocalKey) (ty : DeclaredValType) → length ids ≡ length types → new_locals (ids ++ id ∷ []) (types ++ ty ∷ []) ≡ new_locals ids types ++ Some (new_local id ty) ∷ []
new_locals-more [] [] id ty same = refl
new_locals-more [] (t ∷ types) id ty same = absurd (omega (arith, same))
new_locals-more (i ∷ ids) [] id ty same = absurd (omega (arith, same))
new_locals-more (i ∷ ids) (t ∷ types) id ty same =
    let shorter : length ids ≡ length types = omega (arith, same) in
    ap (λ (xs : List (Option Local)). Some (new_local i t) ∷ xs) (new_locals-more ids types id ty shorter)

pub length-new_locals : (ids : List (Id LocalKey)) (types : List DeclaredValType) → length ids ≡ length types → length (new_locals ids types) ≡ length types
length-new_locals [] [] same = refl
length-new_locals [] (t ∷ types) same = absurd (omega (arith, same))
length-new_locals (i ∷ ids) [] same = absurd (omega (arith, same))
length-new_locals (i ∷ ids) (t ∷ types) same =
    let shorter : length ids ≡ length types = omega (arith, same) in
    let rest = length-new_locals ids types shorter in
    omega (arith, rest)

length-map-place : (ids : List (Id LocalKey)) → length (map place ids) ≡ length ids
length-map-place [] = refl
length-map-place (i ∷ ids) = let rest = length-map-place ids in omega (arith, rest)

as_many : (old new : List (Option Local)) (ids : List (Id LocalKey)) (types : List DeclaredValType) → AddsLocals old new ids types → length ids ≡ length types
as_many old new ids types adds = sym (length-map-place ids) ∙ ap length adds.places ∙ length-range_with_len (length old) (length types)

-- one more local
pub adds-more : (old middle new : List (Option Local)) (ids ids' : List (Id LocalKey)) (types : List DeclaredValType) (id : Id LocalKey) (ty : DeclaredValType) → AddsLocals old middle ids types → place id ≡ length middle → new ≡ middle ++ Some (new_local id ty) ∷ [] → ids' ≡ ids ++ id ∷ [] → AddsLocals old new ids' (types ++ ty ∷ [])
adds-more old middle new ids ids' types id ty adds at is grown =
    let many = as_many old middle ids types adds in
    let long : length middle ≡ length old + length types = ap length adds.added ∙ length-append old (new_locals ids types) ∙ ap (λ (n : ℕ). length old + n) (length-new_locals ids types many) in
    let count : length (types ++ ty ∷ []) ≡ length types + 1 = length-append types (ty ∷ []) in
    record {
      places = ap (map place) grown ∙ map-append place ids (id ∷ []) ∙ ap (λ (ns : List ℕ). ns ++ place id ∷ []) adds.places ∙ ap (λ (n : ℕ). range_with_len (length old) (length types) ++ n ∷ []) (at ∙ long) ∙ sym (range-more (length old) (length types)) ∙ ap (range_with_len (length old)) (sym count);
      added = is ∙ ap (λ (xs : List (Option Local)). xs ++ Some (new_local id ty) ∷ []) adds.added ∙ append_assoc old (new_locals ids types) (Some (new_local id ty) ∷ []) ∙ ap (λ (xs : List (Option Local)). old ++ xs) (sym (new_locals-more ids types id ty many)) ∙ ap (λ (js : List (Id LocalKey)). old ++ new_locals js (types ++ ty ∷ [])) (sym grown);
    }

pub grows-some : (old new : List (Option Local)) (ids : List (Id LocalKey)) (types : List DeclaredValType) → AddsLocals old new ids types → Grows old new
grows-some old new ids types adds = (new_locals ids types, adds.added)

pub grows-one : (old middle new : List (Option Local)) (ids : List (Id LocalKey)) (types : List DeclaredValType) (x : Option Local) → AddsLocals old middle ids types → new ≡ middle ++ x ∷ [] → Grows old new
grows-one old middle new ids types x adds is =
    (new_locals ids types ++ x ∷ [], is ∙ ap (λ (xs : List (Option Local)). xs ++ x ∷ []) adds.added ∙ append_assoc old (new_locals ids types) (x ∷ []))

-- ---- the whole body

-- the look-up of the locals that the code makes
pub locals_are : (args ids all : List (Id LocalKey)) (old new : List (Option Local)) (types : List DeclaredValType) → all ≡ args ++ ids → AddsLocals old new ids types → locals_at all ≡ body_locals (map place args) (length old) (length types)
locals_are args ids all old new types is adds =
    let look_up : List ℕ → ℕ → Option ℕ = λ ns index. slice_get ns index in
    ap look_up (ap (map place) is ∙ map-append place args ids ∙ ap (λ (ns : List ℕ). map place args ++ ns) adds.places)

abbrev pub Found : (bytes : List ℕ) → List (ℕ × RawVal) → List ℕ → Type 0
Found bytes ds rest = (front : List ℕ) × ((bytes ≡ front ++ rest) × Is declarations front ds)

-- a body with these declarations in front
same_parts : (c : Context) (locals : ℕ → Option ℕ) (bytes rest : List ℕ) (ds : List (ℕ × RawVal)) (types : List (ValType ℕ)) (ops : List Op) → Found bytes ds rest → BodyReads c locals bytes types ops → (declared_types c.names ds ≡ Some types) × OperatorsRead c locals rest ops
same_parts c locals bytes rest ds types ops found reads =
    let one = one_reading declarations reads.front reads.back found.0 rest reads.declared ds (sym reads.parts ∙ found.1.0) reads.declares found.1.1 in (
      ap (declared_types c.names) (sym one.0) ∙ reads.typed,
      subst (λ (bs : List ℕ). OperatorsRead c locals bs ops) one.1 reads.operators,
    )

-- no declarations
pub none_declared : (c : Context) (args : List ℕ) (old new : List (Option Local)) (bytes : List ℕ) {X : Type 0} (view : X → List (ℕ × RawVal) × List ℕ) (result : Result ReadBody IrError) (e : IrError) → IsErrAnd result (λ x. x ≡ e) → ReadsDeclarations view bytes (Err e) → ReadsBody c args old new bytes result
none_declared c args old new bytes view (Ok x) e is reads = absurd is
none_declared c args old new bytes view (Err Malformed) e is reads =
    let none = rw (← is) at reads in
    λ types ops body. none body.front body.back body.declared body.parts body.declares
none_declared c args old new bytes view (Err (Memory m)) e is reads = tt
none_declared c args old new bytes view (Err NoIndex) e is reads = rw (← is) at reads
none_declared c args old new bytes view (Err NotWritable) e is reads = rw (← is) at reads
none_declared c args old new bytes view (Err TooLarge) e is reads = rw (← is) at reads

-- of a type that isn't declared
pub not_declared : (c : Context) (args : List ℕ) (old new middle : List (Option Local)) (bytes rest : List ℕ) (ds : List (ℕ × RawVal)) {X : Type 0} (ids : X → List (Id LocalKey)) (result : Result ReadBody IrError) (e : IrError) → Found bytes ds rest → IsErrAnd result (λ x. x ≡ e) → Declares c.names ds old middle ids (Err e) → ReadsBody c args old new bytes result
not_declared c args old new middle bytes rest ds ids (Ok x) e found is reads = absurd is
not_declared c args old new middle bytes rest ds ids (Err Malformed) e found is reads =
    let none = rw (← is) at reads in
    λ types ops body.
    let same = same_parts c (body_locals args (length old) (length types)) bytes rest ds types ops found body in
    let wrong : Some types ≡ None = sym same.0 ∙ none in
    absurd cc
not_declared c args old new middle bytes rest ds ids (Err (Memory m)) e found is reads = tt
not_declared c args old new middle bytes rest ds ids (Err NoIndex) e found is reads = rw (← is) at reads
not_declared c args old new middle bytes rest ds ids (Err NotWritable) e found is reads = rw (← is) at reads
not_declared c args old new middle bytes rest ds ids (Err TooLarge) e found is reads = rw (← is) at reads

-- no operators
pub no_operators : (c : Context) (args all : List (Id LocalKey)) (ids : List (Id LocalKey)) (old new : List (Option Local)) (bytes rest : List ℕ) (ds : List (ℕ × RawVal)) {X : Type 0} (view : X → List Op) (result : Result ReadBody IrError) (e : IrError) → Found bytes ds rest → AreDeclared c.names ds old new ids → all ≡ args ++ ids → IsErrAnd result (λ x. x ≡ e) → ReadsOperators c (locals_at all) view rest (Err e) → ReadsBody c (map place args) old new bytes result
no_operators c args all ids old new bytes rest ds view (Ok x) e found declared is failed reads = absurd failed
no_operators c args all ids old new bytes rest ds view (Err Malformed) e found declared is failed reads =
    let none = rw (← failed) at reads in
    λ types ops body.
    let same = same_parts c (body_locals (map place args) (length old) (length types)) bytes rest ds types ops found body in
    let types_are : types ≡ map val_type declared.types = some_same _ _ (sym same.0 ∙ declared.typed) in
    let count : length types ≡ length declared.types = ap length types_are ∙ length-map-val declared.types in
    let look_up : body_locals (map place args) (length old) (length types) ≡ locals_at all = ap (body_locals (map place args) (length old)) count ∙ sym (locals_are args ids all old new declared.types is declared.added) in
    none ops (subst (λ (l : ℕ → Option ℕ). OperatorsRead c l rest ops) look_up same.1)
  where
    length-map-val : (ts : List DeclaredValType) → length (map val_type ts) ≡ length ts
    length-map-val [] = refl
    length-map-val (t ∷ ts) = let rest = length-map-val ts in omega (arith, rest)
no_operators c args all ids old new bytes rest ds view (Err (Memory m)) e found declared is failed reads = tt
no_operators c args all ids old new bytes rest ds view (Err NoIndex) e found declared is failed reads = rw (← failed) at reads
no_operators c args all ids old new bytes rest ds view (Err NotWritable) e found declared is failed reads = rw (← failed) at reads
no_operators c args all ids old new bytes rest ds view (Err TooLarge) e found declared is failed reads = rw (← failed) at reads

-- all of it
pub all_read : (c : Context) (args all ids : List (Id LocalKey)) (old new : List (Option Local)) (bytes rest : List ℕ) (ds : List (ℕ × RawVal)) (ops : List Op) → Found bytes ds rest → (declared : AreDeclared c.names ds old new ids) → all ≡ args ++ ids → OperatorsRead c (locals_at all) rest ops → BodyReads c (body_locals (map place args) (length old) (length declared.types)) bytes (map val_type declared.types) ops
all_read c args all ids old new bytes rest ds ops found declared is reads = record {
  front = found.0;
  back = rest;
  parts = found.1.0;
  declared = ds;
  declares = found.1.1;
  typed = declared.typed;
  operators = subst (λ (l : ℕ → Option ℕ). OperatorsRead c l rest ops) (locals_are args ids all old new declared.types is declared.added) reads;
}

-- ---- locations

pub same_places : (IsGiven : ℕ → InstrLocId → Type 0) (p q : ℕ) (bytes : List ℕ) (locs : List InstrLocId) → min p (2 ^ 64 - 1) ≡ min q (2 ^ 64 - 1) → Located IsGiven p bytes locs → Located IsGiven q bytes locs
same_places IsGiven p q bytes [] same located = located
same_places IsGiven p q bytes (loc ∷ locs) same (text, (front, (back, (parts, is, given, rest)))) =
    let later : min (p + length front) (2 ^ 64 - 1) ≡ min (q + length front) (2 ^ 64 - 1) = omega arith in
    (text, (front, (back, (parts, is, subst (λ (n : ℕ). IsGiven n loc) same given, same_places IsGiven (p + length front) (q + length front) back locs later rest))))

-- where the operators begin, as the code counts
pub begins : (IsGiven : ℕ → InstrLocId → Type 0) (start begin : ℕ) (bytes front rest : List ℕ) (locs : List InstrLocId) → bytes ≡ front ++ rest → begin ≡ min (start + (length bytes - length rest)) (2 ^ 64 - 1) → Located IsGiven begin rest locs → Located IsGiven (start + length front) rest locs
begins IsGiven start begin bytes front rest locs parts is located =
    let long : length bytes ≡ length front + length rest = ap length parts ∙ length-append front rest in
    let same : min begin (2 ^ 64 - 1) ≡ min (start + length front) (2 ^ 64 - 1) = omega arith in
    same_places IsGiven begin (start + length front) rest locs same located
