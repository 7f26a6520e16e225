-- Locals that are added to others, and those that declarations declare one after another.
use Rattle.std.proofs.Common.{◌≡◌, ℕ, zero, suc, ◌+◌, ◌<◌, List, [], ◌∷◌, ◌++◌, length, map, take, get_or, replicate, Option, Some, refl, ap, ◌∙◌, sym, arith, append_assoc, length-append, add-one}
use Rattle.std.proofs.lemmas.List.{append-nil, length-map, map-append}
use Rattle.std.proofs.lemmas.List.FromFn.{length-range_with_len}
use Rattle.std.proofs.Math.Seq.{take-suc}
use Rattle.std.specs.List.{range_with_len}
use Rattle.wasm_forms.specs.declared.types.RawVal.{RawVal}
use Rattle.walrus_base.specs.Id.{place}
use Rattle.walrus_base.specs.Locals.{new_local}
use Rattle.walrus_base.specs.Types.{ValType}
use Rattle.walrus_base.specs.Value.{val_type}
use Rattle.walrus_base.specs.declared.id.Id.{Id}
use Rattle.walrus_base.specs.declared.keys.LocalKey.{LocalKey}
use Rattle.walrus_base.specs.declared.locals.Local.{Local}
use Rattle.walrus_base.specs.declared.value.ValType.{ValType as DeclaredValType}
use Rattle.walrus_code.specs.FromRaw.{val_of}
use Rattle.walrus_code.specs.Names.{Lookup, named_val}
use Rattle.walrus_bodies.specs.Body.{declared_types}
use Rattle.walrus_bodies.specs.BodyRead.{new_locals, AddsLocals}
use Rattle.walrus_bodies.proofs.BodyLemmas.{adds-more, length-new_locals}
use Rattle.walrus_bodies.proofs.DeclarationLemmas.{types_behind, types_behind-next, map-replicate}

pub range-both : (first n m : ℕ) → range_with_len first n ++ range_with_len (first + n) m ≡ range_with_len first (n + m)
range-both first zero m =
    let from : first + 0 ≡ first = omega arith in
    let count : 0 + m ≡ m = omega arith in
    ap (λ (k : ℕ). range_with_len k m) from ∙ ap (range_with_len first) (sym count)
range-both first (suc n) m =
    let from : first + suc n ≡ first + 1 + n = omega arith in
    let count : suc n + m ≡ suc (n + m) = omega arith in
    ap (λ (k : ℕ). first ∷ (range_with_len (first + 1) n ++ range_with_len k m)) from ∙ ap (λ (ks : List ℕ). first ∷ ks) (range-both (first + 1) n m) ∙ ap (range_with_len first) (sym count)

new_locals-both : (ids jds : List (Id LocalKey)) (ts us : List DeclaredValType) → length ids ≡ length ts → new_locals (ids ++ jds) (ts ++ us) ≡ new_locals ids ts ++ new_locals jds us
new_locals-both [] jds [] us same = refl
new_locals-both [] jds (t ∷ ts) us same = absurd (omega (arith, same))
new_locals-both (i ∷ ids) jds [] us same = absurd (omega (arith, same))
new_locals-both (i ∷ ids) jds (t ∷ ts) us same =
    let shorter : length ids ≡ length ts = omega (arith, same) in
    ap (λ (xs : List (Option Local)). Some (new_local i t) ∷ xs) (new_locals-both ids jds ts us shorter)

module _ (old new : List (Option Local)) (ids : List (Id LocalKey)) (types : List DeclaredValType) (adds : AddsLocals old new ids types) where
  as_many : length ids ≡ length types
  as_many = sym (length-map ids place) ∙ ap length adds.places ∙ length-range_with_len (length old) (length types)

  pub longer : length new ≡ length old + length types
  longer = ap length adds.added ∙ length-append old (new_locals ids types) ∙ ap (λ (n : ℕ). length old + n) (length-new_locals ids types as_many)

  -- and then others
  pub adds_others : (later : List (Option Local)) (others : List (Id LocalKey)) (their : List DeclaredValType) → AddsLocals new later others their → AddsLocals old later (ids ++ others) (types ++ their)
  adds_others later others their more =
      let count : length (types ++ their) ≡ length types + length their = length-append types their in
      record {
        places = map-append place ids others ∙ ap (λ (ps : List ℕ). ps ++ map place others) adds.places ∙ ap (λ (ps : List ℕ). range_with_len (length old) (length types) ++ ps) (more.places ∙ ap (λ (n : ℕ). range_with_len n (length their)) longer) ∙ range-both (length old) (length types) (length their) ∙ ap (range_with_len (length old)) (sym count);
        added = more.added ∙ ap (λ (xs : List (Option Local)). xs ++ new_locals others their) adds.added ∙ append_assoc old (new_locals ids types) (new_locals others their) ∙ ap (λ (xs : List (Option Local)). old ++ xs) (sym (new_locals-both ids others types their as_many));
      }

pub adds_nothing : (old : List (Option Local)) → AddsLocals old old [] []
adds_nothing old = record { places = refl; added = sym (append-nil old) }

pub take_next : (xs : List DeclaredValType) (i : ℕ) (d : DeclaredValType) → i < length xs → take i xs ++ get_or xs i d ∷ [] ≡ take (i + 1) xs
take_next xs i d below = sym (ap (λ (n : ℕ). take n xs) (add-one i) ∙ take-suc xs i d below)

-- ---- whatever their ids

-- locals of these types are added in order, at the next places
abbrev pub AddsTypes : List (Option Local) → List (Option Local) → List DeclaredValType → Type 0
AddsTypes old new types = (ids : List (Id LocalKey)) × AddsLocals old new ids types

pub one_added : (old middle new : List (Option Local)) (types : List DeclaredValType) (id : Id LocalKey) (ty : DeclaredValType) → AddsTypes old middle types → (place id ≡ length middle) × (new ≡ middle ++ Some (new_local id ty) ∷ []) → AddsTypes old new (types ++ ty ∷ [])
one_added old middle new types id ty so_far more =
    (so_far.0 ++ id ∷ [], adds-more old middle new so_far.0 (so_far.0 ++ id ∷ []) types id ty so_far.1 more.0 more.1 refl)

-- ---- of declarations

-- those so far are added, and their types and those that are left are the types of them all
pub record DeclaredSoFar (names : Lookup) (left all : List (ℕ × RawVal)) (old now : List (Option Local)) : Type 0 where
  pub types : List DeclaredValType
  pub whole : types_behind (map val_type types) (declared_types names left) ≡ declared_types names all
  pub added : AddsTypes old now types

module _ (names : Lookup) (all : List (ℕ × RawVal)) (old now : List (Option Local)) where
  -- one declaration more
  pub declared_next : (d : ℕ × RawVal) (left : List (ℕ × RawVal)) (next : List (Option Local)) (ty : DeclaredValType) → DeclaredSoFar names (d ∷ left) all old now → Some (val_type ty) ≡ named_val names (val_of d.1) → AddsTypes now next (replicate d.0 ty) → DeclaredSoFar names left all old next
  declared_next d left next ty so_far is more =
      let seen : map val_type (so_far.types ++ replicate d.0 ty) ≡ map val_type so_far.types ++ replicate d.0 (val_type ty) =
      map-append val_type so_far.types (replicate d.0 ty) ∙ ap (λ (ts : List (ValType ℕ)). map val_type so_far.types ++ ts) (map-replicate val_type d.0 ty) in
      record {
        types = so_far.types ++ replicate d.0 ty;
        whole = types_behind-next names (map val_type so_far.types) (map val_type (so_far.types ++ replicate d.0 ty)) d left (val_type ty) (declared_types names all) (sym is) seen so_far.whole;
        added = (so_far.added.0 ++ more.0, adds_others old now so_far.added.0 so_far.types so_far.added.1 next more.0 (replicate d.0 ty) more.1);
      }
