-- Locals that are added behind others: what bodies see of them.
use Rattle.std.proofs.Common.{◌≡◌, ◌≢◌, ℕ, zero, suc, ◌+◌, ◌<◌, List, [], ◌∷◌, ◌++◌, length, map, Option, Some, None, IsSome, option_map, refl, sym, ap, ap₂, ◌∙◌, subst, arith, get_or, append_assoc, length-append}
use Rattle.std.specs.List.{range_with_len}
use Rattle.std.specs.Prelude.{All, AllPairs}
use Rattle.std.proofs.Math.ListN.{get_or-append}
use Rattle.std.proofs.Math.Seq.{get_or-append_seam}
use Rattle.std.proofs.lemmas.List.{length-map, map-append}
use Rattle.std.proofs.lemmas.List.Elements.{All-cons}
use Rattle.std.proofs.lemmas.List.FromFn.{length-range_with_len}
use Rattle.walrus_base.specs.Arena.{item_at}
use Rattle.walrus_base.specs.Id.{place}
use Rattle.walrus_base.specs.Types.{ValType}
use Rattle.walrus_base.specs.declared.id.Id.{Id}
use Rattle.walrus_base.specs.declared.keys.LocalKey.{LocalKey}
use Rattle.walrus_base.specs.Locals.{local_type, locals}
use Rattle.walrus_base.specs.Value.{val_type}
use Rattle.walrus_base.specs.declared.locals.Local.{Local}
use Rattle.walrus_base.specs.declared.locals.ModuleLocals.{ModuleLocals}
use Rattle.walrus_base.specs.declared.value.ValType.{ValType as Declared}
use Rattle.walrus_bodies.specs.BodyRead.{AddsLocals, new_locals}
use Rattle.walrus_functions.specs.EmittedBody.{types_of}
use Rattle.walrus_functions.specs.ReadFunction.{StaysInFront}
use Rattle.walrus_contents.specs.View.{body, function, kind_of}
use Rattle.walrus_items.specs.Functions.{FunctionValue}
use Rattle.walrus_items.specs.declared.function_kind.FunctionKind.{FunctionKind}
use Rattle.walrus_items.specs.declared.function_kind.FunctionKind.TheVariants.{Import, Local as WithBody, Uninitialized}
use Rattle.walrus_reading.proofs.Carrying.{item_within}
use Rattle.walrus_theorem.specs.Edits.{KeepsFunction, KeepsKind}
use Rattle.walrus_reading.proofs.DeclaredLocals.{range_apart as apart}

-- ---- those that were there keep their types

pub stay_typed : (old new : List (Option Local)) → StaysInFront old new → (l : ℕ) (t : ValType ℕ) → item_at (types_of old) l ≡ Some t → item_at (types_of new) l ≡ Some t
stay_typed old new grown l t at =
    ap (λ xs. item_at xs l) (ap types_of grown.1 ∙ map-append (option_map (λ (x : Local). val_type (local_type x))) old grown.0)
    ∙ get_or-append (types_of old) (types_of grown.0) None l (item_within (types_of old) l (subst (λ (o : Option (ValType ℕ)). IsSome o) (sym at) refl))
    ∙ at

module _ (old new : ModuleLocals) (grown : StaysInFront (locals old) (locals new)) where
  keeps_kind : (k : FunctionKind) → KeepsKind (kind_of old k) (kind_of new k)
  keeps_kind (Import i) = refl
  keeps_kind (WithBody l) = (body new l, refl, record { parameters = refl; operators = refl; types = stay_typed (locals old) (locals new) grown })
  keeps_kind (Uninitialized ty) = refl

  -- functions are what they were
  pub keeps_function : (o : Option FunctionValue) → KeepsFunction (option_map (function old) o) (option_map (function new) o)
  keeps_function None = refl
  keeps_function (Some f) = (kind_of new f.kind, refl, keeps_kind f.kind)

-- ---- those that came are distinct, and of the types that were asked for

above : (x a n : ℕ) → x < a → All (λ (y : ℕ). x ≢ y) (range_with_len a n)
above x a zero lt = λ i d i_lt. absurd (omega (arith, i_lt))
above x a (suc n) lt = All-cons (λ (y : ℕ). x ≢ y) a (range_with_len (a + 1) n) (λ e. omega (arith, lt, e)) (above x (a + 1) n (omega (arith, lt)))

-- what stands behind is what is at the places behind
rest_at : {X : Type 0} (front rest : List (Option X)) (k n : ℕ) → k ≡ length front → n ≡ length rest → map (item_at (front ++ rest)) (range_with_len k n) ≡ rest
rest_at front [] k zero e m = refl
rest_at front [] k (suc n) e m = absurd (omega (arith, m))
rest_at front (r ∷ rest) k zero e m = absurd (omega (arith, m))
rest_at {X = X} front (r ∷ rest) k (suc n) e m =
    let here : item_at (front ++ r ∷ rest) k ≡ r = subst (λ i. get_or (front ++ r ∷ rest) i None ≡ r) (sym e) (get_or-append_seam front r rest None) in
    let long : k + 1 ≡ length (front ++ r ∷ []) = omega (arith, e, length-append front (r ∷ [])) in
    let later : map (item_at ((front ++ r ∷ []) ++ rest)) (range_with_len (k + 1) n) ≡ rest = rest_at (front ++ r ∷ []) rest (k + 1) n long (omega (arith, m)) in
    ap₂ (λ (x : Option X) (xs : List (Option X)). x ∷ xs) here (subst (λ xs. map (item_at xs) (range_with_len (k + 1) n) ≡ rest) (append_assoc front (r ∷ []) rest) later)

said : (ids : List (Id LocalKey)) (types : List Declared) → length ids ≡ length types → types_of (new_locals ids types) ≡ map Some (map val_type types)
said [] [] e = refl
said [] (t ∷ types) e = absurd (omega (arith, e))
said (i ∷ ids) [] e = absurd (omega (arith, e))
said (i ∷ ids) (t ∷ types) e = ap (λ (xs : List (Option (ValType ℕ))). Some (val_type t) ∷ xs) (said ids types (omega (arith, e)))

module _ (old new : List (Option Local)) (ids : List (Id LocalKey)) (types : List Declared) (added : AddsLocals old new ids types) where
  pub new_apart : AllPairs (λ (x : ℕ) (y : ℕ). x ≢ y) (map place ids)
  new_apart = subst (λ (xs : List ℕ). AllPairs (λ (x : ℕ) (y : ℕ). x ≢ y) xs) (sym added.places) (apart (length old) (length types))

  pub new_typed : map (item_at (types_of new)) (map place ids) ≡ map Some (map val_type types)
  new_typed =
      let same : types_of (new_locals ids types) ≡ map Some (map val_type types) = said ids types (sym (length-map ids place) ∙ ap length added.places ∙ length-range_with_len (length old) (length types)) in
      let all : types_of new ≡ types_of old ++ map Some (map val_type types) =
      ap types_of added.added ∙ map-append (option_map (λ (l : Local). val_type (local_type l))) old (new_locals ids types) ∙ ap (λ xs. types_of old ++ xs) same in
      ap (map (item_at (types_of new))) added.places
      ∙ ap (λ (xs : List (Option (ValType ℕ))). map (item_at xs) (range_with_len (length old) (length types))) all
      ∙ rest_at (types_of old) (map Some (map val_type types)) (length old) (length types) (sym (length-map old (option_map (λ (l : Local). val_type (local_type l)))))
      (sym (length-map types val_type) ∙ sym (length-map (map val_type types) (λ (t : ValType ℕ). Some t)))
