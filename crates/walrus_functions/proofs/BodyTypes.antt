-- The types of the locals of a body that is written, over indices.
use Rattle.std.proofs.Common.{◌≡◌, ℕ, Bool, zero, suc, List, [], ◌∷◌, ◌++◌, length, map, refl, sym, ap, ap₂, ◌∙◌, Some}
use Rattle.std.specs.Prelude.{Option, flat_map, replicate, option_and_then}
use Rattle.wasm_forms.specs.declared.types.RawVal.{RawVal}
use Rattle.walrus_base.specs.Arena.{item_at}
use Rattle.walrus_base.specs.Types.{ValType}
use Rattle.walrus_code.specs.FromRaw.{val_of}
use Rattle.walrus_code.specs.Names.{Lookup, named_val}
use Rattle.walrus_functions.specs.EmittedBody.{Source, BodyWritten, spelled_as, looked_up}
use Rattle.walrus_base.proofs.Lookups.{heads, mapped_append, map_after, as_long}

-- the types that declarations over indices declare, one for each local
abbrev pub declared_by : List (ℕ × RawVal) → List (ValType ℕ)
declared_by ds = flat_map (λ d. replicate d.0 (val_of d.1)) ds

module _ (names : Lookup) where
  replicated : (n : ℕ) (v w : ValType ℕ) → Some w ≡ named_val names v → map Some (replicate n w) ≡ map (named_val names) (replicate n v)
  replicated zero v w e = refl
  replicated (suc n) v w e = ap₂ ◌∷◌ e (replicated n v w e)

  declaration_named : (d : ℕ × RawVal) (g : ℕ × ValType ℕ) → spelled_as d ≡ looked_up names g → (d.0 ≡ g.0) × (Some (val_of d.1) ≡ named_val names g.1)
  declaration_named d g e = (ap (λ z. z.0) e, ap (λ z. z.1) e)

  -- they are the types of the declarations over ids, looked up
  spread_named : (ds : List (ℕ × RawVal)) (gs : List (ℕ × ValType ℕ)) → map spelled_as ds ≡ map (looked_up names) gs → map Some (declared_by ds) ≡ map (named_val names) (flat_map (λ g. replicate g.0 g.1) gs)
  spread_named [] [] e = refl
  spread_named [] (g ∷ gs) e = absurd (cc)
  spread_named (d ∷ ds) [] e = absurd (cc)
  spread_named (d ∷ ds) (g ∷ gs) e =
      let p = heads (spelled_as d) (looked_up names g) (map spelled_as ds) (map (looked_up names) gs) e in
      let q = declaration_named d g p.0 in
      mapped_append (λ v. Some v) (replicate d.0 (val_of d.1)) (declared_by ds)
      ∙ ap₂ (λ (a b : List (Option (ValType ℕ))). a ++ b) (ap (λ (n : ℕ). map Some (replicate n (val_of d.1))) q.0 ∙ replicated g.0 g.1 (val_of d.1) q.1) (spread_named ds gs p.1)
      ∙ sym (mapped_append (named_val names) (replicate g.0 g.1) (flat_map (λ g. replicate g.0 g.1) gs))

-- the type of a local, looked up
abbrev pub typed_by : Lookup → List (Option (ValType ℕ)) → ℕ → Option (ValType ℕ)
typed_by names slots x = option_and_then (named_val names) (item_at slots x)

module _ (s : Source) (bytes places : List ℕ) (numbers : ℕ → Option ℕ) (ids : List ℕ) (used : List Bool) (w : BodyWritten s bytes places numbers ids used) where
  abbrev pub types_in : List (ValType ℕ)
  types_in = declared_by w.declarations

  pub further_typed : map Some types_in ≡ map (typed_by s.names s.slots) w.order
  further_typed =
      let spread : List (ValType ℕ) = flat_map (λ g. replicate g.0 g.1) w.groups in
      spread_named s.names w.declarations w.groups w.typed
      ∙ map_after (λ v. Some v) (λ (o : Option (ValType ℕ)). option_and_then (named_val s.names) o) spread
      ∙ ap (map (λ (o : Option (ValType ℕ)). option_and_then (named_val s.names) o)) w.grouped.spread
      ∙ sym (map_after (item_at s.slots) (λ (o : Option (ValType ℕ)). option_and_then (named_val s.names) o) w.order)

  pub as_many_further : length types_in ≡ length w.order
  as_many_further = as_long (λ v. Some v) (typed_by s.names s.slots) types_in w.order further_typed
