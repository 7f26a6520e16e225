-- The declarations of groups.
use Rattle.std.proofs.Common.{◌≡◌, ℕ, ◌<◌, List, [], ◌∷◌, ◌++◌, length, Option, Some, Result, Ok, Err, IsErrAnd, refl, sym, ap₂, ◌∙◌, subst, arith}
use Rattle.std.proofs.lemmas.List.{map-append}
use Rattle.std.proofs.lemmas.List.Elements.{All-push, Contains-append_right}
use Rattle.wasm_forms.specs.Types.{ValueStands}
use Rattle.wasm_forms.specs.declared.types.RawVal.{RawVal}
use Rattle.walrus_base.specs.Types.{ValType}
use Rattle.walrus_code.specs.FromRaw.{val_of}
use Rattle.walrus_code.specs.Names.{Lookup, named_val}
use Rattle.walrus_code.specs.Results.{val_is_exact, IndexesIn}
use Rattle.walrus_code.specs.declared.error.IrError.{IrError}
use Rattle.walrus_code.specs.declared.error.IrError.TheVariants.{Malformed, Memory, NoIndex, NotWritable, TooLarge}
use Rattle.walrus_functions.specs.Declaring.{AreDeclarations, Declares}

abbrev Stands : ℕ × RawVal → Type 0
Stands d = ValueStands d.1

abbrev seen : ℕ × RawVal → ℕ × Option (ValType ℕ)
seen d = (d.0, Some (val_of d.1))

abbrev indexed : Lookup → ℕ × ValType ℕ → ℕ × Option (ValType ℕ)
indexed names g = (g.0, named_val names g.1)

abbrev pair : ℕ → Option (ValType ℕ) → ℕ × Option (ValType ℕ)
pair n o = (n, o)

-- one more
pub declared-more : (names : Lookup) (gs : List (ℕ × ValType ℕ)) (ds : List (ℕ × RawVal)) (n : ℕ) (v : ValType ℕ) (r : RawVal) → AreDeclarations names gs ds → named_val names v ≡ Some (val_of r) → ValueStands r → AreDeclarations names (gs ++ (n, v) ∷ []) (ds ++ (n, r) ∷ [])
declared-more names gs ds n v r h is stands = record {
  are = map-append seen ds ((n, r) ∷ []) ∙ ap₂ (λ (xs : List (ℕ × Option (ValType ℕ))) (o : Option (ValType ℕ)). xs ++ pair n o ∷ []) h.are (sym is) ∙ sym (map-append (indexed names) gs ((n, v) ∷ []));
  stand = All-push Stands ds (n, r) h.stand stands;
}

refused : {X : Type 0} (names : Lookup) (before : List (ℕ × ValType ℕ)) (n : ℕ) (v : ValType ℕ) (rest : List (ℕ × ValType ℕ)) (e : IrError) (view : X → List (ℕ × RawVal)) → IndexesIn {X = RawVal} val_of (Err e) (val_is_exact v) (named_val names v) → Declares names (before ++ (n, v) ∷ rest) view (Err e)
refused names before n v rest NoIndex view is = let first : 0 < length ((n, v) ∷ rest) = omega arith in ((n, v), (Contains-append_right before ((n, v) ∷ rest) (n, v) (0, first, refl), is))
refused names before n v rest NotWritable view is = let first : 0 < length ((n, v) ∷ rest) = omega arith in ((n, v), (Contains-append_right before ((n, v) ∷ rest) (n, v) (0, first, refl), is))
refused names before n v rest (Memory m) view is = tt
refused names before n v rest Malformed view is = is
refused names before n v rest TooLarge view is = is

-- one that is refused
pub declares-refused : {X : Type 0} (names : Lookup) (before : List (ℕ × ValType ℕ)) (n : ℕ) (v : ValType ℕ) (rest all : List (ℕ × ValType ℕ)) (result : Result X IrError) (e : IrError) (view : X → List (ℕ × RawVal)) → all ≡ before ++ (n, v) ∷ rest → IsErrAnd result (λ x. x ≡ e) → IndexesIn {X = RawVal} val_of (Err e) (val_is_exact v) (named_val names v) → Declares names all view result
declares-refused names before n v rest all (Ok x) e view parts failed is = absurd failed
declares-refused names before n v rest all (Err x) e view parts failed is =
    subst (λ (d : IrError). Declares names all view (Err d)) (sym failed) (subst (λ (gs : List (ℕ × ValType ℕ)). Declares names gs view (Err e)) (sym parts) (refused names before n v rest e view is))
