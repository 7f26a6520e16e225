-- A function type that is read into one vector: its parameters, and behind them its results.
use Rattle.std.proofs.Common.{◌≡◌, ℕ, suc, List, [], ◌∷◌, ◌++◌, length, map, take, drop, Option, Some, None, option_map, refl, sym, ap, ap₂, ◌∙◌}
use Rattle.std.proofs.Math.Seq.{take-append_seam, drop-append_seam}
use Rattle.std.proofs.lemmas.List.{take-map, drop-map}
use Rattle.wasm_forms.proofs.Bind.{some_same, bind_some, bind_at}
use Rattle.walrus_base.specs.Composite.{function_of, function_type, function_comp}
use Rattle.walrus_base.specs.Types.{ValType, Func}
use Rattle.walrus_base.specs.Value.{val_type}
use Rattle.walrus_base.specs.declared.composite.FunctionType.{FunctionType}
use Rattle.walrus_base.specs.declared.value.ValType.{ValType as DeclaredValType}
use Rattle.walrus_code.specs.Names.{Lookup, named_val}
use Rattle.walrus_groups.specs.Named.{each, named_vals, named_function}

-- as many are found as are looked up
found_long : {X Y : Type 0} (find : X → Option Y) (xs : List X) (ys : List Y) → each find xs ≡ Some ys → length ys ≡ length xs
found_long find [] ys e = sym (ap (λ l. length l) (some_same [] ys e))
found_long find (x ∷ xs) ys e =
    let head = bind_some (find x) _ ys e in
    let tail = bind_some (each find xs) _ ys head.2 in
    sym (ap (λ l. length l) (some_same (head.0 ∷ tail.0) ys tail.2)) ∙ ap suc (found_long find xs tail.0 tail.1)

-- what came behind others was found
came_behind : {Y : Type 0} (old new : List Y) (found : Option (List Y)) → option_map (λ more. old ++ more) found ≡ Some new → (more : List Y) × (found ≡ Some more) × (old ++ more ≡ new)
came_behind old new (Some more) e = (more, refl, some_same (old ++ more) new e)
came_behind old new None e = absurd cc

module _ (names : Lookup) (params results : List (ValType ℕ)) where
  -- the first values, and those behind them
  pub function_read : (start taken all : List DeclaredValType) (count : ℕ) (f : FunctionType) → start ≡ [] → count ≡ length params
      → option_map (λ more. map val_type start ++ more) (named_vals names params) ≡ Some (map val_type taken)
      → option_map (λ more. map val_type taken ++ more) (named_vals names results) ≡ Some (map val_type all)
      → function_type f ≡ function_of (take count all) (drop count all)
      → named_function names params results ≡ Some (function_comp (function_type f))
  function_read start taken all count f none long first second is =
      let takes = came_behind (map val_type start) (map val_type taken) (named_vals names params) first in
      let gives = came_behind (map val_type taken) (map val_type all) (named_vals names results) second in
      let same : takes.0 ≡ map val_type taken = ap (λ l. map val_type l ++ takes.0) (sym none) ∙ takes.2 in
      let many : count ≡ length (map val_type taken) = long ∙ sym (found_long (named_val names) params takes.0 takes.1) ∙ ap (λ l. length l) same in
      let in_front : map val_type (take count all) ≡ map val_type taken =
      sym (take-map val_type count all) ∙ ap₂ (λ k l. take k l) many (sym gives.2) ∙ take-append_seam (map val_type taken) gives.0 in
      let behind : map val_type (drop count all) ≡ gives.0 =
      sym (drop-map val_type count all) ∙ ap₂ (λ k l. drop k l) many (sym gives.2) ∙ drop-append_seam (map val_type taken) gives.0 in
      bind_at (named_vals names params) _ takes.0 takes.1
      ∙ bind_at (named_vals names results) _ gives.0 gives.1
      ∙ ap₂ (λ ps rs. Some (Func ps rs)) (same ∙ sym in_front) (sym behind)
      ∙ ap (λ t. Some (function_comp t)) (sym is)
