-- What holds of a module without names still holds once its items are named.
use Rattle.std.proofs.Common.{◌≡◌, ℕ, zero, suc, ◌+◌, List, [], ◌∷◌, drop, length, map, refl, sym, ap, subst, ◌∙◌, arith}
use Rattle.std.specs.Prelude.{Option, Some, None, option_map}
use Rattle.std.specs.List.{AllZip}
use Rattle.wasm_frames.specs.Record as wire
use Rattle.walrus_base.specs.Arena.{item_at}
use Rattle.walrus_base.specs.Locals.{locals, local_place}
use Rattle.walrus_base.specs.declared.locals.Local.{Local}
use Rattle.walrus_items.specs.OwnIds.{AtOwnIds}
use Rattle.walrus_items.specs.Exports.{ModuleExports, exports}
use Rattle.walrus_items.specs.Imports.{ModuleImports, imports}
use Rattle.walrus_items.specs.Functions.{FunctionValue, functions}
use Rattle.walrus_model.specs.Abstract.{Name}
use Rattle.walrus_model.specs.Sections.{imported, imported_function}
use Rattle.walrus_base.proofs.Standing.{some_inj}
use Rattle.walrus_code.specs.declared.location.InstrLocId.{InstrLocId}
use Rattle.walrus_contents.specs.declared.parts.Contents.{Contents}
use Rattle.walrus_reading.specs.Renamed.{renamed_from}
use Rattle.walrus_reading.specs.Shown.{LocalValue, local_value, local_values, mend_data, mend_element, mend_function, mend_global, mend_local, mend_memory, mend_table, mend_tag, shown}
use Rattle.walrus_reading.proofs.Whole.{Renames}
use Rattle.walrus_producers.specs.declared.producers.ModuleProducers.{ModuleProducers}
use Rattle.walrus_reading.specs.Parsed.{ItemsAtOwnIds}
use Rattle.walrus_reading.specs.Producers.{HoldsProducers}
use Rattle.walrus_reading.specs.Taken.{AreLocatedIn, IsLocated}

-- ---- own ids

module _ {X : Type 0} (mend : (Option Name → Option Name) → X → X) (own : X → ℕ) (same : (g : Option Name → Option Name) (x : X) → own (mend g x) ≡ own x) where
  -- by the number of the first place
  own_from : (becomes : ℕ → Option Name → Option Name) (k : ℕ) (slots : List (Option X)) → ((i : ℕ) (x : X) → item_at slots i ≡ Some x → own x ≡ k + i) → (i : ℕ) (x : X) → item_at (renamed_from mend becomes k slots) i ≡ Some x → own x ≡ k + i
  own_from becomes k [] h i x e = absurd cc
  own_from becomes k (None ∷ slots) h zero x e = absurd cc
  own_from becomes k (Some y ∷ slots) h zero x e = ap own (sym (some_inj (mend (becomes k) y) x e)) ∙ same (becomes k) y ∙ h zero y refl
  own_from becomes k (s ∷ slots) h (suc i) x e =
      let next : (j : ℕ) → k + suc j ≡ k + 1 + j = λ j. omega arith in
      own_from becomes (k + 1) slots (λ j y at. h (suc j) y at ∙ next j) i x e ∙ sym (next i)

  own_still : (becomes : ℕ → Option Name → Option Name) (old new : List (Option X)) → new ≡ renamed_from mend becomes 0 old → AtOwnIds own old → AtOwnIds own new
  own_still becomes old new are h i x e =
      let zero_on : (j : ℕ) → 0 + j ≡ j = λ j. omega arith in
      own_from becomes 0 old (λ j y at. h j y at ∙ sym (zero_on j)) i x (sym (ap (λ (l : List (Option X)). item_at l i) are) ∙ e) ∙ zero_on i

-- locals as they are shown, and as they are
value_at : (slots : List (Option Local)) (i : ℕ) (x : Local) → item_at slots i ≡ Some x → item_at (map (option_map local_value) slots) i ≡ Some (local_value x)
value_at [] i x e = absurd cc
value_at (s ∷ slots) zero x e = ap (option_map local_value) e
value_at (s ∷ slots) (suc i) x e = value_at slots i x e

local_at : (slots : List (Option Local)) (i : ℕ) (v : LocalValue) → item_at (map (option_map local_value) slots) i ≡ Some v → (x : Local) × (item_at slots i ≡ Some x) × (local_value x ≡ v)
local_at [] i v e = absurd cc
local_at (None ∷ slots) zero v e = absurd cc
local_at (Some x ∷ slots) zero v e = (x, refl, some_inj (local_value x) v e)
local_at (s ∷ slots) (suc i) v e = local_at slots i v e

values_own : (slots : List (Option Local)) → AtOwnIds local_place slots → AtOwnIds (λ (v : LocalValue). v.id) (map (option_map local_value) slots)
values_own slots h i v e = let x = local_at slots i v e in sym (ap (λ (u : LocalValue). u.id) x.2) ∙ h i x.0 x.1

locals_own : (slots : List (Option Local)) → AtOwnIds (λ (v : LocalValue). v.id) (map (option_map local_value) slots) → AtOwnIds local_place slots
locals_own slots h i x e = h i (local_value x) (value_at slots i x e)

pub ids_still : (old new : Contents) → Renames (shown old) (shown new) → ItemsAtOwnIds old → ItemsAtOwnIds new
ids_still old new r h = record {
  functions = own_still mend_function (λ f. f.id) (λ g f. refl) r.functions_become _ _ r.functions h.functions;
  exports = subst (λ (all : ModuleExports). AtOwnIds (λ e. e.id) (exports all)) (sym r.exports) h.exports;
  locals = locals_own (locals new.locals) (own_still mend_local (λ v. v.id) (λ g v. refl) r.locals_become (local_values old.locals) (local_values new.locals) r.locals (values_own (locals old.locals) h.locals));
  imports = subst (λ (all : ModuleImports). AtOwnIds (λ x. x.id) (imports all)) (sym r.imports) h.imports;
  tables = own_still mend_table (λ x. x.id) (λ g x. refl) r.tables_become _ _ r.tables h.tables;
  memories = own_still mend_memory (λ x. x.id) (λ g x. refl) r.memories_become _ _ r.memories h.memories;
  tags = own_still mend_tag (λ x. x.id) (λ g x. refl) r.tags_become _ _ r.tags h.tags;
  globals = own_still mend_global (λ x. x.id) (λ g x. refl) r.globals_become _ _ r.globals h.globals;
  elements = own_still mend_element (λ x. x.id) (λ g x. refl) r.elements_become _ _ r.elements h.elements;
  data_segments = own_still mend_data (λ x. x.id) (λ g x. refl) r.data_become _ _ r.data_segments h.data_segments;
}

-- ---- locations, and producers

one_located : (Gives : ℕ → InstrLocId → Type 0) (body : wire.Body) (g : Option Name → Option Name) (slot : Option FunctionValue) → IsLocated Gives body slot → IsLocated Gives body (option_map (mend_function g) slot)
one_located Gives body g slot h = record {
  value = mend_function g h.value;
  is = ap (option_map (mend_function g)) h.is;
  local = h.local;
  kind = h.kind;
  places = h.places;
}

all_located : (Gives : ℕ → InstrLocId → Type 0) (bodies : List wire.Body) (becomes : ℕ → Option Name → Option Name) (k : ℕ) (slots : List (Option FunctionValue)) → AllZip (IsLocated Gives) bodies slots → AllZip (IsLocated Gives) bodies (renamed_from mend_function becomes k slots)
all_located Gives [] becomes k [] h = tt
all_located Gives [] becomes k (s ∷ slots) h = absurd h
all_located Gives (b ∷ bodies) becomes k [] h = absurd h
all_located Gives (b ∷ bodies) becomes k (s ∷ slots) h = (one_located Gives b (becomes k) s h.0, all_located Gives bodies becomes (k + 1) slots h.1)

behind_located : (Gives : ℕ → InstrLocId → Type 0) (bodies : List wire.Body) (becomes : ℕ → Option Name → Option Name) (k n : ℕ) (slots : List (Option FunctionValue)) → AllZip (IsLocated Gives) bodies (drop n slots) → AllZip (IsLocated Gives) bodies (drop n (renamed_from mend_function becomes k slots))
behind_located Gives bodies becomes k zero slots h = all_located Gives bodies becomes k slots h
behind_located Gives bodies becomes k (suc n) [] h = h
behind_located Gives bodies becomes k (suc n) (s ∷ slots) h = behind_located Gives bodies becomes (k + 1) n slots h

pub located_still : (Gives : ℕ → InstrLocId → Type 0) (r : wire.Module) (old new : Contents) → Renames (shown old) (shown new) → AreLocatedIn Gives r (functions old.funcs) → AreLocatedIn Gives r (functions new.funcs)
located_still Gives r old new is h =
    let n : ℕ = length (imported imported_function 0 r.imports) in
    subst (λ (l : List (Option FunctionValue)). AllZip (IsLocated Gives) r.bodies (drop n l)) (sym is.functions) (behind_located Gives r.bodies is.functions_become 0 n (functions old.funcs) h)

pub produced_still : (r : wire.Module) (old new : Contents) → Renames (shown old) (shown new) → HoldsProducers r old.producers → HoldsProducers r new.producers
produced_still r old new is h = subst (λ (made : ModuleProducers). HoldsProducers r made) (sym is.producers) h
