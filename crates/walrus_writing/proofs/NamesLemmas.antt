-- Names that are chosen, types that aren't there, and what is lent in place of what is held.
use Rattle.std.proofs.Common.{◌≡◌, ℕ, zero, suc, ◌+◌, ◌<◌, ◌^◌, Bool, true, false, List, [], ◌∷◌, map, length, refl, sym, ap, ap₂, ◌∙◌, subst, arith, Some, None}
use Rattle.std.specs.Prelude.{◌↔◌, IsSome, IsTrue, Option, Result}
use Rattle.std.specs.Global.{Vec}
use Rattle.std.proofs.lemmas.List.{length-append, length-map}
use mathlib.Core.Path.{fun_ext}
use Rattle.wasm_payloads.specs.declared.naming.NameSpace.{NameSpace}
use Rattle.wasm_payloads.specs.declared.naming.NameSpace.TheVariants as spaces
use Rattle.wasm_payloads.specs.Spelling.{NameMap, NameText}
use Rattle.walrus_base.specs.Arena.{entries, item_at}
use Rattle.walrus_base.specs.Id.{place}
use Rattle.walrus_base.specs.declared.id.Id.{Id}
use Rattle.walrus_base.specs.Operators.{Functions}
use Rattle.walrus_base.specs.TypeSlots.{defs, names}
use Rattle.walrus_base.specs.declared.types.Type.{«Type»}
use Rattle.walrus_model.specs.Abstract.{Name}
use Rattle.walrus_base.proofs.Lists.{map-map}
use Rattle.walrus_items.specs.declared.error.Error.{Error}
use Rattle.walrus_plan.specs.Places.{places}
use Rattle.walrus_plan.specs.declared.plan.Plan.{Plan}
use Rattle.walrus_writing.specs.Names.{SpellsNames, if_chosen}

-- ---- names that are chosen

pub chosen_spelled : (b : Bool) (said raw : NameText) (result : Result (Option (Vec ℕ)) Error) → b ≡ true → raw ≡ said → SpellsNames raw result → SpellsNames (if_chosen b said) result
chosen_spelled true said raw result chosen same spelled = subst (λ (t : NameText). SpellsNames t result) same spelled
chosen_spelled false said raw result chosen same spelled = absurd cc

-- ---- a type that isn't there has no name

pub not_named : (types : List (Option «Type»)) (i : ℕ) → (IsSome (item_at (defs types) i) → ⊥) → item_at (names types) i ≡ None
not_named [] i none = refl
not_named (None ∷ types) zero none = refl
not_named (Some t ∷ types) zero none = absurd (none refl)
not_named (t ∷ types) (suc i) none = not_named types i none

pub untrue : (b : Bool) (P : Type 0) → IsTrue b ↔ P → b ≡ false → P → ⊥
untrue true P h is p = absurd cc
untrue false P h is p = let clash : false ≡ true = h.1 p in absurd cc

-- ---- what is lent in place of what is held

pub few_of : {K : Type 0} (ids lent : List (Id K)) → lent ≡ ids → length (map place ids) < 2 ^ 32 → length lent < 2 ^ 32
few_of {K} ids lent same few = omega (arith, few, ap length same, length-map ids (λ (id : Id K). place id))

-- where all functions have an index, so has the first own one, and each behind it
pub few_brought : (plan : Plan) → length (places plan Functions) < 2 ^ 32 → length plan.brought_functions.items < 2 ^ 32
few_brought plan few =
    omega (arith, few, length-append (map place plan.brought_functions.items) (map place plan.own_functions.items), length-map plan.brought_functions.items place)

pub few_behind : (plan : Plan) (first many : ℕ) → first ≡ length plan.brought_functions.items → many ≡ length plan.own_functions.items → length (places plan Functions) < 2 ^ 32 → first + many < 2 ^ 32
few_behind plan first many is as_many few =
    omega (arith, is, as_many, few, length-append (map place plan.brought_functions.items) (map place plan.own_functions.items), length-map plan.brought_functions.items place, length-map plan.own_functions.items place)

pub along : {K : Type 0} (name : ℕ → Option Name) (ids lent : List (Id K)) (raw : NameMap) → lent ≡ ids → raw ≡ entries (map (λ id. name (place id)) lent) → raw ≡ entries (map name (map place ids))
along {K} name ids lent raw same is = is ∙ ap (λ (l : List (Id K)). entries (map (λ (id : Id K). name (place id)) l)) same ∙ ap entries (sym (map-map name (λ (id : Id K). place id) ids))

pub spaces_same : (items said : NameSpace → NameMap) → items spaces.Functions ≡ said spaces.Functions → items spaces.Types ≡ said spaces.Types → items spaces.Tables ≡ said spaces.Tables → items spaces.Memories ≡ said spaces.Memories
    → items spaces.Globals ≡ said spaces.Globals → items spaces.Elements ≡ said spaces.Elements → items spaces.DataSegments ≡ said spaces.DataSegments → items spaces.Tags ≡ said spaces.Tags → items ≡ said
spaces_same items said functions types tables memories globals elements data_segments tags = fun_ext each
  where
    each : (s : NameSpace) → items s ≡ said s
    each spaces.Functions = functions
    each spaces.Types = types
    each spaces.Tables = tables
    each spaces.Memories = memories
    each spaces.Globals = globals
    each spaces.Elements = elements
    each spaces.DataSegments = data_segments
    each spaces.Tags = tags

pub text_same : (title told : Option Name) (items said : NameSpace → NameMap) (locals others : List (ℕ × NameMap)) → title ≡ told → items ≡ said → locals ≡ others
    → (let t : NameText = record { module_name = title; items = items; locals = locals } in t) ≡ record { module_name = told; items = said; locals = others }
text_same title told items said locals others a b c =
    ap₂ (λ (o : Option Name) (i : NameSpace → NameMap). record { module_name = o; items = i; locals = locals }) a b
    ∙ ap (λ (l : List (ℕ × NameMap)). record { module_name = told; items = said; locals = l }) c
