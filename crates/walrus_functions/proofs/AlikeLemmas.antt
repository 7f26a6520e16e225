-- Function types that take the same, or that give back the same.
use Rattle.std.proofs.Common.{◌≡◌, ℕ, ◌+◌, ◌<◌, Bool, true, false, cond, List, [], ◌++◌, length, map, Option, Some, None, option_map, refl, ap, ◌∙◌, sym, subst, arith}
use Rattle.std.proofs.lemmas.List.{length-append}
use Rattle.std.specs.BTreeMap.{is_at}
use Rattle.std.specs.Cmp.Lexicographic.{pointwise}
use Rattle.std.specs.Map.{lookup}
use Rattle.std.specs.Ordering.{on, nat_cmp}
use Rattle.walrus_base.specs.Arena.{item_at}
use Rattle.walrus_base.specs.Id.{place}
use Rattle.walrus_base.specs.Types.{ValType}
use Rattle.walrus_base.specs.Value.{val_type}
use Rattle.walrus_base.specs.contracts.value.ValTypePartialEq.TheImpl as equality
use Rattle.walrus_base.specs.declared.id.Id.{Id}
use Rattle.walrus_base.specs.declared.keys.TypeKey.{TypeKey}
use Rattle.walrus_base.specs.declared.value.ValType.{ValType as DeclaredValType}
use Rattle.walrus_base.specs.TypeDef.{TypeDef}
use Rattle.walrus_base.proofs.FunctionSame.{pointwise_same, val_same}
use Rattle.walrus_functions.specs.Alike.{AreFirsts, AreLike, Firsts, first_of, values_in}
use Rattle.walrus_functions.specs.Handlers.{catch_type, params_of, results_of}
use Rattle.walrus_functions.specs.Known.{AreOf}
use Rattle.walrus_functions.specs.ReadFunction.{StaysInFront}
use Rattle.walrus_functions.specs.Signatures.{given_by, pair_of, pair_type, taken_by, try_block}
use Rattle.walrus_functions.specs.declared.handlers.HandlerTypes.{HandlerTypes}
use Rattle.walrus_functions.specs.declared.signatures.Side.{Side}
use Rattle.walrus_functions.specs.declared.signatures.Side.TheVariants.{Params, Results}
use Rattle.walrus_functions.specs.declared.tag_and_try.TagAndTry.{TagAndTry}
use Rattle.walrus_functions.proofs.KnownLemmas.{known_later, known_none, same_in_front}
use Rattle.wasm_forms.proofs.Bind.{some_same}

-- ---- two types

-- types whose values are equal to the program
pub like_by_values : (side : Side) (bound : ℕ) (types : ℕ → Option TypeDef) (p q : ℕ) (xs ys : List DeclaredValType) → p < bound → q < bound → map val_type xs ≡ values_in side types p → map val_type ys ≡ values_in side types q → pointwise (equality.ghosts).eq xs ys ≡ true → AreLike side bound types p q
like_by_values side bound types p q xs ys here there left right equal = (here, (there, sym left ∙ (pointwise_same _ val_type val_same xs ys).0 equal ∙ right))

-- ---- the types that were met

pub alike_none : (side : Side) (bound : ℕ) (types : ℕ → Option TypeDef) (firsts : Firsts) → firsts.entries ≡ [] → AreFirsts side bound types firsts
alike_none side bound types firsts none = λ id first at.
    let nothing : first_of firsts id ≡ None = ap (λ (es : List (Id TypeKey × Id TypeKey)). lookup (is_at (on place nat_cmp id)) es) none in
    let wrong : None ≡ Some first = sym nothing ∙ at in
    absurd cc

same_place : (id other : Id TypeKey) → is_at (on place nat_cmp id) other ≡ true → place id ≡ place other
same_place id other at = grind arith

-- one more type is met
pub alike_more : (side : Side) (bound : ℕ) (types : ℕ → Option TypeDef) (old new : Firsts) (id first : Id TypeKey) → AreFirsts side bound types old → ((other : Id TypeKey) → first_of new other ≡ cond (is_at (on place nat_cmp id) other) (Some first) (first_of old other)) → AreLike side bound types (place id) (place first) → AreFirsts side bound types new
alike_more side bound types old new id first are updates like other found at = go (is_at (on place nat_cmp id) other) refl
  where
    go : (b : Bool) → is_at (on place nat_cmp id) other ≡ b → AreLike side bound types (place other) (place found)
    go true e =
        let one : first ≡ found = some_same first found (sym (updates other ∙ ap (λ (t : Bool). cond t (Some first) (first_of old other)) e) ∙ at) in
        subst (λ (p : ℕ). AreLike side bound types p (place found)) (same_place id other e) (subst (λ (i : Id TypeKey). AreLike side bound types (place id) (place i)) one like)
    go false e = are other found (sym (updates other ∙ ap (λ (t : Bool). cond t (Some first) (first_of old other)) e) ∙ at)

-- ---- from one body to the next

values_later : (side : Side) (slots more : List (Option TypeDef)) (p : ℕ) → p < length slots → values_in side (item_at (slots ++ more)) p ≡ values_in side (item_at slots) p
values_later Params slots more p below = ap params_of (same_in_front slots more p below)
values_later Results slots more p below = ap results_of (same_in_front slots more p below)

pub alike_later : (side : Side) (old new : List (Option TypeDef)) (firsts : Firsts) → StaysInFront old new → AreFirsts side (length old) (item_at old) firsts → AreFirsts side (length new) (item_at new) firsts
alike_later side old new firsts stays are = λ id first at.
    let like = are id first at in
    let count : length new ≡ length old + length stays.0 = ap length stays.1 ∙ length-append old stays.0 in
    let later : (p : ℕ) → p < length old → values_in side (item_at new) p ≡ values_in side (item_at old) p = λ p below. ap (λ (slots : List (Option TypeDef)). values_in side (item_at slots) p) stays.1 ∙ values_later side old stays.0 p below in
    let here : place id < length old = like.0 in
    let there : place first < length old = like.1.0 in
    (omega (arith, here, count), (omega (arith, there, count), later (place id) here ∙ like.1.1 ∙ sym (later (place first) there)))

-- ---- handlers

-- a handler needs what another needs whose tag takes the same and whose try gives back the same
pub needs_same : (types : ℕ → Option TypeDef) (a b : TagAndTry) → taken_by types (option_map place a.tag_type) ≡ taken_by types (option_map place b.tag_type) → given_by types (try_block a.try_type) ≡ given_by types (try_block b.try_type) → pair_type types (pair_of a) ≡ pair_type types (pair_of b)
needs_same types a b taken given =
    ap (λ (p : List (ValType ℕ)). catch_type p (given_by types (try_block a.try_type))) taken
    ∙ ap (λ (r : List (ValType ℕ)). catch_type (taken_by types (option_map place b.tag_type)) r) given

-- ---- all that is held of types

pub none_held : (bound : ℕ) (types : ℕ → Option TypeDef) (slots : List (Option TypeDef)) (handlers : HandlerTypes) → handlers.known.entries ≡ [] → handlers.params.first.entries ≡ [] → handlers.results.first.entries ≡ [] → AreOf bound types slots handlers
none_held bound types slots handlers no_known no_params no_results = record {
  known = known_none bound types slots handlers.known no_known;
  params = alike_none Params bound types handlers.params.first no_params;
  results = alike_none Results bound types handlers.results.first no_results;
}

-- what was so at the begin of a body is so of all the types behind it
pub held_later : (old new : List (Option TypeDef)) (handlers : HandlerTypes) → StaysInFront old new → AreOf (length old) (item_at old) new handlers → AreOf (length new) (item_at new) new handlers
held_later old new handlers stays are = record {
  known = known_later old new handlers.known stays are.known;
  params = alike_later Params old new handlers.params.first stays are.params;
  results = alike_later Results old new handlers.results.first stays are.results;
}

-- two ways to say what types indices name
pub bound_held : (bound other : ℕ) (types under : ℕ → Option TypeDef) (slots : List (Option TypeDef)) (handlers : HandlerTypes) → bound ≡ other → types ≡ under → AreOf other under slots handlers → AreOf bound types slots handlers
bound_held bound other types under slots handlers is same are = subst (λ (b : ℕ). AreOf b types slots handlers) (sym is) (subst (λ (ts : ℕ → Option TypeDef). AreOf other ts slots handlers) (sym same) are)
