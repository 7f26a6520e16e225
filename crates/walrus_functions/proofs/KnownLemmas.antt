-- What is known of the types of legacy exception handlers.
use Rattle.std.proofs.Common.{◌≡◌, ℕ, zero, suc, ◌+◌, ◌<◌, ◌≤◌, Bool, true, false, cond, List, [], ◌∷◌, ◌++◌, length, Option, Some, None, option_map, option_and_then, refl, ap, ◌∙◌, sym, subst, arith, eqb-true, ◌⊎◌, ⊎_elim, inl, inr}
use Rattle.std.specs.Prelude.{◌==◌, nat_lt, if◌then◌else◌}
use Rattle.std.proofs.lemmas.List.{length-append}
use Rattle.std.specs.BTreeMap.{is_at}
use Rattle.std.specs.Map.{lookup}
use Rattle.std.specs.Option.{option_eq}
use Rattle.walrus_base.specs.Arena.{item_at}
use Rattle.walrus_base.specs.Id.{place}
use Rattle.walrus_base.specs.Types.{ValType}
use Rattle.walrus_base.specs.declared.id.Id.{Id}
use Rattle.walrus_base.specs.declared.keys.TypeKey.{TypeKey}
use Rattle.walrus_base.specs.Alone.{FoundOrAdded, Found, Added, StandsFirst, alone}
use Rattle.walrus_base.specs.Composite.{FunctionType}
use Rattle.walrus_base.specs.Operators.{BlockType, NoResult, OneResult, OfType, Op}
use Rattle.walrus_base.specs.TypeDef.{TypeDef}
use Rattle.walrus_base.proofs.FunctionSame.{val_same}
use Rattle.walrus_base.proofs.ShapesKept.{item_at-front}
use Rattle.walrus_base.proofs.SlotLemmas.{item_at-append}
use Rattle.walrus_functions.specs.Handlers.{block_results, caught_params, catch_all_type, catch_type, params_of, results_of, tag_params}
use Rattle.walrus_functions.specs.Known.{AreKnown, IsFirst, IsKnown, IsNoted, Known, NotesOnly, are_below, block_is_below, id_at, is_below}
use Rattle.walrus_functions.specs.ReadFunction.{Slots, AddsTypes, StaysInFront}
use Rattle.walrus_functions.specs.Signatures.{first_place, given_by, handler_in, needed_by, pair_in, pair_of, pair_type, taken_by, try_block}
use Rattle.walrus_functions.specs.declared.tag_and_try.TagAndTry.{TagAndTry}
use Rattle.walrus_functions.specs.declared.tag_and_try.TryType.{TryType}
use Rattle.walrus_functions.specs.declared.tag_and_try.TryType.TheVariants as declared_try
use Rattle.walrus_functions.specs.contracts.tag_and_try.TagAndTryOrd.TheImpl as order
use Rattle.walrus_functions.specs.contracts.tag_and_try.TagAndTryOrd.TheImpl.Laws as order_laws
use Rattle.walrus_functions.specs.contracts.tag_and_try.TagAndTryPartialEq.TheImpl as equality
use Rattle.walrus_functions.specs.contracts.tag_and_try.TryTypePartialEq.TheImpl as try_equality
use Rattle.walrus_functions.proofs.HandlerLemmas.{adds_one, caught_is}
use Rattle.wasm_forms.proofs.Bind.{some_same}
use Rattle.std.proofs.lemmas.Bool.{and_parts, and_from as both_true}
use Rattle.walrus_base.proofs.Indexed.{beyond as there_below}

-- ---- what an operator needs is what its tag's type and its try need

taken_same : (types : ℕ → Option TypeDef) (tags : ℕ → Option ℕ) (t : Option ℕ) → tag_params types tags t ≡ taken_by types t
taken_same types tags None = refl
taken_same types tags (Some t) = refl

given_same : (types : ℕ → Option TypeDef) (tags : ℕ → Option ℕ) (b : BlockType) → block_results types tags b ≡ given_by types b
given_same types tags NoResult = refl
given_same types tags (OneResult v) = refl
given_same types tags (OfType t) = refl

catch_all_is : (r : List (ValType ℕ)) → catch_all_type r ≡ catch_type [] r
catch_all_is [] = refl
catch_all_is (v ∷ []) = refl
catch_all_is (v ∷ w ∷ r) = grind arith

pub handler_is : (types : ℕ → Option TypeDef) (tags : ℕ → Option ℕ) (block : Option BlockType) (o : Op) → handler_in types tags block o ≡ needed_by types (pair_in tags block o)
handler_is types tags None o = refl
handler_is types tags (Some b) o = by_tests (option_and_then tags (first_place o.args)) (caught_is types tags o.args) (o.op == 0x07) (o.op == 0x19)
  where
    by_tests : (tag : Option ℕ) → caught_params types tags o.args ≡ tag_params types tags tag → (is_catch is_catch_all : Bool) → (if is_catch then catch_type (caught_params types tags o.args) (block_results types tags b) else (if is_catch_all then catch_all_type (block_results types tags b) else []))
        ≡ needed_by types (if is_catch then Some (tag, b) else (if is_catch_all then Some (None, b) else None))
    by_tests tag caught true is_catch_all = ap (λ (p : List (ValType ℕ)). catch_type p (block_results types tags b)) (caught ∙ taken_same types tags tag) ∙ ap (λ (r : List (ValType ℕ)). catch_type (taken_by types tag) r) (given_same types tags b)
    by_tests tag caught false true = catch_all_is (block_results types tags b) ∙ ap (λ (r : List (ValType ℕ)). catch_type [] r) (given_same types tags b)
    by_tests tag caught false false = refl

-- ---- handlers that are equal to the program

tag_equal : (a b : Option (Id TypeKey)) → option_eq (λ (x y : Id TypeKey). place x == place y) a b ≡ true → option_map place a ≡ option_map place b
tag_equal None None h = refl
tag_equal None (Some b) h = absurd cc
tag_equal (Some a) None h = absurd cc
tag_equal (Some a) (Some b) h = ap (λ (p : ℕ). Some p) (eqb-true (place a) (place b) h)

try_equal : (a b : TryType) → (try_equality.ghosts).eq a b ≡ true → try_block a ≡ try_block b
try_equal declared_try.NoResult declared_try.NoResult h = refl
try_equal declared_try.NoResult (declared_try.OneResult w) h = absurd cc
try_equal declared_try.NoResult (declared_try.OfType t) h = absurd cc
try_equal (declared_try.OneResult v) declared_try.NoResult h = absurd cc
try_equal (declared_try.OneResult v) (declared_try.OneResult w) h = ap (λ (u : ValType ℕ). OneResult u) ((val_same v w).0 h)
try_equal (declared_try.OneResult v) (declared_try.OfType t) h = absurd cc
try_equal (declared_try.OfType s) declared_try.NoResult h = absurd cc
try_equal (declared_try.OfType s) (declared_try.OneResult w) h = absurd cc
try_equal (declared_try.OfType s) (declared_try.OfType t) h = ap (λ (p : ℕ). OfType p) (eqb-true (place s) (place t) h)

abbrev pair_with : Option ℕ → BlockType → Option ℕ × BlockType
pair_with tag block = (tag, block)

both_same : (a c : Option ℕ) (b d : BlockType) → a ≡ c → b ≡ d → pair_with a b ≡ pair_with c d
both_same a c b d p q = cc

equal_pairs : (a b : TagAndTry) → (equality.ghosts).eq a b ≡ true → pair_of a ≡ pair_of b
equal_pairs a b h =
    let parts = and_parts _ _ h in
    both_same _ _ _ _ (tag_equal a.tag_type b.tag_type parts.0) (try_equal a.try_type b.try_type parts.1)

same_pairs : (a b : TagAndTry) → is_at ((order.ghosts).cmp a) b ≡ true → pair_of a ≡ pair_of b
same_pairs a b h = equal_pairs a b (order_laws.matches_eq-law a b ∙ h)

-- ---- ids that are noted

noted_as : {C D : ℕ → Type 0} → ((p : ℕ) → C p → D p) → (handler : TagAndTry) (old new : Known) → NotesOnly C handler old new → NotesOnly D handler old new
noted_as tells handler old new notes other = ⊎_elim (λ same. inl same)
    (λ n. inr (record { id = n.id; is = n.is; same = n.same; tells = tells (place n.id) n.tells })) (notes other)

pub noted_one : (C : ℕ → Type 0) (handler : TagAndTry) (id : Id TypeKey) (old new : Known) → ((other : TagAndTry) → id_at new other ≡ cond (is_at ((order.ghosts).cmp handler) other) (Some id) (id_at old other)) → C (place id) → NotesOnly C handler old new
noted_one C handler id old new are tells other = go (is_at ((order.ghosts).cmp handler) other) refl
  where
    go : (b : Bool) → is_at ((order.ghosts).cmp handler) other ≡ b → (id_at new other ≡ id_at old other) ⊎ IsNoted C handler other (id_at new other)
    go true e = inr (record {
      id = id;
      is = are other ∙ ap (λ (t : Bool). cond t (Some id) (id_at old other)) e;
      same = same_pairs handler other e;
      tells = tells;
    })
    go false e = inl (are other ∙ ap (λ (t : Bool). cond t (Some id) (id_at old other)) e)

pub settled : (bound : ℕ) (handler : TagAndTry) (Tells : ℕ → Type 0) (old new : Known) → are_below bound (pair_of handler) ≡ true → NotesOnly Tells handler old new → NotesOnly (λ p. (are_below bound (pair_of handler) ≡ true) × Tells p) handler old new
settled bound handler Tells old new below notes = noted_as (λ p t. (below, t)) handler old new notes

found_first : (f : FunctionType) (old new : List (Option TypeDef)) (old_names new_names : List (Option (Option (List ℕ)))) (p next : ℕ) → FoundOrAdded f old new old_names new_names p → next ≡ length old → p < next → StandsFirst f old p
found_first f old new old_names new_names p next (Found first same names) at below = first
found_first f old new old_names new_names p next (Added none end slots names) at below = absurd (let e : p ≡ length old = end in omega (arith, e, at, below))

-- an id that is noted where it was found
pub noted_first : (bound : ℕ) (f : FunctionType) (old new : List (Option TypeDef)) (old_names new_names : List (Option (Option (List ℕ)))) (p next : ℕ) → FoundOrAdded f old new old_names new_names p → next ≡ length old → (handler : TagAndTry) (known known_after : Known)
    → NotesOnly (λ (q : ℕ). (are_below bound (pair_of handler) ≡ true) × ((q ≡ p) × (q < next))) handler known known_after → NotesOnly (λ (q : ℕ). (are_below bound (pair_of handler) ≡ true) × StandsFirst f old q) handler known known_after
noted_first bound f old new old_names new_names p next one at handler known known_after notes =
    noted_as (λ q t. let below : p < next = subst (λ (r : ℕ). r < next) t.1.0 t.1.1 in (t.0, subst (λ (r : ℕ). StandsFirst f old r) (sym t.1.0) (found_first f old new old_names new_names p next one at below))) handler known known_after notes

-- ---- what is known

-- the first type of a kind stays the first where types come behind
stands_still : (f : FunctionType) (old new : List (Option TypeDef)) (p : ℕ) → StaysInFront old new → StandsFirst f old p → StandsFirst f new p
stands_still f old new p stays first =
    let under : new ≡ old ++ stays.0 = stays.1 in
    let below : p < length old = there_below old p (alone p f) first.0.0 in (
      (ap (λ (slots : List (Option TypeDef)). item_at slots p) under ∙ item_at-front old stays.0 p (alone p f) first.0.0, first.0.1),
      λ q before there. ⊎_elim (λ l. first.1 q before (l, there.1)) (λ r. absurd (let behind : q ≡ length old + r.0 = r.1 in omega (arith, behind, before, below)))
          (item_at-append old stays.0 q (alone q f) (ap (λ (slots : List (Option TypeDef)). item_at slots q) (sym under) ∙ there.0)),
    )

pub known_none : (bound : ℕ) (types : ℕ → Option TypeDef) (slots : List (Option TypeDef)) (known : Known) → known.entries ≡ [] → AreKnown bound types slots known
known_none bound types slots known none = λ handler id at.
    let nothing : id_at known handler ≡ None = ap (λ (es : List (TagAndTry × Id TypeKey)). lookup (is_at ((order.ghosts).cmp handler)) es) none in
    let wrong : None ≡ Some id = sym nothing ∙ at in
    absurd cc

known_still : (bound : ℕ) (types : ℕ → Option TypeDef) (old new : List (Option TypeDef)) (known : Known) → StaysInFront old new → AreKnown bound types old known → AreKnown bound types new known
known_still bound types old new known stays are = λ handler id at.
    let first = (are handler id at).1 in
    ((are handler id at).0, (first.0, (first.1.0, stands_still first.0 old new (place id) stays first.1.1)))

known_more : (bound : ℕ) (types : ℕ → Option TypeDef) (slots : List (Option TypeDef)) (known known_after : Known) (handler : TagAndTry) → AreKnown bound types slots known → NotesOnly (IsKnown bound types slots (pair_of handler)) handler known known_after → AreKnown bound types slots known_after
known_more bound types slots known known_after handler are notes = λ other id at. ⊎_elim (λ same. are other id (sym same ∙ at))
    (λ n.
    let one : n.id ≡ id = some_same n.id id (sym n.is ∙ at) in
    subst (λ (pair : Option ℕ × BlockType). IsKnown bound types slots pair (place id)) n.same (subst (λ (i : Id TypeKey). IsKnown bound types slots (pair_of handler) (place i)) one n.tells))
    (notes other)

-- a type was found, and noted, or it was added
pub known_next : (bound : ℕ) (types : ℕ → Option TypeDef) (old new : List (Option TypeDef)) (known known_after : Known) (handler : TagAndTry) (f : FunctionType) → AreKnown bound types old known → pair_type types (pair_of handler) ≡ f ∷ [] → NotesOnly (λ p. (are_below bound (pair_of handler) ≡ true) × StandsFirst f old p) handler known known_after → StaysInFront old new → AreKnown bound types new known_after
known_next bound types old new known known_after handler f are is notes stays =
    known_still bound types old new known_after stays (known_more bound types old known known_after handler are (noted_as (λ p told. (told.0, (f, (is, told.1)))) handler known known_after notes))

-- a type that is known is found
pub known_adds : (types : ℕ → Option TypeDef) (s : Slots) (pair : Option ℕ × BlockType) (p : ℕ) → IsFirst types s.types pair p → AddsTypes (pair_type types pair) s s (p ∷ [])
known_adds types s pair p first = subst (λ (fs : List FunctionType). AddsTypes fs s s (p ∷ [])) (sym first.1.0) (adds_one first.0 s s p (Found first.1.1 refl refl))

-- ---- from one body to the next: what stands below a bound is the same where types come behind

pub same_in_front : {T : Type 0} (slots more : List (Option T)) (p : ℕ) → p < length slots → item_at (slots ++ more) p ≡ item_at slots p
same_in_front [] more p below = absurd (omega (arith, below))
same_in_front (s ∷ slots) more zero below = refl
same_in_front (s ∷ slots) more (suc p) below = same_in_front slots more p (let left : suc p < suc (length slots) = below in omega (arith, left))

below_is : (p n : ℕ) → nat_lt p n ≡ true → p < n
below_is p n below = grind arith

taken_later : (slots more : List (Option TypeDef)) (t : Option ℕ) → is_below (length slots) t ≡ true → taken_by (item_at (slots ++ more)) t ≡ taken_by (item_at slots) t
taken_later slots more None below = refl
taken_later slots more (Some p) below = ap params_of (same_in_front slots more p (below_is p (length slots) below))

given_later : (slots more : List (Option TypeDef)) (b : BlockType) → block_is_below (length slots) b ≡ true → given_by (item_at (slots ++ more)) b ≡ given_by (item_at slots) b
given_later slots more NoResult below = refl
given_later slots more (OneResult v) below = refl
given_later slots more (OfType p) below = ap results_of (same_in_front slots more p (below_is p (length slots) below))

type_later : (slots more : List (Option TypeDef)) (pair : Option ℕ × BlockType) → are_below (length slots) pair ≡ true → pair_type (item_at (slots ++ more)) pair ≡ pair_type (item_at slots) pair
type_later slots more pair below =
    let parts = and_parts _ _ below in
    ap (λ (p : List (ValType ℕ)). catch_type p (given_by (item_at (slots ++ more)) pair.1)) (taken_later slots more pair.0 parts.0)
    ∙ ap (λ (r : List (ValType ℕ)). catch_type (taken_by (item_at slots) pair.0) r) (given_later slots more pair.1 parts.1)

lower : (p m n : ℕ) → m ≤ n → nat_lt p m ≡ true → nat_lt p n ≡ true
lower p m n le below = grind arith

is_below_later : (m n : ℕ) (t : Option ℕ) → m ≤ n → is_below m t ≡ true → is_below n t ≡ true
is_below_later m n None le below = refl
is_below_later m n (Some p) le below = lower p m n le below

block_below_later : (m n : ℕ) (b : BlockType) → m ≤ n → block_is_below m b ≡ true → block_is_below n b ≡ true
block_below_later m n NoResult le below = refl
block_below_later m n (OneResult v) le below = refl
block_below_later m n (OfType p) le below = lower p m n le below

below_later : (m n : ℕ) (pair : Option ℕ × BlockType) → m ≤ n → are_below m pair ≡ true → are_below n pair ≡ true
below_later m n pair le below =
    let parts = and_parts _ _ below in
    both_true _ _ (is_below_later m n pair.0 le parts.0) (block_below_later m n pair.1 le parts.1)

-- what was known at the begin of a body is known of all the types behind it
pub known_later : (old new : List (Option TypeDef)) (known : Known) → StaysInFront old new → AreKnown (length old) (item_at old) new known → AreKnown (length new) (item_at new) new known
known_later old new known stays are = λ handler id at.
    let one = are handler id at in
    let under : new ≡ old ++ stays.0 = stays.1 in
    let count : length new ≡ length old + length stays.0 = ap length under ∙ length-append old stays.0 in
    let more : length old ≤ length new = omega (arith, count) in
    let same : pair_type (item_at new) (pair_of handler) ≡ pair_type (item_at old) (pair_of handler) = ap (λ (slots : List (Option TypeDef)). pair_type (item_at slots) (pair_of handler)) under ∙ type_later old stays.0 (pair_of handler) one.0 in
    (below_later (length old) (length new) (pair_of handler) more one.0, (one.1.0, (same ∙ one.1.1.0, one.1.1.1)))
