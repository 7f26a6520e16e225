-- The index of types of functions, where groups are added and deleted.
use Rattle.std.proofs.Common.{◌≡◌, ◌≢◌, ℕ, zero, suc, ◌+◌, ◌<◌, ◌≤◌, option_map, Bool, true, false, cond, List, [], ◌∷◌, ◌++◌, length, map, slice_get, get_or, subst, Option, Some, None, IsTrue, ap, sym, ◌∙◌, refl, arith, eqb-true, ◌⊎◌, inl, inr, ⊎_elim}
use Rattle.std.specs.List.{range_with_len}
use Rattle.std.specs.Prelude.{MatchOption}
use Rattle.std.proofs.lemmas.List.{map-append, length-append, length-map}
use Rattle.std.proofs.lemmas.Option.{get_or_from_slice_get}
use Rattle.walrus_base.specs.Arena.{item_at, kept_by}
use Rattle.walrus_base.specs.Id.{place}
use Rattle.walrus_base.specs.Types.{ValType, Func, comp_names}
use Rattle.walrus_base.specs.declared.id.Id.{Id}
use Rattle.walrus_base.specs.declared.keys.TypeKey.{TypeKey}
use Rattle.walrus_base.specs.Alone.{alone, IsIndexed, AreInOrder, AreNotNamed, NamesNot, StandsAt, StandsFirst, StandsNowhere}
use Rattle.walrus_base.specs.Composite.{FunctionType, function_type, function_comp, new_sub}
use Rattle.walrus_base.specs.Index.{places_at}
use Rattle.walrus_base.specs.PlaceList.{has, rise}
use Rattle.walrus_base.specs.OwnIds.{under_own_ids}
use Rattle.walrus_base.specs.TypeDef.{TypeDef, type_def, type_place, places_between}
use Rattle.walrus_base.specs.TypeSlots.{defs, new_group, cleared}
use Rattle.walrus_base.specs.declared.composite.FunctionType.{FunctionType as DeclaredFunctionType}
use Rattle.walrus_base.specs.declared.composite.NewType.{NewType}
use Rattle.walrus_base.specs.declared.index.FunctionIndex.{FunctionIndex}
use Rattle.walrus_base.specs.declared.types.Type.{«Type»}
use Rattle.walrus_base.specs.contracts.composite.FunctionTypePartialEq.TheImpl as equality
use Rattle.walrus_base.proofs.FunctionSame.{function_same}
use Rattle.walrus_base.proofs.Kept.{map-kept_by, kept_was}
use Rattle.walrus_base.proofs.Noted.{or_cases}
use Rattle.walrus_base.proofs.Ordered.{earlier, is_there, rise-most}
use Rattle.walrus_base.proofs.OwnIdLemmas.{own_place}
use Rattle.walrus_base.proofs.Places.{between_count}
use Rattle.walrus_base.proofs.SlotLemmas.{item_at-append, item_at-cleared, item_at-map, map-cleared}

-- each member of a row has the row's group
pub member_group : (group : List ℕ) (members : List NewType) (k : ℕ) (x : TypeDef) → item_at (map (λ member. Some (record { group = group; sub = new_sub member })) members) k ≡ Some x → x.group ≡ group
member_group group [] k x h = absurd cc
member_group group (m ∷ ms) zero x h = cc
member_group group (m ∷ ms) (suc k) x h = member_group group ms k x h

-- a type that stands at a place is under what it is, if it doesn't name itself
abbrev IsNoted : FunctionIndex → Option «Type» → Type 0
IsNoted index slot = (ty : «Type») (f : DeclaredFunctionType) → slot ≡ Some ty → type_def ty ≡ alone (type_place ty) (function_type f) → NamesNot (function_type f) (type_place ty) → IsTrue (has (places_at index f) (type_place ty))

pub length-defs : (places : List (Option «Type»)) → length (defs places) ≡ length places
length-defs [] = refl
length-defs (x ∷ xs) = ap (λ n. suc n) (length-defs xs)

-- the places of a group that is added
pub added_places : (old added : List (Option «Type»)) (members : List NewType) (first end : ℕ) → first ≡ length old → end ≡ length (old ++ added) → defs added ≡ new_group first members
    → places_between first end ≡ range_with_len (length (defs old)) (length members)
added_places old added members first end at all group =
    let many : length added ≡ length members = sym (length-defs added) ∙ ap (λ slots. length slots) group ∙ length-map members _ in
    let sum : length (old ++ added) ≡ length old + length added = length-append old added in
    between_count first end (length members) (omega (arith, at, all, sum, many)) ∙ ap (λ n. range_with_len n (length members)) (at ∙ sym (length-defs old))

pub some_same : {T : Type 0} (x y : T) → Some x ≡ Some y → x ≡ y
some_same x y h = cc

pub less_or_same : (k i : ℕ) → k < i + 1 → (k < i) ⊎ (k ≡ i)
less_or_same zero zero lt = inr refl
less_or_same zero (suc i) lt = inl (omega arith)
less_or_same (suc k) zero lt = absurd (omega (arith, lt))
less_or_same (suc k) (suc i) lt =
    ⊎_elim (λ l. let less : k < i = l in inl (omega (arith, less))) (λ r. inr (ap (λ n. suc n) r)) (less_or_same k i (omega (arith, lt)))

-- where a type is seen at a place, one is there
seen_there : (slot : Option «Type») (x : TypeDef) → option_map type_def slot ≡ Some x → (ty : «Type») × (slot ≡ Some ty) × (type_def ty ≡ x)
seen_there None x h = absurd cc
seen_there (Some ty) x h = (ty, refl, some_same _ _ h)

-- types come behind the places that are noted
pub indexed-append : (index : FunctionIndex) (noted : ℕ) (old added : List (Option «Type»)) → noted ≤ length old → IsIndexed index noted old → IsIndexed index noted (old ++ added)
indexed-append index noted old added within known p f lt h =
    let apart : item_at (defs old ++ defs added) p ≡ Some (alone p (function_type f)) = ap (λ slots. item_at slots p) (sym (map-append _ old added)) ∙ h.0 in
    ⊎_elim (λ l. known p f lt (l, h.1))
    (λ r. absurd (let at : p ≡ length (defs old) + r.0 = r.1 in let all : length (defs old) ≡ length old = length-defs old in omega (arith, lt, within, at, all)))
    (item_at-append (defs old) (defs added) p (alone p (function_type f)) apart)

-- the index has more, the types are the same
pub indexed-stays : (before after : FunctionIndex) (noted : ℕ) (places : List (Option «Type»)) → IsIndexed before noted places
    → ((f : DeclaredFunctionType) (p : ℕ) → IsTrue (has (places_at before f) p) → IsTrue (has (places_at after f) p)) → IsIndexed after noted places
indexed-stays before after noted places known stays p f lt h = stays f p (known p f lt h)

-- the next place is noted
pub indexed-next : (before after : FunctionIndex) (noted : ℕ) (places : List (Option «Type»)) (slot : Option «Type») → IsIndexed before noted places
    → ((f : DeclaredFunctionType) (p : ℕ) → IsTrue (has (places_at before f) p) → IsTrue (has (places_at after f) p)) → IsNoted after slot
    → item_at places noted ≡ slot → IsTrue (under_own_ids 0 places) → IsIndexed after (noted + 1) places
indexed-next before after noted places slot known stays is_noted at own p f lt h = ⊎_elim
    (λ less. stays f p (known p f less h))
    (λ same.
    let here : option_map type_def slot ≡ Some (alone p (function_type f)) =
    ap (λ s. option_map type_def s) (sym at ∙ ap (λ n. item_at places n) (sym same)) ∙ sym (item_at-map type_def places p) ∙ h.0 in
    let found = seen_there slot (alone p (function_type f)) here in
    let ty : «Type» = found.0 in
    let is : slot ≡ Some ty = found.1 in
    let def : type_def ty ≡ alone p (function_type f) = found.2 in
    let its : type_place ty ≡ p = own_place 0 places p ty own (ap (λ n. item_at places n) same ∙ at ∙ is) ∙ omega arith in
    ap (λ q. has (places_at after f) q) (sym its)
    ∙ is_noted ty f is (def ∙ ap (λ q. alone q (function_type f)) (sym its)) (ap (λ q. has (comp_names (function_comp (function_type f))) q) its ∙ h.1))
    (less_or_same p noted lt)

-- places are emptied
pub indexed-cleared : (index : FunctionIndex) (noted : ℕ) (emptied : List ℕ) (places : List (Option «Type»)) → IsIndexed index noted places → IsIndexed index noted (cleared emptied places)
indexed-cleared index noted emptied places known p f lt h =
    known p f lt (item_at-cleared emptied (defs places) p (alone p (function_type f)) (ap (λ slots. item_at slots p) (sym (map-cleared type_def emptied places)) ∙ h.0), h.1)

-- the same is seen of the types
pub indexed-seen : (index : FunctionIndex) (noted : ℕ) (old new : List (Option «Type»)) → IsIndexed index noted old → defs new ≡ defs old → IsIndexed index noted new
indexed-seen index noted old new known same p f lt h = known p f lt (ap (λ slots. item_at slots p) (sym same) ∙ h.0, h.1)

-- marked places are kept
pub indexed-kept : (index : FunctionIndex) (noted : ℕ) (keeps : ℕ → Bool) (places : List (Option «Type»)) → IsIndexed index noted places → IsIndexed index noted (kept_by keeps places)
indexed-kept index noted keeps places known p f lt h =
    known p f lt (kept_was keeps (defs places) p (alone p (function_type f)) (ap (λ slots. item_at slots p) (sym (map-kept_by type_def keeps places)) ∙ h.0), h.1)

-- a place that is in a list of ids is that of one of them
has_id : (ids : List (Id TypeKey)) (p : ℕ) → has (map place ids) p ≡ true → (k : ℕ) × (id : Id TypeKey) × (k < length ids) × (slice_get ids k ≡ Some id) × (place id ≡ p)
has_id [] p h = absurd cc
has_id (x ∷ xs) p h =
    ⊎_elim (λ l. (0, x, omega arith, refl, eqb-true _ _ l)) (λ r. let found = has_id xs p r in (suc found.0, found.1, (let lt : found.0 < length xs = found.2 in omega (arith, lt)), found.3, found.4)) (or_cases _ _ h)

-- where none of the ids under a type of functions is that type, none is at the places that are noted
pub not_found : (index : FunctionIndex) (noted : ℕ) (places : List (Option «Type»)) (ids : List (Id TypeKey)) (f : DeclaredFunctionType) → IsIndexed index noted places → map (λ id. place id) ids ≡ places_at index f
    → ((k : ℕ) (id : Id TypeKey) → k < length ids → slice_get ids k ≡ Some id → item_at (defs places) (place id) ≢ Some (alone (place id) (function_type f)))
    → StandsNowhere (function_type f) (defs places) 0 noted
not_found index noted places ids f known are none p low lt h =
    let found = has_id ids p (ap (λ ps. has ps p) are ∙ known p f lt h) in
    none found.0 found.1 found.2 found.3 (ap (λ q. item_at (defs places) q) found.4 ∙ h.0 ∙ ap (λ q. Some (alone q (function_type f))) (sym found.4))

-- the first of the ids under a type of functions that is that type is the first such type
pub found_first : (index : FunctionIndex) (places : List (Option «Type»)) (ids : List (Id TypeKey)) (f : DeclaredFunctionType) (i end : ℕ) (id : Id TypeKey)
    → IsIndexed index end places → AreInOrder index end → AreNotNamed index → map (λ id. place id) ids ≡ places_at index f
    → ((k : ℕ) (id : Id TypeKey) → k < i → slice_get ids k ≡ Some id → item_at (defs places) (place id) ≢ Some (alone (place id) (function_type f)))
    → slice_get ids i ≡ Some id → item_at (defs places) (place id) ≡ Some (alone (place id) (function_type f)) → StandsFirst (function_type f) (defs places) (place id)
found_first index places ids f i end id known ordered named are none at is = (
  (is, named f (place id) (ap (λ ps. has ps (place id)) (sym are) ∙ is_there ids i id at)),
  λ p lt h.
      let most : place id ≤ end = rise-most 0 (map place ids) end (place id) (ap (λ ps. rise 0 ps end) are ∙ ordered f) (is_there ids i id at) in
      let before = earlier 0 ids end i id p (ap (λ ps. rise 0 ps end) are ∙ ordered f) at (ap (λ ps. has ps p) are ∙ known p f (omega (arith, lt, most)) h) lt in
      none before.0 before.1 before.2 before.3 (ap (λ q. item_at (defs places) q) before.4 ∙ h.0 ∙ ap (λ q. Some (alone q (function_type f))) (sym before.4)),
)

abbrev function_with : List (ValType ℕ) → List (ValType ℕ) → FunctionType
function_with params results = record { params = params; results = results }

same_parts : (f g : FunctionType) → f.params ≡ g.params → f.results ≡ g.results → f ≡ g
same_parts f g p r = ap (λ x. function_with x f.results) p ∙ ap (λ x. function_with g.params x) r

same_function : (f g : FunctionType) (q p : ℕ) → alone q f ≡ alone p g → f ≡ g
same_function f g q p h = let c : Func f.params f.results ≡ Func g.params g.results = ap (λ t. t.sub.comp) h in let p : f.params ≡ g.params = cc in let r : f.results ≡ g.results = cc in same_parts f g p r

-- a type that is alone, with another type of functions
pub alone_same : (o : Option TypeDef) (x : TypeDef) (q p : ℕ) (f g : DeclaredFunctionType) (r : Bool) → o ≡ Some x → q ≡ p → x ≡ alone q (function_type f) → r ≡ (equality.ghosts).eq f g
    → (IsTrue r → o ≡ Some (alone p (function_type g))) × (o ≡ Some (alone p (function_type g)) → IsTrue r)
alone_same o x q p f g r is at here equal = (
  λ t. let same : function_type f ≡ function_type g = (function_same f g).0 (sym equal ∙ t) in
      is ∙ ap (λ y. Some y) (here ∙ ap (λ n. alone n (function_type f)) at ∙ ap (λ (t : FunctionType). alone p t) same),
  λ h. equal ∙ (function_same f g).1 (same_function (function_type f) (function_type g) q p (some_same _ _ (ap (λ y. Some y) (sym here) ∙ sym is ∙ h))),
)

-- and with none
pub alone_here : (o : Option TypeDef) (x : TypeDef) (q p : ℕ) (f : FunctionType) → o ≡ Some x → q ≡ p → o ≡ Some (alone p f) → x ≡ alone q f
alone_here o x q p f is at h = some_same _ _ (sym is ∙ h) ∙ ap (λ n. alone n f) (sym at)

-- one of two, by a test
pub either : {X : Type 0} (P : X → Type 0) (test : Bool) (new left right : X) → new ≡ cond test left right → P left → P right → P new
either P true new left right is p q = rw is p
either P false new left right is p q = rw is q

-- one more of a row was seen
pub seen_more : {X : Type 0} (P : X → Type 0) (xs : List X) (i : ℕ) (d : X) → ((k : ℕ) (x : X) → k < i → slice_get xs k ≡ Some x → P x) → P (get_or xs i d) → (k : ℕ) (x : X) → k < i + 1 → slice_get xs k ≡ Some x → P x
seen_more P xs i d before here k x lt at = ⊎_elim
    (λ less. before k x less at)
    (λ same. subst P (get_or_from_slice_get xs i x d (ap (slice_get xs) (sym same) ∙ at)) here)
    (less_or_same k i lt)

pub beyond : {T : Type 0} (xs : List (Option T)) (p : ℕ) (x : T) → item_at xs p ≡ Some x → p < length xs
beyond [] p x h = absurd cc
beyond (y ∷ xs) zero x h = omega arith
beyond (y ∷ xs) (suc p) x h = let lt : p < length xs = beyond xs p x h in omega (arith, lt)

less_or_more : (p noted : ℕ) → (p < noted) ⊎ (noted ≤ p)
less_or_more p zero = inr (omega arith)
less_or_more zero (suc n) = inl (omega arith)
less_or_more (suc p) (suc n) = ⊎_elim (λ l. let lt : p < n = l in inl (omega (arith, lt))) (λ r. let le : n ≤ p = r in inr (omega (arith, le))) (less_or_more p n)

-- none stands at the places that are noted, and none behind them
nowhere : (f : FunctionType) (slots : List (Option TypeDef)) (noted : ℕ) → StandsNowhere f slots 0 noted → StandsNowhere f slots noted (length slots) → (p : ℕ) → StandsAt f slots p → ⊥
nowhere f slots noted before behind p h = ⊎_elim (λ less. before p (omega arith) less h) (λ more. behind p more (beyond slots p (alone p f) h.0) h) (less_or_more p noted)

-- none stands at the places that are noted, and none from there on before the one that does
first_behind : (f : FunctionType) (slots : List (Option TypeDef)) (noted place : ℕ) → StandsNowhere f slots 0 noted → StandsAt f slots place → StandsNowhere f slots noted place → StandsFirst f slots place
first_behind f slots noted place before here behind = (here, λ p lt h. ⊎_elim (λ less. before p (omega arith) less h) (λ more. behind p more lt h) (less_or_more p noted))

-- the first one, or none, is found behind the places that are noted, where none stands at these
pub nowhere_or_behind : (f : FunctionType) (slots : List (Option TypeDef)) (noted : ℕ) (found : Option (Id TypeKey)) → StandsNowhere f slots 0 noted
    → MatchOption found (StandsNowhere f slots noted (length slots)) (λ id. StandsAt f slots (place id) × StandsNowhere f slots noted (place id))
    → MatchOption found ((p : ℕ) → StandsAt f slots p → ⊥) (λ id. StandsFirst f slots (place id))
nowhere_or_behind f slots noted None before h = nowhere f slots noted before h
nowhere_or_behind f slots noted (Some id) before h = first_behind f slots noted (place id) before h.0 h.1
