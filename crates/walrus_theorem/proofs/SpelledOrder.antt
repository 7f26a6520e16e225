-- In a module that has a spelling, declared locals stand in order, and custom sections in their groups.
use Rattle.std.proofs.Common.{◌≡◌, ℕ, zero, suc, ◌+◌, ◌<◌, ◌≤◌, Bool, true, false, List, [], ◌∷◌, ◌++◌, length, map, zip, refl, sym, ap, ap₂, ◌∙◌, subst, arith, inl, inr, ⊎_elim}
use Rattle.std.specs.Prelude.{Option, Some, All, Contains, codes, bytes_eq, replicate, filter, cond, not, ◌||◌, slice_get}
use Rattle.std.specs.List.{AllByRecursion, range_with_len}
use Rattle.std.proofs.lemmas.Bool.{cases_lt}
use Rattle.std.proofs.lemmas.List.{append-nil, map-append}
use Rattle.std.proofs.lemmas.List.Elements.{All-head, All-tail, All-weaker, recursion_from_All, filter-append}
use Rattle.wasm_forms.specs.declared.types.RawVal.{RawVal}
use Rattle.wasm_frames.specs.Record as wire
use Rattle.walrus_base.specs.Types.{ValType}
use Rattle.walrus_code.specs.FromRaw.{val_of}
use Rattle.walrus_model.specs.Abstract.{Abstract, Body, Function, Custom}
use Rattle.walrus_model.specs.BlockHandlers.{params_of}
use Rattle.walrus_model.specs.Customs as model
use Rattle.walrus_model.specs.Customs.{is_debug_name, no_indices, fixed, written_customs}
use Rattle.walrus_model.specs.DeclaredLocals.{rank}
use Rattle.walrus_model.specs.Names.{body_of}
use Rattle.walrus_model.specs.Sections.{body_with, types_of, imported, imported_function, function_with, is_apart, custom_of}
use Rattle.walrus_theorem.specs.Pinned.{DeclaresLocal, LocalGoesBefore}
use Rattle.walrus_theorem.specs.Spelling.{BodyStands, IsSpelling, is_dylink, is_other}
use Rattle.walrus_theorem.specs.Text.{BodyText, Text, said}
use Rattle.walrus_model.proofs.LawOrder.{Sorted, sorted_of}
use Rattle.walrus_base.proofs.Agree.{Compared, compared}
use Rattle.walrus_theorem.proofs.OneBody.{TypeStands, Differ, same_val, spread}
use Rattle.walrus_theorem.proofs.OneCustom.{neither, other_apart, what_is_left}
use Rattle.walrus_theorem.proofs.OneSections.{laid}
use Rattle.walrus_theorem.proofs.OneSpelling.{told, as_told}
use Rattle.walrus_theorem.proofs.ReadFits.{OnBody, imports_on, function_body}
use Rattle.walrus_base.proofs.RangeBounds.{range_has}
use Rattle.walrus_theorem.proofs.TextShaped.{all_at, local_same}
use Rattle.walrus_bodies.proofs.LawNamed.{each_append as all_append}
use Rattle.walrus_model.proofs.TypeLists.{got_right as got_behind}
use Rattle.walrus_model.proofs.AgainSame.{not_other as the_one}

-- ---- types that stand by rank, each in one run

abbrev RisesFrom : ValType ℕ → List (ValType ℕ) → Type 0
RisesFrom v vs = (i : ℕ) (w : ValType ℕ) → slice_get vs i ≡ Some w → rank v ≤ rank w

-- v stands in front alone
abbrev RunsOf : ValType ℕ → List (ValType ℕ) → Type 0
RunsOf v vs = (i j : ℕ) → j < i → slice_get vs i ≡ Some v → slice_get vs j ≡ Some v

abbrev InRuns : List (ValType ℕ) → Type 0
InRuns [] = Unit {0}
InRuns (v ∷ vs) = RisesFrom v vs × RunsOf v vs × InRuns vs

ranks_rise : (vs : List (ValType ℕ)) → InRuns vs → (j i : ℕ) (w v : ValType ℕ) → j < i → slice_get vs j ≡ Some w → slice_get vs i ≡ Some v → rank w ≤ rank v
ranks_rise [] h j i w v lt at to = absurd (cc)
ranks_rise (u ∷ vs) h zero zero w v lt at to = absurd (omega (arith, lt))
ranks_rise (u ∷ vs) h (suc j) zero w v lt at to = absurd (omega (arith, lt))
ranks_rise (u ∷ vs) h zero (suc i) w v lt at to = let is : u ≡ w = cc in subst (λ z. rank z ≤ rank v) is (h.0 i v to)
ranks_rise (u ∷ vs) h (suc j) (suc i) w v lt at to = ranks_rise vs h.2 j i w v (omega (arith, lt)) at to

runs_stand : (vs : List (ValType ℕ)) → InRuns vs → (k j i : ℕ) (v : ValType ℕ) → k < j → j < i → slice_get vs k ≡ Some v → slice_get vs i ≡ Some v → slice_get vs j ≡ Some v
runs_stand [] h k j i v lt less at to = absurd (cc)
runs_stand (u ∷ vs) h k zero i v lt less at to = absurd (omega (arith, lt))
runs_stand (u ∷ vs) h k (suc j) zero v lt less at to = absurd (omega (arith, less))
runs_stand (u ∷ vs) h zero (suc j) (suc i) v lt less at to = let is : u ≡ v = cc in subst (λ z. slice_get vs j ≡ Some z) is (h.1 i j (omega (arith, less)) (to ∙ ap Some (sym is)))
runs_stand (u ∷ vs) h (suc k) (suc j) (suc i) v lt less at to = runs_stand vs h.2 k j i v (omega (arith, lt)) (omega (arith, less)) at to

module _ (v : ValType ℕ) (rest : List (ValType ℕ)) (rises : RisesFrom v rest) (away : (i : ℕ) → slice_get rest i ≡ Some v → ⊥) where
  block_rises : (n : ℕ) → RisesFrom v (replicate n v ++ rest)
  block_rises zero i w at = rises i w at
  block_rises (suc n) zero w at = let is : v ≡ w = cc in let e : rank v ≡ rank w = ap rank is in omega (arith, e)
  block_rises (suc n) (suc i) w at = block_rises n i w at

  block_runs : (n : ℕ) → RunsOf v (replicate n v ++ rest)
  block_runs zero i j lt at = absurd (away i at)
  block_runs (suc n) zero j lt at = absurd (omega (arith, lt))
  block_runs (suc n) (suc i) zero lt at = refl
  block_runs (suc n) (suc i) (suc j) lt at = block_runs n i j (omega (arith, lt)) at

  block_in_runs : InRuns rest → (n : ℕ) → InRuns (replicate n v ++ rest)
  block_in_runs h zero = h
  block_in_runs h (suc n) = (block_rises n, block_runs n, block_in_runs h n)

-- what holds of all types that are declared holds of those of locals
module _ (P : ValType ℕ → Type 0) where
  in_block : (n : ℕ) (v : ValType ℕ) (rest : List (ValType ℕ)) → P v → ((i : ℕ) (w : ValType ℕ) → slice_get rest i ≡ Some w → P w) → (i : ℕ) (w : ValType ℕ) → slice_get (replicate n v ++ rest) i ≡ Some w → P w
  in_block zero v rest p all i w at = all i w at
  in_block (suc n) v rest p all zero w at = let is : v ≡ w = cc in subst P is p
  in_block (suc n) v rest p all (suc i) w at = in_block n v rest p all i w at

  in_spread : (ds : List (ℕ × RawVal)) → AllByRecursion (λ (d : ℕ × RawVal). P (val_of d.1)) ds → (i : ℕ) (w : ValType ℕ) → slice_get (spread ds) i ≡ Some w → P w
  in_spread [] h i w at = absurd (cc)
  in_spread (d ∷ ds) h i w at = in_block d.0 (val_of d.1) (spread ds) h.0 (in_spread ds h.1) i w at

abbrev Ranked : ℕ × RawVal → ℕ × RawVal → Type 0
Ranked d e = rank (val_of d.1) ≤ rank (val_of e.1)

others_apart : (d : ℕ × RawVal) (ds : List (ℕ × RawVal)) → TypeStands d → AllByRecursion TypeStands ds → AllByRecursion (Differ d) ds → AllByRecursion (λ (e : ℕ × RawVal). val_of e.1 ≡ val_of d.1 → ⊥) ds
others_apart d [] h all apart = tt
others_apart d (e ∷ es) h all apart = ((λ same. apart.0 (sym (same_val e.1 d.1 all.0 h same))), others_apart d es h all.1 apart.1)

spread_in_runs : (ds : List (ℕ × RawVal)) → AllByRecursion TypeStands ds → Sorted Differ ds → Sorted Ranked ds → InRuns (spread ds)
spread_in_runs [] all apart ranked = tt
spread_in_runs (d ∷ ds) all apart ranked =
    block_in_runs (val_of d.1) (spread ds)
    (in_spread (λ w. rank (val_of d.1) ≤ rank w) ds ranked.0)
    (λ i at. in_spread (λ w. w ≡ val_of d.1 → ⊥) ds (others_apart d ds all.0 all.1 apart.0) i (val_of d.1) at refl)
    (spread_in_runs ds all.1 apart.1 ranked.1) d.0

-- ---- locals

abbrev pub LocalsInOrder : Body → Type 0
LocalsInOrder b = (x y : ℕ) → DeclaresLocal b x → DeclaresLocal b y → LocalGoesBefore b x y → x < y

module _ (ps vs : List (ValType ℕ)) (runs : InRuns vs) (b : Body) (parameters : b.parameters ≡ range_with_len 0 (length ps)) (types : b.local_type ≡ slice_get (ps ++ vs)) where
  behind : (x : ℕ) (v : ValType ℕ) → DeclaresLocal b x → b.local_type x ≡ Some v → (k : ℕ) × (x ≡ length ps + k) × (slice_get vs k ≡ Some v)
  behind x v d at = ⊎_elim
      (λ (low : x < length ps). absurd (d.1 (subst (λ l. Contains l x) (sym parameters) (range_has 0 (length ps) x (omega arith) (omega (arith, low))))))
      (λ (past : length ps ≤ x). let k = gap (length ps) x past in (k.0, k.1, sym (got_behind ps vs k.0 x k.1) ∙ sym (ap (λ f. f x) types) ∙ at))
      (cases_lt x (length ps))
    where
      gap : (lo k : ℕ) → lo ≤ k → (d : ℕ) × (k ≡ lo + d)
      gap zero k h = (k, omega arith)
      gap (suc lo) zero h = absurd (omega (arith, h))
      gap (suc lo) (suc k) h = let g = gap lo k (omega (arith, h)) in (g.0, omega (arith, g.1))

  one_type : (o : Option (ValType ℕ)) (v w : ValType ℕ) → o ≡ Some v → o ≡ Some w → v ≡ w
  one_type o v w e f = let p : Some v ≡ Some w = sym e ∙ f in cc

  not_itself : (x : ℕ) → DeclaresLocal b x → LocalGoesBefore b x x → ⊥
  not_itself x d (v, (w, (tv, tw, inl (inl less)))) = let z : rank v ≡ rank w = ap rank (one_type (b.local_type x) v w tv tw) in omega (arith, less, z)
  not_itself x d (v, (w, (tv, tw, inl (inr (e, (k, (dk, tk, all))))))) = let h : k < k = all k dk (tk ∙ ap Some (one_type (b.local_type x) v w tv tw)) in omega (arith, h)
  not_itself x d (v, (w, (tv, tw, inr (e, less)))) = omega (arith, less)

  -- y stands in front of x
  turned : (x y : ℕ) → DeclaresLocal b x → DeclaresLocal b y → y < x → LocalGoesBefore b x y → ⊥
  turned x y dx dy down (v, (w, (tv, tw, inl (inl less)))) =
      let p = behind x v dx tv in
      let q = behind y w dy tw in
      let lower : q.0 < p.0 = omega (arith, down, p.1, q.1) in
      let rises : rank w ≤ rank v = ranks_rise vs runs q.0 p.0 w v lower q.2 p.2 in
      omega (arith, less, rises)
  turned x y dx dy down (v, (w, (tv, tw, inl (inr (e, (k, (dk, tk, all))))))) =
      let p = behind x v dx tv in
      let q = behind y w dy tw in
      let s = behind k v dk tk in
      let first : k < y = all y dy tw in
      let lower : q.0 < p.0 = omega (arith, down, p.1, q.1) in
      let lowest : s.0 < q.0 = omega (arith, first, s.1, q.1) in
      let same : v ≡ w = one_type (slice_get vs q.0) v w (runs_stand vs runs s.0 q.0 p.0 v lowest lower s.2 p.2) q.2 in
      let h : k < k = all k dk (tk ∙ ap Some same) in
      omega (arith, h)
  turned x y dx dy down (v, (w, (tv, tw, inr (e, less)))) = omega (arith, less, down)

  in_order : LocalsInOrder b
  in_order x y dx dy before = by (compared x y) where
    by : Compared x y → x < y
    by (inl less) = less
    by (inr (inl is)) = absurd (not_itself x dx (subst (LocalGoesBefore b x) (sym is) before))
    by (inr (inr less)) = absurd (turned x y dx dy less before)

text_in_order : (ps : List (ValType ℕ)) (t : BodyText) → BodyStands t → LocalsInOrder (body_with ps (said t))
text_in_order ps t h =
    let ds = t.declarations in
    in_order ps (spread ds)
    (spread_in_runs ds (recursion_from_All TypeStands ds h.types) (sorted_of Differ ds h.apart) (sorted_of Ranked ds h.ranked))
    (body_with ps (said t)) refl refl

module _ (s : wire.Module) where
  functions_in_order : (fs : List ℕ) (xs : List BodyText) → AllByRecursion BodyStands xs → AllByRecursion (OnBody LocalsInOrder) (map (function_with s) (zip fs (map said xs)))
  functions_in_order [] xs h = tt
  functions_in_order (f ∷ fs) [] h = tt
  functions_in_order (f ∷ fs) (x ∷ xs) h =
      ((λ b e. subst LocalsInOrder (sym (local_same (body_with (params_of (types_of s f)) (said x)) b e)) (text_in_order (params_of (types_of s f)) x h.0)), functions_in_order fs xs h.1)

told_in_order : (t : Text) → All BodyStands t.bodies → (f : ℕ) (b : Body) → body_of (told t) f ≡ Some b → LocalsInOrder b
told_in_order t stand f b e =
    let all : List Function = imported imported_function 0 t.imports ++ map (function_with (laid t)) (zip t.functions (map said t.bodies)) in
    let g = function_body (slice_get all f) b e in
    all_at (OnBody LocalsInOrder) all f g.0
    (all_append (OnBody LocalsInOrder) (imported imported_function 0 t.imports) (map (function_with (laid t)) (zip t.functions (map said t.bodies))) (imports_on LocalsInOrder 0 t.imports)
    (functions_in_order (laid t) t.functions t.bodies (recursion_from_All BodyStands t.bodies stand)))
    g.1.0 b g.1.1

pub locals_in_order : (n : Abstract) (t : Text) → IsSpelling n t → (f : ℕ) (b : Body) → body_of n f ≡ Some b → LocalsInOrder b
locals_in_order n t h f b e = told_in_order t h.bodies f b (ap (λ (x : Abstract). body_of x f) (sym (as_told t) ∙ sym h.says) ∙ e)

-- ---- custom sections

module _ (test : wire.Custom → Bool) (p : Custom → Bool) (same : (c : wire.Custom) → p (custom_of c) ≡ test c) where
  pass_all : (ws : List wire.Custom) → All (λ c. test c ≡ true) ws → filter p (map custom_of ws) ≡ map custom_of ws
  pass_all [] h = refl
  pass_all (w ∷ ws) h =
      ap (λ t. cond t (custom_of w ∷ filter p (map custom_of ws)) (filter p (map custom_of ws))) (same w ∙ All-head (λ c. test c ≡ true) w ws h)
      ∙ ap (λ l. custom_of w ∷ l) (pass_all ws (All-tail (λ c. test c ≡ true) w ws h))

  pass_none : (ws : List wire.Custom) → All (λ c. test c ≡ false) ws → filter p (map custom_of ws) ≡ []
  pass_none [] h = refl
  pass_none (w ∷ ws) h =
      ap (λ t. cond t (custom_of w ∷ filter p (map custom_of ws)) (filter p (map custom_of ws))) (same w ∙ All-head (λ c. test c ≡ false) w ws h)
      ∙ pass_none ws (All-tail (λ c. test c ≡ false) w ws h)

fixed_already : (ws : List wire.Custom) → map (fixed no_indices) (map custom_of ws) ≡ map custom_of ws
fixed_already [] = refl
fixed_already (w ∷ ws) = ap (λ l. custom_of w ∷ l) (fixed_already ws)

abbrev is_written : wire.Custom → Bool
is_written c = not (is_dylink c || is_debug_name c.name)

no_debug : (a b c : Bool) → not (a || (b || c)) ≡ true → c ≡ false
no_debug true b c h = absurd (cc)
no_debug false true c h = absurd (cc)
no_debug false false true h = absurd (cc)
no_debug false false false h = refl

neither_one : (a b : Bool) → a ≡ false → b ≡ false → not (a || b) ≡ true
neither_one true b e f = absurd (cc)
neither_one false true e f = absurd (cc)
neither_one false false e f = refl

other_written : (c : wire.Custom) → is_other c ≡ true → is_written c ≡ true
other_written c h =
    let both = neither (is_dylink c) (is_apart c.name) h in
    neither_one (is_dylink c) (is_debug_name c.name) both.0 (no_debug (bytes_eq c.name (codes "name")) (bytes_eq c.name (codes "producers")) (is_debug_name c.name) both.1)

module _ (ds os : List wire.Custom) (dylinks : All (λ c. is_dylink c ≡ true) ds) (others : All (λ c. is_other c ≡ true) os) where
  first_group : filter model.is_dylink (map custom_of ds ++ map custom_of os) ≡ map custom_of ds
  first_group =
      filter-append model.is_dylink (map custom_of ds) (map custom_of os)
      ∙ ap₂ ◌++◌ (pass_all is_dylink model.is_dylink (λ c. refl) ds dylinks) (pass_none is_dylink model.is_dylink (λ c. refl) os (All-weaker (λ c. is_other c ≡ true) (λ c. is_dylink c ≡ false) other_apart os others))
      ∙ append-nil (map custom_of ds)

  last_group : filter (λ c. not (model.is_dylink c || is_debug_name c.name)) (map custom_of ds ++ map custom_of os) ≡ map custom_of os
  last_group =
      filter-append (λ c. not (model.is_dylink c || is_debug_name c.name)) (map custom_of ds) (map custom_of os)
      ∙ ap₂ ◌++◌
      (pass_none is_written (λ c. not (model.is_dylink c || is_debug_name c.name)) (λ c. refl) ds (All-weaker (λ c. is_dylink c ≡ true) (λ c. is_written c ≡ false) (λ c h. the_one (is_dylink c) (is_debug_name c.name) h) ds dylinks))
      (pass_all is_written (λ c. not (model.is_dylink c || is_debug_name c.name)) (λ c. refl) os (All-weaker (λ c. is_other c ≡ true) (λ c. is_written c ≡ true) other_written os others))

  groups_stand : map custom_of (ds ++ os) ≡ written_customs no_indices (map custom_of (ds ++ os))
  groups_stand =
      let split : map custom_of (ds ++ os) ≡ map custom_of ds ++ map custom_of os = map-append custom_of ds os in
      split ∙ sym (ap (written_customs no_indices) split
      ∙ ap₂ ◌++◌ (ap (map (fixed no_indices)) first_group ∙ fixed_already ds) (ap (map (fixed no_indices)) last_group ∙ fixed_already os))

pub customs_in_groups : (n : Abstract) (t : Text) → IsSpelling n t → n.customs ≡ written_customs no_indices n.customs
customs_in_groups n t h =
    let is : n.customs ≡ map custom_of (t.dylinks ++ t.others) = ap (λ (x : Abstract). x.customs) (h.says ∙ as_told t) ∙ ap (map custom_of) (what_is_left t h.dylinks h.others) in
    is ∙ groups_stand t.dylinks t.others h.dylinks h.others ∙ ap (written_customs no_indices) (sym is)
