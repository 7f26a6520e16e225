-- A body that is written has no more locals than what it is written as.
use Rattle.std.proofs.Common.{◌≡◌, ℕ, zero, suc, ◌+◌, ◌<◌, ◌≤◌, List, [], ◌∷◌, ◌++◌, length, map, refl, sym, ap, ◌∙◌, subst, arith, inl, inr, length-append}
use Rattle.std.specs.Prelude.{Option, Some, None, Contains, AllPairs, All, ◌≢◌, ◌^◌}
use Rattle.std.proofs.lemmas.List.FromFn.{length-range_with_len}
use Rattle.std.proofs.lemmas.List.{length-map}
use Rattle.walrus_base.specs.Types.{ValType, CompType, Func, Struct, Array, map_comp, map_val}
use Rattle.walrus_base.specs.TypeDef.{type_params}
use Rattle.walrus_base.specs.Operators.{Types, Functions, type_item, locals_of}
use Rattle.walrus_base.specs.Shape.{place_in}
use Rattle.walrus_model.specs.BlockHandlers.{params_of}
use Rattle.walrus_model.proofs.LawOrder.{In}
use Rattle.walrus_model.specs.Abstract.{Abstract, TypeDef, Body, LocalFunction, Function}
use Rattle.walrus_model.specs.Config.{Config}
use Rattle.walrus_model.specs.Live.{IsLive}
use Rattle.walrus_model.specs.Names.{body_of}
use Rattle.walrus_model.specs.Pipeline.{Collected}
use Rattle.walrus_model.specs.Sections.{Said, body_with}
use Rattle.walrus_model.specs.Refers.{IsUsed, used_locals, named_by, function_names, kind_names, written_in}
use Rattle.walrus_model.specs.Renaming.{Renaming}
use Rattle.walrus_model.specs.Rules.{Holds}
use Rattle.walrus_model.specs.Same.{SameType, SameBody, SameKind, SameFunction}
use Rattle.walrus_theorem.specs.Chain.{ParsedAs}
use Rattle.walrus_theorem.specs.Headline.{ReadsModule}
use Rattle.walrus_theorem.specs.Once.{Premises}
use Rattle.walrus_theorem.specs.OneRun.{Fits}
use Rattle.walrus_theorem.specs.Pinned.{IsWrittenAs}
use Rattle.walrus_theorem.specs.Spelling.{IsSpelling}
use Rattle.walrus_theorem.specs.Text.{Text}
use Rattle.walrus_theorem.proofs.JoinedSteps.{used_back}
use Rattle.walrus_base.proofs.Lists.{Contains-head, Contains-map}
use Rattle.walrus_model.proofs.OpsFollow.{ops_locals_follow}
use Rattle.walrus_model.proofs.Pigeon.{Distinct, pigeon, in_map, distinct_map, distinct_unmap, apart_distinct, all_in}
use Rattle.walrus_theorem.proofs.Plain.{masked, plain, Twins, from_w}
use Rattle.walrus_base.proofs.SameVal.{unplaced}
use Rattle.walrus_model.proofs.Seen.{same_sub}
use Rattle.walrus_model.proofs.Orders.{is_some_by}
use Rattle.walrus_theorem.proofs.Shaped.{Shaped}
use Rattle.walrus_theorem.proofs.Straight.{moved, carried}
use Rattle.walrus_theorem.proofs.TextShaped.{shaped, Fine, all_at, functions_fine}
use Rattle.walrus_theorem.proofs.Things.{both_there, some_same, body_at, body_is, local_kind}
use Rattle.walrus_theorem.proofs.UsedLocals.{past_range}

pub gap : (lo k : ℕ) → lo ≤ k → (d : ℕ) × (k ≡ lo + d)
gap zero k h = (k, omega arith)
gap (suc lo) zero h = absurd (omega (arith, h))
gap (suc lo) (suc k) h = let g = gap lo k (omega (arith, h)) in (g.0, omega (arith, g.1))

-- a list that is another one put through a map
pulled : (g : ℕ → ℕ) (P : ℕ → Type 0) (zs : List ℕ) → ((z : ℕ) → In z zs → (x : ℕ) × P x × (g x ≡ z)) → (xs : List ℕ) × ((map g xs ≡ zs) × ((x : ℕ) → In x xs → P x))
pulled g P [] h = ([], (refl, λ x i. absurd i))
pulled g P (z ∷ zs) h =
    let first = h z (inl refl) in
    let rest = pulled g P zs (λ y i. h y (inr i)) in
    (first.0 ∷ rest.0, (cons first.2 rest.1.0, at first.0 rest.0 first.1 rest.1.1))
  where
    cons : {x z : ℕ} {xs zs : List ℕ} → x ≡ z → xs ≡ zs → x ∷ xs ≡ z ∷ zs
    cons e f = cc

    at : (y : ℕ) (ys : List ℕ) → P y → ((x : ℕ) → In x ys → P x) → (x : ℕ) → In x (y ∷ ys) → P x
    at y ys p q x (inl e) = subst P e p
    at y ys p q x (inr i) = q x i

module _ (a d : Body) (i : ℕ) (t : Renaming) (s : SameBody t i a d) (qs : List (ValType ℕ)) (said : Said) (e : d ≡ body_with qs said) where
  is_past : (x : ℕ) → IsUsed a x → (Contains a.parameters x → ⊥) → length qs ≤ t.locals i x
  is_past x u away = past_range (length qs) (t.locals i x) (ap (λ (z : Body). place_in z.parameters (t.locals i x)) (sym e) ∙ s.parameters x u ∙ unplaced a.parameters x away)

  pub few : (k : ℕ) → length qs ≤ k → ((y : ℕ) → IsUsed a y → t.locals i y < k) → (ys : List ℕ) → Distinct ys → ((y : ℕ) → In y ys → IsUsed a y × (Contains a.parameters y → ⊥)) → length qs + length ys ≤ k
  few k low used ys dist are =
      let g = gap (length qs) k low in
      let long : length (map (t.locals i) ys) ≤ g.0 = pigeon (length qs) g.0 (map (t.locals i) ys)
      (distinct_map (t.locals i) ys dist (λ x y hx hy same. s.apart x y (are x hx).0 (are y hy).0 same))
      (λ z h. let r = in_map (t.locals i) ys z h in
      (subst (λ y. length qs ≤ y) r.1.1 (is_past r.0 (are r.0 r.1.0).0 (are r.0 r.1.0).1), within z g.0 g.1 (subst (λ y. y < k) r.1.1 (used r.0 (are r.0 r.1.0).0)))) in
      let same : length (map (t.locals i) ys) ≡ length ys = length-map ys (t.locals i) in
      omega (arith, long, same, g.1)
    where
      within : (z r : ℕ) → k ≡ length qs + r → z < k → z < length qs + r
      within z r p q = omega (arith, p, q)

params_long : (g : ℕ → ℕ) (x : CompType ℕ) → length (type_params (map_comp g x)) ≡ length (type_params x)
params_long g (Func params results) = length-map params (map_val g)
params_long g (Struct fields) = refl
params_long g (Array element) = refl

pub same_params : (g : ℕ → ℕ) (i : ℕ) (x y : TypeDef) → SameType g i x y → length (params_of (Some y)) ≡ length (params_of (Some x))
same_params g i x y s = ap (λ z. length (type_params z.comp)) (same_sub g i x y s) ∙ params_long g x.sub.comp

unmasked : {X Y : Type 0} (o : Option X) (q : Option Y) (y : Y) → masked o q ≡ Some y → q ≡ Some y
unmasked None q y e = absurd (cc)
unmasked (Some x) q y e = e

-- a body that was read has the parameters of its type
abbrev HasBodies : Abstract → Type 0
HasBodies z = (i : ℕ) (g : Function) (a : Body) → z.functions i ≡ Some g → g.kind ≡ LocalFunction a → (said : Said) × (a ≡ body_with (params_of (z.types g.ty)) said)

read_bodies : (c : Config) (bytes : List ℕ) (m : Abstract) → ReadsModule c bytes m → HasBodies m
read_bodies c bytes m h = subst HasBodies (sym h.is) (λ i g a e k. all_at (Fine h.sections) _ i g (functions_fine h.sections h.bodies [] []) e a k)

module _ (c : Config) (bytes : List ℕ) (m v w n : Abstract) (reads : ReadsModule c bytes m) (holds : Holds m) (p : ParsedAs c m v) (k : Collected v w) (premises : Premises (plain c m w)) (t : Text) (spells : IsSpelling n t) (is : IsWrittenAs c (plain c m w) n) (fits : Fits n) where
  abbrev u : Abstract
  u = plain c m w

  abbrev r : Renaming
  r = is.written.renaming

  shape : Shaped n
  shape = subst Shaped (sym spells.says) (shaped t (subst (λ z. IsSpelling z t) spells.says spells))

  -- the types of a function have as many parameters
  types_long : (ty : ℕ) → IsLive m (Types, ty) → IsLive u (Types, ty) → length (params_of (n.types (r.numbers Types ty))) ≡ length (params_of (m.types ty))
  types_long ty lm lu =
      let first = both_there (SameType (λ i. i) ty) (m.types ty) (v.types ty) ((carried c m v p).types.same ty lm) in
      let then = both_there (SameType (r.numbers Types) ty) (w.types ty) (n.types (r.numbers Types ty)) (is.written.carried.types.same ty lu) in
      let left = k.types.left ty then.0 then.2 in
      let one : then.0 ≡ first.1 = some_same then.0 first.1 (sym left.1 ∙ first.3) in
      ap (λ o. length (params_of o)) then.3
      ∙ same_params (r.numbers Types) ty then.0 then.1 then.4
      ∙ ap (λ (z : TypeDef). length (params_of (Some z))) one
      ∙ same_params (λ i. i) ty first.0 first.1 first.4
      ∙ ap (λ o. length (params_of o)) (sym first.2)

  module _ (f : ℕ) (a b : Body) (z : Twins c m v w p k holds f a b) (old new : Function) (at_u : u.functions f ≡ Some old) (at_n : n.functions (r.numbers Functions f) ≡ Some new) (kind : old.kind ≡ LocalFunction a) (same : SameFunction r f old new)
      (d : Body) (kind_new : new.kind ≡ LocalFunction d) (body : SameBody r f a d) (further : List ℕ) (apart : AllPairs (λ (x : ℕ) (y : ℕ). x ≢ y) further) (used : All (IsUsed b) further) (away : All (λ (x : ℕ). Contains b.parameters x → ⊥) further) where
    at_m : m.functions f ≡ Some old
    at_m = unmasked (w.functions f) (m.functions f) old at_u

    names_type : (x : Abstract) → x.functions f ≡ Some old → Contains (written_in x (Functions, f)) (type_item old.ty)
    names_type x e = subst (λ o. Contains (named_by function_names o) (type_item old.ty)) (sym e) (Contains-head (type_item old.ty) (kind_names old.kind))

    long : length (params_of (n.types new.ty)) ≡ length (params_of (m.types old.ty))
    long = ap (λ y. length (params_of (n.types y))) same.ty ∙ types_long old.ty (holds.indices.written (Functions, f) (type_item old.ty) (names_type m at_m)) (premises.written (Functions, f) (type_item old.ty) (names_type u at_u))

    abbrev was : (said : Said) × (a ≡ body_with (params_of (m.types old.ty)) said)
    was = read_bodies c bytes m reads f old a at_m kind

    abbrev now : (said : Said) × (d ≡ body_with (params_of (n.types new.ty)) said)
    now = shape.bodies (r.numbers Functions f) new d at_n kind_new

    in_n : body_of n (r.numbers Functions f) ≡ Some d
    in_n = body_is n (r.numbers Functions f) new d at_n kind_new

    parameters_a : length b.parameters ≡ length (params_of (m.types old.ty))
    parameters_a =
        ap (λ (l : List ℕ). length l) z.whole.parameters
        ∙ length-map a.parameters (moved c m v p f)
        ∙ ap (λ (y : Body). length y.parameters) was.1
        ∙ length-range_with_len 0 (length (params_of (m.types old.ty)))

    parameters_d : length d.parameters ≡ length (params_of (n.types new.ty))
    parameters_d = ap (λ (y : Body). length y.parameters) now.1 ∙ length-range_with_len 0 (length (params_of (n.types new.ty)))

    from_further : (y : ℕ) → In y further → (x : ℕ) × (IsUsed a x × (Contains a.parameters x → ⊥)) × (moved c m v p f x ≡ y)
    from_further y i =
        let x = used_back (moved c m v p) f a b z.same y (all_in (IsUsed b) further used y i) in (
          x.0,
          (
            x.1,
            λ at. all_in (λ (q : ℕ). Contains b.parameters q → ⊥) further away y i
                (subst (λ l. Contains l y) (sym z.whole.parameters) (subst (Contains (map (moved c m v p f) a.parameters)) x.2 (Contains-map (moved c m v p f) x.0 a.parameters at))),
          ),
          x.2,
        )

    pub locals_fit : length (b.parameters ++ further) ≤ 2 ^ 32
    locals_fit =
        let ys = pulled (moved c m v p f) (λ x. IsUsed a x × (Contains a.parameters x → ⊥)) further from_further in
        let dist : Distinct ys.0 = distinct_unmap (moved c m v p f) ys.0 (subst Distinct (sym ys.1.0) (apart_distinct further apart)) in
        let low : length (params_of (n.types new.ty)) ≤ 2 ^ 32 = subst (λ l. l ≤ 2 ^ 32) parameters_d (fits.parameters (r.numbers Functions f) d in_n) in
        let all : length (params_of (n.types new.ty)) + length ys.0 ≤ 2 ^ 32 = few a d f r body (params_of (n.types new.ty)) now.0 now.1 (2 ^ 32) low (λ y u. fits.used (r.numbers Functions f) d (r.locals f y) in_n (used_new y u)) ys.0 dist ys.1.1 in
        let as_many : length further ≡ length ys.0 = ap (λ (l : List ℕ). length l) (sym ys.1.0) ∙ length-map ys.0 (moved c m v p f) in
        let both : length (b.parameters ++ further) ≡ length b.parameters + length further = length-append b.parameters further in
        subst (λ l. l ≤ 2 ^ 32) (sym (sum (length b.parameters) (length further) (length (params_of (n.types new.ty))) (length ys.0) (parameters_a ∙ sym long) as_many) ∙ sym both) all
      where
        sum : (x y p q : ℕ) → x ≡ p → y ≡ q → x + y ≡ p + q
        sum x y p q e f = omega (arith, e, f)

        used_new : (y : ℕ) → IsUsed a y → IsUsed d (r.locals f y)
        used_new y u = subst (λ l. Contains l (r.locals f y)) (sym (ap locals_of body.operators ∙ ops_locals_follow r (r.locals f) a.operators)) (Contains-map (r.locals f) y (used_locals a) u)

  pub too_many_locals : (f : ℕ) (b : Body) (further : List ℕ) → body_of w f ≡ Some b → AllPairs (λ (x : ℕ) (y : ℕ). x ≢ y) further → All (IsUsed b) further → All (λ (x : ℕ). Contains b.parameters x → ⊥) further → 2 ^ 32 < length (b.parameters ++ further) → ⊥
  too_many_locals f b further e apart used away many =
      let z = from_w c m v w p k holds f b e in
      let g = body_at (u.functions f) z.0 z.1.in_u in
      let both = both_there (SameFunction r f) (u.functions f) (n.functions (r.numbers Functions f)) (is.written.carried.functions.same f (is_some_by (u.functions f) g.0 g.1)) in
      let one : both.0 ≡ g.0 = some_same both.0 g.0 (sym both.2 ∙ g.1) in
      let same : SameFunction r f g.0 both.1 = subst (λ y. SameFunction r f y both.1) one both.4 in
      let local = local_kind r f z.0 both.1.kind (subst (λ y. SameKind r f y both.1.kind) g.2 same.kind) in
      let fit : length (b.parameters ++ further) ≤ 2 ^ 32 = locals_fit f z.0 b z.1 g.0 both.1 g.1 both.3 g.2 same local.0 local.1 local.2 further apart used away in
      less (length (b.parameters ++ further)) (2 ^ 32) fit many
    where
      less : (x y : ℕ) → x ≤ y → y < x → ⊥
      less x y h l = omega (arith, h, l)
