-- No bytes have two code transforms.
use Rattle.std.proofs.Common.{◌≡◌, inl, inr, ℕ, ◌+◌, ◌≤◌, Bool, true, false, List, [], ◌∷◌, length, map, refl, sym, ap, ap₂, ◌∙◌, subst, arith, Some, None}
use Rattle.std.specs.Prelude.{Contains, IsSome, Option, slice_get}
use Rattle.wasm_frames.specs.Record as wire
use Rattle.wasm_frames.proofs.Modules.{one_record_lem}
use Rattle.walrus_base.specs.Operators.{Functions}
use Rattle.walrus_functions.specs.Transform.{Transform}
use Rattle.walrus_model.specs.Abstract.{Abstract, Body, Function}
use Rattle.walrus_model.specs.Config.{Config}
use Rattle.walrus_model.specs.Live.{IsLive}
use Rattle.walrus_model.specs.Names.{body_of, body_of_function}
use Rattle.walrus_model.specs.Renaming.{Renaming}
use Rattle.walrus_model.specs.Transform.{IsBodyOf, IsLocalFunction, IsPlaceOf, IsTransform, TrueOf}
use Rattle.walrus_base.proofs.Lists.{Contains-none}
use Rattle.walrus_base.proofs.Standing.{some_inj}
use Rattle.walrus_theorem.specs.Spelling.{IsSpelling}
use Rattle.walrus_theorem.proofs.Numbers.{numbers_one}
use Rattle.walrus_theorem.proofs.Shaped.{Shaped, Side}
use Rattle.walrus_theorem.proofs.TextShaped.{shaped}
use Rattle.walrus_writing.specs.Transform.{CountStandsAt, IsTransformOf, OneTransform, imported_functions}
use Rattle.walrus_writing.proofs.CountStands.{one_count}
use Rattle.walrus_writing.proofs.OperatorsStand.{one_places}
use Rattle.walrus_model.proofs.RisingLists.{same_members}
use Rattle.std.proofs.lemmas.Bool.{false≢true as untrue}
use Rattle.walrus_base.proofs.Lookups.{heads as cons_parts}

-- ---- pairs

pub same_pairs : (xs ys : List (ℕ × ℕ)) → map (λ (o : ℕ × ℕ). o.0) xs ≡ map (λ (o : ℕ × ℕ). o.0) ys → map (λ (o : ℕ × ℕ). o.1) xs ≡ map (λ (o : ℕ × ℕ). o.1) ys → xs ≡ ys
same_pairs [] [] e f = refl
same_pairs [] (y ∷ ys) e f = absurd (cc)
same_pairs (x ∷ xs) [] e f = absurd (cc)
same_pairs (x ∷ xs) (y ∷ ys) e f =
    let p = cons_parts x.0 y.0 (map (λ (o : ℕ × ℕ). o.0) xs) (map (λ (o : ℕ × ℕ). o.0) ys) e in
    let q = cons_parts x.1 y.1 (map (λ (o : ℕ × ℕ). o.1) xs) (map (λ (o : ℕ × ℕ). o.1) ys) f in
    ap₂ ◌∷◌ (ap₂ (λ (a b : ℕ). let pair : ℕ × ℕ = (a, b) in pair) p.0 q.0) (same_pairs xs ys p.1 q.1)

-- ---- local functions are there

local_there : (o : Option Function) → IsSome (body_of_function o) → IsSome o
local_there (Some f) h = refl
local_there None h = h

pub local_lives : (v : Abstract) (f : ℕ) → IsLocalFunction v f → IsLive v (Functions, f)
local_lives v f h = local_there (v.functions f) h

-- a function is local or not
by_body : {X : Type 0} (o : Option Body) → (IsSome o → X) → ((IsSome o → ⊥) → X) → X
by_body (Some b) there none = there refl
by_body None there none = none (λ h. untrue h)

pub parts_same : (x y : Transform) → x.function_ranges ≡ y.function_ranges → x.code_section_start ≡ y.code_section_start → x.instruction_map ≡ y.instruction_map → x ≡ y
parts_same x y e f g =
    ap₂ (λ (ranges : List (ℕ × (ℕ × ℕ))) (start : ℕ). let made : Transform = record { function_ranges = ranges; code_section_start = start; instruction_map = x.instruction_map } in made) e f
    ∙ ap (λ (places : List (ℕ × ℕ)). let made : Transform = record { function_ranges = y.function_ranges; code_section_start = y.code_section_start; instruction_map = places } in made) g

-- ---- two transforms

module _ (c : Config) (keeps : Bool) (locations : ℕ → List ℕ) (v : Abstract) (bytes : List ℕ) where
  abbrev Is : Transform → Type 0
  Is x = IsTransformOf c keeps locations v bytes x

  abbrev side_of : (x : Transform) (a : Is x) → Side c v a.module_written
  side_of x a = record {
    shaped = subst Shaped (sym a.spelled.spells.says) (shaped a.spelled.text (subst (λ (n : Abstract). IsSpelling n a.spelled.text) a.spelled.spells.says a.spelled.spells));
    is = a.written;
  }

  abbrev numbering : (x : Transform) → Is x → Renaming
  numbering x a = a.written.written.renaming

  -- a function's body, and a place
  abbrev Body_of : (x : Transform) → Is x → ℕ → wire.Body → Type 0
  Body_of x a f b = IsBodyOf (imported_functions a.raw) (numbering x a) a.raw f b

  abbrev Place_of : (x : Transform) → Is x → ℕ → ℕ → Type 0
  Place_of x a location place = IsPlaceOf (imported_functions a.raw) (numbering x a) a.raw a.offsets location place

  abbrev Tells : (x : Transform) → Is x → Type 0
  Tells x a = IsTransform (imported_functions a.raw) a.offsets CountStandsAt keeps x bytes a.raw (numbering x a) v

  module _ (x y : Transform) (a : Is x) (b : Is y) where
    raw_same : a.raw ≡ b.raw
    raw_same = one_record_lem bytes a.raw b.raw a.framed b.framed

    number_same : (f : ℕ) → IsLocalFunction v f → (numbering x a).numbers Functions f ≡ (numbering y b).numbers Functions f
    number_same f local = numbers_one c v a.module_written b.module_written (side_of x a) (side_of y b) Functions f (local_lives v f local)

    -- the body of the one is that of the other
    body_moved : (f : ℕ) (d : wire.Body) → IsLocalFunction v f → Body_of x a f d → Body_of y b f d
    body_moved f d local is = (
      is.0,
      sym (number_same f local) ∙ is.1 ∙ ap (λ (m : wire.Module). imported_functions m + is.0) raw_same,
      ap (λ (m : wire.Module). slice_get m.bodies is.0) (sym raw_same) ∙ is.2,
    )

    body_one : (f : ℕ) (d e : wire.Body) → Body_of x a f d → Body_of x a f e → d ≡ e
    body_one f d e p q =
        let imports : ℕ = imported_functions a.raw in
        let first : (numbering x a).numbers Functions f ≡ imports + p.0 = p.1 in
        let second : (numbering x a).numbers Functions f ≡ imports + q.0 = q.1 in
        let same : p.0 ≡ q.0 = omega (arith, first, second) in
        some_inj d e (sym p.2 ∙ ap (slice_get a.raw.bodies) same ∙ q.2)

    module _ (s : Tells x a) (t : Tells y b) where
      offsets_local : (f : ℕ) → IsLocalFunction v f → a.offsets f ≡ b.offsets f
      offsets_local f local =
          let range = (s.functions f).0 local in
          let body = s.ranges f range.0 range.1 in
          same_pairs (a.offsets f) (b.offsets f) (a.located f local ∙ sym (b.located f local))
          (one_places body.0.bytes _ _ (a.stand f body.0 local body.1) (b.stand f body.0 local (body_moved f body.0 local body.1)))

      pub offsets_same : (f : ℕ) → a.offsets f ≡ b.offsets f
      offsets_same f = by_body (body_of v f) (offsets_local f) (λ none. a.no_others f none ∙ sym (b.no_others f none))

      -- what has a place is local
      has_local : (f : ℕ) (o : ℕ × ℕ) → Contains (a.offsets f) o → IsLocalFunction v f
      has_local f o at = by_body (body_of v f) (λ local. local) (λ none. absurd (Contains-none o (subst (λ (l : List (ℕ × ℕ)). Contains l o) (a.no_others f none) at)))

      pub place_moved : (location place : ℕ) → Place_of x a location place → Place_of y b location place
      place_moved location place (f, d, offset, is, at, here) =
          (f, d, offset, body_moved f d (has_local f (location, offset) at) is, subst (λ (l : List (ℕ × ℕ)). Contains l (location, offset)) (offsets_same f) at, here)

      -- the ranges of the one are those of the other
      pub ranges_moved : (r : ℕ × (ℕ × ℕ)) → Contains x.function_ranges r → Contains y.function_ranges r
      ranges_moved (f, range) at =
          let local = (s.functions f).1 (range, at) in
          let other = (t.functions f).0 local in
          let d = s.ranges f range at in
          let e = t.ranges f other.0 other.1 in
          let moved = body_moved f d.0 local d.1 in
          let imports : ℕ = imported_functions b.raw in
          let first : (numbering y b).numbers Functions f ≡ imports + moved.0 = moved.1 in
          let second : (numbering y b).numbers Functions f ≡ imports + e.1.0 = e.1.1 in
          let index : moved.0 ≡ e.1.0 = omega (arith, first, second) in
          let same : d.0 ≡ e.0 = some_inj d.0 e.0 (sym moved.2 ∙ ap (slice_get b.raw.bodies) index ∙ e.1.2) in
          let one : other.0 ≡ range = e.2 ∙ ap (λ (z : wire.Body). let pair : ℕ × ℕ = (z.start, z.start + length z.bytes) in pair) (sym same) ∙ sym d.2 in
          subst (λ (p : ℕ × ℕ). Contains y.function_ranges (f, p)) one other.1

  -- the last place of a location of the one is that of the other
  module _ (x y : Transform) (a : Is x) (b : Is y) (s : Tells x a) (t : Tells y b) (kept : keeps ≡ true) where
    pub map_moved : (e : ℕ × ℕ) → Contains x.instruction_map e → Contains y.instruction_map e
    map_moved (location, place) at =
        let mine = s.last location place at in
        let found = (t.locations kept location).1 (((s.locations kept location).0 (place, at)).0, (place, place_moved x y a b s t location place mine.0)) in
        let other : ℕ = found.0 in
        let yours = t.last location other found.1 in
        let below : place ≤ other = yours.1 place (place_moved x y a b s t location place mine.0) in
        let above : other ≤ place = mine.1 other (place_moved y x b a t s location other yours.0) in
        let same : other ≡ place = omega (arith, below, above) in
        subst (λ (p : ℕ). Contains y.instruction_map (location, p)) same found.1

  map_same : (x y : Transform) (a : Is x) (b : Is y) (s : Tells x a) (t : Tells y b) (k : Bool) → keeps ≡ k → x.instruction_map ≡ y.instruction_map
  map_same x y a b s t true kept =
      same_members (λ (e : ℕ × ℕ). e.0) x.instruction_map y.instruction_map s.locations_rise t.locations_rise (map_moved x y a b s t kept) (map_moved y x b a t s kept)
  map_same x y a b s t false kept = s.without kept ∙ sym (t.without kept)

  told_same : (x y : Transform) (a : Is x) (b : Is y) → Tells x a → Tells y b → x ≡ y
  told_same x y a b s t =
      parts_same x y
      (same_members (λ (e : ℕ × (ℕ × ℕ)). e.0) x.function_ranges y.function_ranges s.rising t.rising (ranges_moved x y a b s t) (ranges_moved y x b a t s))
      (one_count bytes x.code_section_start y.code_section_start s.start t.start)
      (map_same x y a b s t keeps refl)

  abbrev Holds : (x : Transform) → Is x → Type 0
  Holds x a = TrueOf (imported_functions a.raw) a.offsets CountStandsAt keeps x bytes a.raw (numbering x a) v

  true_same : (x y : Transform) (a : Is x) (b : Is y) → Holds x a → Holds y b → x ≡ y
  true_same x y a b (inl p) (inl q) = told_same x y a b p.2 q.2
  true_same x y a b (inl p) (inr q) = absurd (q.0 p.0 p.1)
  true_same x y a b (inr p) (inl q) = absurd (p.0 q.0 q.1)
  true_same x y a b (inr p) (inr q) = p.1 ∙ sym q.1

pub one_transform : OneTransform
one_transform c keeps locations v bytes x y a b = true_same c keeps locations v bytes x y a b a.holds b.holds
