-- A body is told by what it says: its declarations by the locals that they declare, its operators one by one. Functions with their bodies
-- are told by what stands at each index.
use Rattle.std.proofs.Common.{◌≡◌, ℕ, ◌<◌, List, [], ◌∷◌, ◌++◌, length, map, refl, sym, ap, ap₂, ◌∙◌, arith}
use Rattle.std.specs.Prelude.{◌≢◌, None, All, flat_map, replicate, zip}
use Rattle.std.specs.List.{AllByRecursion}
use Rattle.std.proofs.lemmas.List.Elements.{All-head, All-tail, recursion_from_All}
use Rattle.wasm_forms.specs.declared.types.RawVal.{RawVal}
use Rattle.wasm_forms.specs.Types.{ValueStands}
use Rattle.wasm_operators.specs.Operators as wire
use Rattle.wasm_operators.specs.Spelling.{op_bytes}
use Rattle.walrus_base.specs.Types.{ValType}
use Rattle.walrus_code.specs.FromRaw.{val_of, ops_of}
use Rattle.walrus_bodies.specs.Emitting.{AllStand}
use Rattle.walrus_model.specs.Abstract.{Body, FunctionKind, ImportedFunction, LocalFunction, Uninitialised, Function}
use Rattle.walrus_model.specs.Sections.{Said, body_with}
use Rattle.walrus_theorem.specs.Text.{BodyText, said}
use Rattle.walrus_theorem.specs.Spelling.{BodyStands}
use Rattle.walrus_model.proofs.LawOrder.{Sorted, sorted_of, one_grouping, spread_of, Apart, Filled}
use Rattle.walrus_model.proofs.OneGroup.{split_same, val_stands}
use Rattle.walrus_code.proofs.OneText.{OpGood, one_text, one_val}
use Rattle.wasm_operators.proofs.TextsStand.{operator_good}
use Rattle.walrus_model.proofs.OneList.{got_same, told_map}

-- ---- declarations

abbrev typed : ℕ × RawVal → ℕ × ValType ℕ
typed d = (d.0, val_of d.1)

abbrev pub spread : List (ℕ × RawVal) → List (ValType ℕ)
spread ds = flat_map (λ (d : ℕ × RawVal). replicate d.0 (val_of d.1)) ds

spread_typed : (ds : List (ℕ × RawVal)) → spread_of (map typed ds) ≡ spread ds
spread_typed [] = refl
spread_typed (d ∷ ds) = ap (λ l. replicate d.0 (val_of d.1) ++ l) (spread_typed ds)

abbrev pub TypeStands : ℕ × RawVal → Type 0
TypeStands d = ValueStands d.1

pub same_val : (v w : RawVal) → ValueStands v → ValueStands w → val_of v ≡ val_of w → v ≡ w
same_val v w h g e = one_val v w (val_stands v h) (val_stands w g) e

abbrev pub Differ : ℕ × RawVal → ℕ × RawVal → Type 0
Differ d e = d.1 ≢ e.1

apart_each : (d : ℕ × RawVal) (ds : List (ℕ × RawVal)) → TypeStands d → AllByRecursion TypeStands ds → AllByRecursion (Differ d) ds → AllByRecursion (Apart (typed d)) (map typed ds)
apart_each d [] h all apart = tt
apart_each d (e ∷ es) h all apart = ((λ same. apart.0 (same_val d.1 e.1 h all.0 same)), apart_each d es h all.1 apart.1)

apart_all : (ds : List (ℕ × RawVal)) → AllByRecursion TypeStands ds → Sorted Differ ds → Sorted Apart (map typed ds)
apart_all [] all s = tt
apart_all (d ∷ ds) all s = (apart_each d ds all.0 all.1 s.0, apart_all ds all.1 s.1)

filled_all : (ds : List (ℕ × RawVal)) → AllByRecursion (λ (d : ℕ × RawVal). 0 < d.0) ds → AllByRecursion Filled (map typed ds)
filled_all [] h = tt
filled_all (d ∷ ds) h = (h.0, filled_all ds h.1)

one_typed : (d e : ℕ × RawVal) → TypeStands d → TypeStands e → typed d ≡ typed e → d ≡ e
one_typed d e h g same = ap₂ (λ (n : ℕ) (v : RawVal). (n, v)) (ap (λ (x : ℕ × ValType ℕ). x.0) same) (same_val d.1 e.1 h g (ap (λ (x : ℕ × ValType ℕ). x.1) same))

one_declared : (s t : BodyText) → BodyStands s → BodyStands t → spread s.declarations ≡ spread t.declarations → s.declarations ≡ t.declarations
one_declared s t h g same =
    let ds = s.declarations in
    let es = t.declarations in
    let groups : map typed es ≡ map typed ds = one_grouping (map typed ds) (map typed es)
    (apart_all ds (recursion_from_All TypeStands ds h.types) (sorted_of Differ ds h.apart))
    (apart_all es (recursion_from_All TypeStands es g.types) (sorted_of Differ es g.apart))
    (filled_all ds (recursion_from_All (λ (d : ℕ × RawVal). 0 < d.0) ds h.filled))
    (filled_all es (recursion_from_All (λ (d : ℕ × RawVal). 0 < d.0) es g.filled))
    (spread_typed ds ∙ same ∙ sym (spread_typed es)) in
    told_map typed TypeStands one_typed ds es h.types g.types (sym groups)

-- ---- operators

all_good : (texts : List wire.Op) → AllStand texts → AllByRecursion OpGood texts
all_good [] all = tt
all_good (o ∷ os) all = (operator_good (op_bytes o) o all.0, all_good os all.1)

one_body : (s t : BodyText) → BodyStands s → BodyStands t → spread s.declarations ≡ spread t.declarations → ops_of s.operators ≡ ops_of t.operators → s ≡ t
one_body s t h g declared operators =
    ap₂ (λ (ds : List (ℕ × RawVal)) (os : List wire.Op). record { declarations = ds; operators = os })
    (one_declared s t h g declared)
    (one_text s.operators t.operators (all_good s.operators h.operators) (all_good t.operators g.operators) operators)

-- ---- functions

module _ (params : ℕ → List (ValType ℕ)) where
  abbrev pub made : ℕ × Said → Function
  made f = record { ty = f.0; kind = LocalFunction (body_with (params f.0) f.1) }

  abbrev no_body : Body
  no_body = record { parameters = []; local_type = λ x. None; declared = 0; operators = [] }

  abbrev body_in : FunctionKind → Body
  body_in (LocalFunction b) = b
  body_in (ImportedFunction i) = no_body
  body_in Uninitialised = no_body

  one_made : (f g : ℕ) (s t : BodyText) → BodyStands s → BodyStands t → made (f, said s) ≡ made (g, said t) → (f ≡ g) × (s ≡ t)
  one_made f g s t h k e =
      let ty : f ≡ g = ap (λ (x : Function). x.ty) e in
      let body : body_with (params f) (said s) ≡ body_with (params g) (said t) = ap (λ (x : Function). body_in x.kind) e in
      let locals : params f ++ spread s.declarations ≡ params g ++ spread t.declarations = got_same (params f ++ spread s.declarations) (params g ++ spread t.declarations) (ap (λ (b : Body). b.local_type) body) in
      let parts = split_same (params f) (params g) (spread s.declarations) (spread t.declarations) (ap (λ (x : ℕ). length (params x)) ty) locals in
      (ty, one_body s t h k parts.1 (ap (λ (b : Body). b.operators) body))

  cons_parts : {A : Type 0} (x y : A) (xs ys : List A) → x ∷ xs ≡ y ∷ ys → (x ≡ y) × (xs ≡ ys)
  cons_parts x y xs ys e = (cc, cc)

  pub one_functions : (fs gs : List ℕ) (ss ts : List BodyText) → length ss ≡ length fs → length ts ≡ length gs → All BodyStands ss → All BodyStands ts → map made (zip fs (map said ss)) ≡ map made (zip gs (map said ts)) → (fs ≡ gs) × (ss ≡ ts)
  one_functions [] [] [] [] m n h k e = (refl, refl)
  one_functions [] gs (s ∷ ss) ts m n h k e = absurd (omega (arith, m))
  one_functions fs [] ss (t ∷ ts) m n h k e = absurd (omega (arith, n))
  one_functions (f ∷ fs) gs [] ts m n h k e = absurd (omega (arith, m))
  one_functions fs (g ∷ gs) ss [] m n h k e = absurd (omega (arith, n))
  one_functions [] (g ∷ gs) [] (t ∷ ts) m n h k e = absurd cc
  one_functions (f ∷ fs) [] (s ∷ ss) [] m n h k e = absurd cc
  one_functions (f ∷ fs) (g ∷ gs) (s ∷ ss) (t ∷ ts) m n h k e =
      let parts = cons_parts (made (f, said s)) (made (g, said t)) (map made (zip fs (map said ss))) (map made (zip gs (map said ts))) e in
      let head = one_made f g s t (All-head BodyStands s ss h) (All-head BodyStands t ts k) parts.0 in
      let rest = one_functions fs gs ss ts (omega (arith, m)) (omega (arith, n)) (All-tail BodyStands s ss h) (All-tail BodyStands t ts k) parts.1 in
      (ap₂ ◌∷◌ head.0 rest.0, ap₂ ◌∷◌ head.1 rest.1)
