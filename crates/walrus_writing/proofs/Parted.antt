-- The items that the module defines, behind what imports bring.
use Rattle.std.proofs.Common.{⊎_elim, ◌≡◌, ℕ, zero, suc, ◌+◌, List, [], ◌∷◌, ◌++◌, map, refl, sym, ap, ◌∙◌, subst, Some, None}
use Rattle.std.specs.Prelude.{Option, IsSome, Contains, filter_map, nat_eq, option_and_then, option_to_list, slice_get}
use Rattle.std.specs.List.{AllByRecursion, AllZip, IsDistinct}
use Rattle.wasm_entries.specs.Record as wire
use Rattle.wasm_entries.specs.declared.record.RawDesc.{RawDesc}
use Rattle.wasm_entries.specs.declared.record.RawDesc.TheVariants as descs
use Rattle.walrus_base.specs.Operators.{Space, Functions}
use Rattle.walrus_bodies.specs.declared.features.Features.{Features}
use Rattle.walrus_contents.specs.View.{parts_view}
use Rattle.walrus_contents.specs.declared.parts.Parts.{Parts}
use Rattle.walrus_model.specs.Abstract.{Abstract, Body, Function, FunctionKind, ImportedFunction, LocalFunction, Uninitialised}
use Rattle.walrus_model.specs.Imported.{import_number}
use Rattle.walrus_model.specs.Names.{body_of, body_of_function, body_of_kind}
use Rattle.walrus_model.specs.Ordered.{StandsFor}
use Rattle.walrus_model.specs.Sections.{imported, imported_function}
use Rattle.walrus_model.specs.WellMade.{import_in, import_of, kind_import}
use Rattle.walrus_base.proofs.Lists.{Contains-head, Contains-tail}
use Rattle.walrus_plan.specs.Brought.{import_numbers}
use Rattle.walrus_writing.specs.Records.{Records}
use Rattle.walrus_model.proofs.OrderByImport.{brought_in, in_either}
use Rattle.walrus_code.proofs.Somes.{none_some}

-- ---- lists

distinct_behind : (xs ys : List ℕ) → IsDistinct nat_eq (xs ++ ys) → IsDistinct nat_eq ys
unfolding IsDistinct
distinct_behind [] ys h = h
distinct_behind (x ∷ xs) ys h = distinct_behind xs ys h.1

-- records of items of a list: what an item is written as may turn on its being there and in the list
module _ {X W : Type 0} (S : ℕ → X → X → Type 0) (xs : ℕ → Option X) (raw : X → Option W) (back : W → X) (all : List ℕ) (law : (p : ℕ) (x : X) (w : W) → Contains all p → xs p ≡ Some x → raw x ≡ Some w → S p x (back w)) where
  one_among : (p : ℕ) (w : W) (o : Option X) → Contains all p → xs p ≡ o → Some w ≡ option_and_then raw o → StandsFor S xs p (back w)
  one_among p w (Some x) within at e = (x, at, law p x w within at (sym e))
  one_among p w None within at e = absurd (cc)

  some_among : (order : List ℕ) (raws : List W) → ((p : ℕ) → Contains order p → Contains all p) → map Some raws ≡ map (λ p. option_and_then raw (xs p)) order → AllZip (StandsFor S xs) order (map back raws)
  some_among [] [] within e = tt
  some_among [] (w ∷ raws) within e = absurd (cc)
  some_among (p ∷ order) [] within e = absurd (cc)
  some_among (p ∷ order) (w ∷ raws) within e =
      let head : Some w ≡ option_and_then raw (xs p) = cc in
      let rest : map Some raws ≡ map (λ q. option_and_then raw (xs q)) order = cc in
      (one_among p w (xs p) (within p (Contains-head p order)) refl head, some_among order raws (λ q at. within q (Contains-tail p q order at)) rest)

  pub stand_among : (raws : List W) → map Some raws ≡ map (λ p. option_and_then raw (xs p)) all → AllZip (StandsFor S xs) all (map back raws)
  stand_among raws e = some_among all raws (λ p at. at) e

-- ---- functions that imports bring have no body

-- what holds of each thing that a description gives holds of all that imports bring
module _ {X : Type 0} (get : ℕ → RawDesc → Option X) (P : X → Type 0) (law : (k : ℕ) (d : RawDesc) (x : X) → get k d ≡ Some x → P x) where
  one_brought : (k : ℕ) (w : wire.Import) (ws : List wire.Import) (o : Option X) → get k w.desc ≡ o → AllByRecursion P (imported get (k + 1) ws) → AllByRecursion P (option_to_list o ++ imported get (k + 1) ws)
  one_brought k w ws None at rest = rest
  one_brought k w ws (Some x) at rest = (law k w.desc x at, rest)

  pub all_brought : (k : ℕ) (ws : List wire.Import) → AllByRecursion P (imported get k ws)
  all_brought k [] = tt
  all_brought k (w ∷ ws) = one_brought k w ws (get k w.desc) refl (all_brought (k + 1) ws)

abbrev pub HasNoBody : Function → Type 0
HasNoBody g = body_of_kind g.kind ≡ None

no_body : (k : ℕ) (d : RawDesc) (g : Function) → imported_function k d ≡ Some g → HasNoBody g
no_body k (descs.Function t) g e = sym (ap body_of_function e)
no_body k (descs.Table t) g e = absurd (cc)
no_body k (descs.Memory t) g e = absurd (cc)
no_body k (descs.Global t) g e = absurd (cc)
no_body k (descs.Tag t) g e = absurd (cc)

-- a function with a body stands behind those without one
pub body_behind : (xs ys : List Function) → AllByRecursion HasNoBody xs → (f : ℕ) (b : Body) → body_of_function (slice_get (xs ++ ys) f) ≡ Some b → (j : ℕ) × (slice_get ys j ≡ slice_get (xs ++ ys) f)
body_behind [] ys none f b e = (f, refl)
body_behind (x ∷ xs) ys none zero b e = absurd (none_some b (sym none.0 ∙ e))
body_behind (x ∷ xs) ys none (suc f) b e = body_behind xs ys none.1 f b e

pub functions_brought : (ws : List wire.Import) → AllByRecursion HasNoBody (imported imported_function 0 ws)
functions_brought ws = all_brought imported_function HasNoBody no_body 0 ws

-- ---- of records

not_imported : (k : FunctionKind) (b : Body) → body_of_kind k ≡ Some b → kind_import k ≡ None
not_imported (LocalFunction d) b e = refl
not_imported (ImportedFunction i) b e = absurd (none_some b e)
not_imported Uninitialised b e = absurd (none_some b e)

own_body : (o : Option Function) (b : Body) → body_of_function o ≡ Some b → import_in (λ (f : Function). kind_import f.kind) o ≡ None
own_body (Some f) b e = not_imported f.kind b e
own_body None b e = refl

pub live_body : (o : Option Function) (b : Body) → body_of_function o ≡ Some b → IsSome o
live_body (Some f) b e = refl
live_body None b e = absurd (none_some b e)

module _ {p : Parts} {features : Features} (r : Records p features) where
  abbrev V : Abstract
  V = parts_view p

  pub own_distinct : (s : Space) → IsDistinct nat_eq (r.own s)
  own_distinct s = distinct_behind (filter_map (import_number V s) (import_numbers p)) (r.own s) (subst (λ (l : List ℕ). IsDistinct nat_eq l) (r.parted s) (r.is_plan.holds s).differ)

  -- what no import brings is one of the module's own
  pub own_among : (s : Space) (i : ℕ) → Contains (r.plan s) i → import_of V (s, i) ≡ None → Contains (r.own s) i
  own_among s i at none = ⊎_elim
      (λ first. let q = brought_in V r.matched s (import_numbers p) i first in absurd (none_some q.0 (sym none ∙ q.1)))
      (λ own. own)
      (in_either (filter_map (import_number V s) (import_numbers p)) (r.own s) i (subst (λ (l : List ℕ). Contains l i) (r.parted s) at))

  -- so is a function with a body
  pub body_among : (f : ℕ) (b : Body) → body_of V f ≡ Some b → Contains (r.own Functions) f
  body_among f b e = own_among Functions f ((r.is_plan.holds Functions).all f (live_body (V.functions f) b e)) (own_body (V.functions f) b e)
