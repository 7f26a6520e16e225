-- Along the order of the module's own functions: what each is written as.
use Rattle.std.proofs.Common.{◌≡◌, ℕ, Bool, false, List, [], ◌∷◌, ◌++◌, map, refl, sym, ap, ◌∙◌, subst, Some}
use Rattle.std.specs.Prelude.{Contains, nat_eq, option_and_then, unwrap_or, zip, if◌then◌else◌}
use Rattle.std.specs.List.{AllZip, AllByRecursion, IsDistinct}
use Rattle.std.proofs.lemmas.List.Elements.{All-from_recursion}
use Rattle.walrus_base.specs.Id.{place}
use Rattle.walrus_base.specs.Operators.{Types, Functions}
use Rattle.walrus_base.specs.Shape.{place_in}
use Rattle.walrus_items.specs.Function.{function_type, args_of}
use Rattle.walrus_bodies.specs.declared.features.Features.{Features}
use Rattle.walrus_contents.specs.View.{body, parts_view}
use Rattle.walrus_contents.specs.declared.parts.Parts.{Parts}
use Rattle.walrus_base.proofs.Lookups.{heads}
use Rattle.walrus_model.specs.Abstract.{Abstract, Function}
use Rattle.walrus_model.specs.Ordered.{StandsFor}
use Rattle.walrus_model.specs.Renaming.{Renaming}
use Rattle.walrus_model.specs.Same.{SameFunction}
use Rattle.walrus_model.specs.Sections.{function_with}
use Rattle.walrus_base.proofs.Lists.{Contains-head, Contains-tail}
use Rattle.walrus_base.proofs.Standing.{self_eq}
use Rattle.walrus_theorem.specs.Text.{BodyText, said}
use Rattle.walrus_writing.specs.Parts.{HasBytes, function_seen, type_index}
use Rattle.walrus_writing.specs.Records.{Records, texts_in}
use Rattle.walrus_writing.proofs.Parted.{own_distinct}
use Rattle.walrus_writing.proofs.SameBodies.{same_body}
use Rattle.walrus_writing.proofs.WrittenAs.{laid_of, local_in_order, number_is, renaming_of, texts_of}

pub zip_weaker : {A B : Type 0} (R T : A → B → Type 0) → ((x : A) (y : B) → R x y → T x y) → (xs : List A) (ys : List B) → AllZip R xs ys → AllZip T xs ys
zip_weaker R T law [] [] h = tt
zip_weaker R T law [] (y ∷ ys) h = elim h [ ]
zip_weaker R T law (x ∷ xs) [] h = elim h [ ]
zip_weaker R T law (x ∷ xs) (y ∷ ys) h = (law x y h.0, zip_weaker R T law xs ys h.1)

other_than : (i f : ℕ) (is : List ℕ) → AllByRecursion (λ y. nat_eq i y ≡ false) is → Contains is f → nat_eq i f ≡ false
other_than i f is differ at = subst (λ (y : ℕ). nat_eq i y ≡ false) at.2 (All-from_recursion (λ y. nat_eq i y ≡ false) is differ at.0 f at.1)

module _ {p : Parts} {features : Features} (r : Records p features) where
  abbrev V : Abstract
  V = parts_view p

  abbrev R : Renaming
  R = renaming_of r

  abbrev pub Has : ℕ → List ℕ → Type 0
  Has i bytes = HasBytes p r.names features i bytes

  abbrev pub text_in : {i : ℕ} {bytes : List ℕ} → Has i bytes → BodyText
  text_in b = record { declarations = b.written.declarations; operators = b.written.texts }

  -- where a local stands in its function
  abbrev pub stands_in : {i : ℕ} {bytes : List ℕ} → Has i bytes → ℕ → ℕ
  stands_in b x = unwrap_or (place_in (args_of b.local ++ b.written.order) x) 0

  -- ---- the locals of each function

  abbrev pub Follow : (ℕ → ℕ → ℕ) → (order : List ℕ) (bodies : List (List ℕ)) → AllZip Has order bodies → Type 0
  Follow l [] [] a = Unit {0}
  Follow l (i ∷ is) (b ∷ bs) a = ((x : ℕ) → l i x ≡ stands_in a.0 x) × Follow l is bs a.1
  Follow l [] (b ∷ bs) a = elim a [ ]
  Follow l (i ∷ is) [] a = elim a [ ]

  pub follow : (l : ℕ → ℕ → ℕ) (order : List ℕ) (bodies : List (List ℕ)) (a : AllZip Has order bodies) → IsDistinct nat_eq order → ((f : ℕ) → Contains order f → (x : ℕ) → l f x ≡ local_in_order p r.names features order bodies a f x) → Follow l order bodies a
  unfolding IsDistinct
  follow l [] [] a differ same = tt
  follow l (i ∷ is) (b ∷ bs) a differ same = (
    λ x. same i (Contains-head i is) x ∙ ap (λ (t : Bool). if t then stands_in a.0 x else local_in_order p r.names features is bs a.1 i x) (self_eq i),
    follow l is bs a.1 differ.1 (λ f at x. same f (Contains-tail i f is at) x ∙ ap (λ (t : Bool). if t then stands_in a.0 x else local_in_order p r.names features is bs a.1 f x) (other_than i f is differ.0 at)),
  )
  follow l [] (b ∷ bs) a differ same = elim a [ ]
  follow l (i ∷ is) [] a differ same = elim a [ ]

  -- ---- the functions

  -- the function at a place is written as this one
  pub record IsRow (i : ℕ) (new : Function) : Type 0 where
    pub bytes : List ℕ
    pub has : Has i bytes
    pub t : ℕ
    pub typed : r.names Types (place (function_type has.local)) ≡ Some t
    pub new_is : new ≡ function_with (laid_of r) (t, said (text_in has))
    pub locals_at : (x : ℕ) → R.locals i x ≡ stands_in has x

  rows : (order raws : List ℕ) (bodies : List (List ℕ)) (a : AllZip Has order bodies) → map Some raws ≡ map (λ i. option_and_then (type_index r.names) (V.functions i)) order → Follow R.locals order bodies a
      → AllZip IsRow order (map (function_with (laid_of r)) (zip raws (map said (texts_in p r.names features order bodies a))))
  rows [] [] [] a e f = tt
  rows (i ∷ is) (t ∷ ts) (b ∷ bs) a e f =
      let q = heads (Some t) (option_and_then (type_index r.names) (V.functions i)) (map Some ts) (map (λ j. option_and_then (type_index r.names) (V.functions j)) is) e in (
        record { bytes = b; has = a.0; t = t; typed = sym (ap (option_and_then (type_index r.names)) a.0.is) ∙ sym q.0; new_is = refl; locals_at = f.0 },
        rows is ts bs a.1 q.1 f.1,
      )
  rows [] (t ∷ ts) bodies a e f = absurd (cc)
  rows (i ∷ is) [] bodies a e f = absurd (cc)
  rows [] [] (b ∷ bs) a e f = elim a [ ]
  rows (i ∷ is) (t ∷ ts) [] a e f = elim a [ ]

  abbrev pub new_functions : List Function
  new_functions = map (function_with (laid_of r)) (zip r.functions (map said (texts_of r)))

  pub all_rows : AllZip IsRow (r.own Functions) new_functions
  all_rows = rows (r.own Functions) r.functions r.bodies r.bodies_are r.functions_are (follow R.locals (r.own Functions) r.bodies r.bodies_are (own_distinct r Functions) (λ f at x. refl))

  -- it is the same function
  row_stands : (i : ℕ) (new : Function) → IsRow i new → StandsFor (SameFunction R) V.functions i new
  row_stands i new w = (
    function_seen p w.has.local,
    w.has.is,
    subst (λ (g : Function). SameFunction R i (function_seen p w.has.local) g) (sym w.new_is) (record {
      ty = number_is r Types (place (function_type w.has.local)) w.t w.typed;
      kind = same_body r i w.t w.bytes w.has w.typed w.locals_at (body p.locals.now w.has.local) refl refl (λ x. refl);
    }),
  )

  pub functions_stand : AllZip (StandsFor (SameFunction R) V.functions) (r.own Functions) new_functions
  functions_stand = zip_weaker IsRow (StandsFor (SameFunction R) V.functions) row_stands (r.own Functions) new_functions all_rows
