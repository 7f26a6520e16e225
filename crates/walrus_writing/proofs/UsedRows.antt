-- The used locals of each body, beside the function that it is written as.
use Rattle.std.proofs.Common.{◌≡◌, ℕ, suc, ◌+◌, ◌-◌, ◌<◌, true, List, [], ◌∷◌, ◌++◌, length, map, refl, sym, ap, ◌∙◌, arith, Some}
use Rattle.std.specs.Prelude.{filter_map, option_and_then, slice_get, zip}
use Rattle.std.specs.List.{AllZip}
use Rattle.std.proofs.lemmas.List.{length-append}
use Rattle.walrus_base.specs.Operators.{Functions}
use Rattle.walrus_items.specs.Function.{args_of}
use Rattle.walrus_bodies.specs.declared.features.Features.{Features}
use Rattle.walrus_functions.specs.Handlers.{params_of}
use Rattle.walrus_contents.specs.View.{parts_view}
use Rattle.walrus_contents.specs.declared.parts.Parts.{Parts}
use Rattle.walrus_base.proofs.Lookups.{heads, there}
use Rattle.walrus_model.proofs.Looked.{unzipped}
use Rattle.walrus_model.proofs.PlacedTypes.{zip_length}
use Rattle.walrus_model.specs.Abstract.{ALocal, Function}
use Rattle.walrus_model.specs.Imported.{brought, import_number}
use Rattle.walrus_model.specs.Names.{body_of, body_of_function}
use Rattle.walrus_model.specs.Ordered.{StandsFor}
use Rattle.walrus_model.specs.Sections.{body_with, function_with, types_of}
use Rattle.walrus_model.specs.Spaces.{SameThing, look}
use Rattle.walrus_base.proofs.Standing.{some_of, zip_right}
use Rattle.walrus_theorem.specs.Namings.{has_local, is_in_range}
use Rattle.walrus_theorem.specs.Text.{said}
use Rattle.walrus_groups.proofs.OneList.{got_at}
use Rattle.walrus_plan.specs.Brought.{import_numbers}
use Rattle.walrus_writing.specs.Parts.{HasBytes, type_index, used_locals}
use Rattle.walrus_writing.specs.Records.{Records, texts_in, used_in}
use Rattle.walrus_writing.proofs.CarriedOver.{written_along}
use Rattle.walrus_writing.proofs.FunctionsWritten.{Follow, IsRow, all_rows, follow, new_functions, text_in}
use Rattle.walrus_writing.proofs.OwnCustoms.{CustomText}
use Rattle.walrus_writing.proofs.Parted.{own_distinct}
use Rattle.walrus_writing.proofs.SameBodies.{in_body}
use Rattle.walrus_writing.proofs.WithCustoms.{module_with}
use Rattle.walrus_writing.proofs.WrittenAs.{laid_of, renaming_of}
use Rattle.walrus_groups.proofs.TypeLists.{got_right as behind}

module _ {p : Parts} {features : Features} (r : Records p features) where
  abbrev order : List ℕ
  order = r.own Functions

  -- of each body
  abbrev pub used : List (List (ℕ × ℕ))
  used = used_in p r.names features (r.own Functions) r.bodies r.bodies_are

  abbrev IsUsedRow : ℕ → Function × List (ℕ × ℕ) → Type 0
  IsUsedRow i row = (w : IsRow r i row.0) × (row.1 ≡ used_locals w.has)

  rows : (is raws : List ℕ) (bodies : List (List ℕ)) (a : AllZip (HasBytes p r.names features) is bodies) → map Some raws ≡ map (λ i. option_and_then (type_index r.names) ((parts_view p).functions i)) is → Follow r (renaming_of r).locals is bodies a
      → AllZip IsUsedRow is (zip (map (function_with (laid_of r)) (zip raws (map said (texts_in p r.names features is bodies a)))) (used_in p r.names features is bodies a))
  rows [] [] [] a e f = tt
  rows (i ∷ is) (t ∷ ts) (b ∷ bs) a e f =
      let q = heads (Some t) (option_and_then (type_index r.names) ((parts_view p).functions i)) (map Some ts) (map (λ j. option_and_then (type_index r.names) ((parts_view p).functions j)) is) e in (
        (record { bytes = b; has = a.0; t = t; typed = sym (ap (option_and_then (type_index r.names)) a.0.is) ∙ sym q.0; new_is = refl; locals_at = f.0 }, refl),
        rows is ts bs a.1 q.1 f.1,
      )
  rows [] (t ∷ ts) bodies a e f = absurd (cc)
  rows (i ∷ is) [] bodies a e f = absurd (cc)
  rows [] [] (b ∷ bs) a e f = elim a [ ]
  rows (i ∷ is) (t ∷ ts) [] a e f = elim a [ ]

  used_rows : AllZip IsUsedRow (r.own Functions) (zip (new_functions r) used)
  used_rows = rows (r.own Functions) r.functions r.bodies r.bodies_are r.functions_are (follow r (renaming_of r).locals (r.own Functions) r.bodies r.bodies_are (own_distinct r Functions) (λ f at x. refl))

  -- the function at a place of the module's own: what it is written as, and its used locals
  pub record IsAt (k i : ℕ) : Type 0 where
    pub own_at : slice_get (r.own Functions) k ≡ Some i
    pub new : Function
    pub row : IsRow r i new
    pub function_at : slice_get (new_functions r) k ≡ Some new
    pub used_at : slice_get used k ≡ Some (used_locals row.has)

  pub at_place : (k i : ℕ) → slice_get (r.own Functions) k ≡ Some i → IsAt k i
  at_place k i at =
      let z = zip_right IsUsedRow (r.own Functions) (zip (new_functions r) used) k i used_rows at in
      let both = unzipped (new_functions r) used k z.0 z.1 in
      record { own_at = at; new = z.0.0; row = z.2.0; function_at = both.0; used_at = both.1 ∙ ap (λ (u : List (ℕ × ℕ)). Some u) z.2.1 }

  used_long : (is : List ℕ) (bodies : List (List ℕ)) (a : AllZip (HasBytes p r.names features) is bodies) → length (used_in p r.names features is bodies a) ≡ length is
  used_long [] [] a = refl
  used_long (i ∷ is) (b ∷ bs) a = ap suc (used_long is bs a.1)
  used_long [] (b ∷ bs) a = elim a [ ]
  used_long (i ∷ is) [] a = elim a [ ]

  pub any_place : (k : ℕ) → k < length used → (i : ℕ) × IsAt k i
  any_place k low =
      let long : length used ≡ length (r.own Functions) = used_long (r.own Functions) r.bodies r.bodies_are in
      let i = some_of (slice_get (r.own Functions) k) (there (r.own Functions) k (omega (arith, low, long))) in
      (i.0, at_place k i.0 i.1)

  -- ---- their indices: these functions stand behind those that imports bring

  abbrev pub first : ℕ
  first = length (r.plan Functions) - length (r.own Functions)

  abbrev brought_numbers : List ℕ
  brought_numbers = filter_map (import_number (parts_view p) Functions) (import_numbers p)

  first_is : first ≡ length brought_numbers
  first_is = omega (arith, ap length (r.parted Functions), length-append brought_numbers (r.own Functions))

  pub planned : (k i : ℕ) → slice_get (r.own Functions) k ≡ Some i → slice_get (r.plan Functions) (first + k) ≡ Some i
  planned k i at = ap (λ (l : List ℕ). slice_get l (first + k)) (r.parted Functions) ∙ behind brought_numbers (r.own Functions) k (first + k) (ap (λ (n : ℕ). n + k) first_is) ∙ at

  as_many : length (r.plan Functions) ≡ length (brought Functions r.imports ++ new_functions r)
  as_many =
      let w = written_along r Functions in
      zip_length (StandsFor (SameThing (renaming_of r) Functions) (look (parts_view p) Functions)) (r.plan Functions) w.written w.stand
      ∙ ap length (got_at w.written (brought Functions r.imports ++ new_functions r) (λ j. sym (w.reads j)))

  brought_first : first ≡ length (brought Functions r.imports)
  brought_first = omega (arith, as_many, length-append (brought Functions r.imports) (new_functions r), zip_length (IsRow r) (r.own Functions) (new_functions r) (all_rows r))

  module _ (e : CustomText) (k i : ℕ) (a : IsAt k i) where
    pub body_there : body_of (module_with r e) (first + k) ≡ Some (body_with (params_of (types_of (laid_of r) a.row.t)) (said (text_in r a.row.has)))
    body_there =
        ap body_of_function (behind (brought Functions r.imports) (new_functions r) k (first + k) (ap (λ (n : ℕ). n + k) brought_first) ∙ a.function_at)
        ∙ ap (λ (f : Function). body_of_function (Some f)) a.row.new_is

    -- each of its locals is in range
    pub local_there : (y : ℕ) → y < length a.row.has.ids → is_in_range (module_with r e) (ALocal (first + k) y) ≡ true
    local_there y low =
        let listed : length a.row.has.ids ≡ length (args_of a.row.has.local ++ a.row.has.written.order) = ap length a.row.has.written.listed in
        ap (has_local y) body_there ∙ in_body r i a.row.t a.row.bytes a.row.has a.row.typed a.row.locals_at y (omega (arith, low, listed))
