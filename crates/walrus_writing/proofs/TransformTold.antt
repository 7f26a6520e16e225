-- The transform that is made of the places of bodies is that of all bytes that the parts are written as, with these sections of dynamic
-- linking.
use Rattle.std.proofs.Common.{◌≡◌, inl, inr, ℕ, zero, suc, ◌+◌, Bool, true, false, cond, List, [], ◌∷◌, ◌++◌, length, map, refl, sym, ap, ◌∙◌, subst, Some, append-nil}
use Rattle.std.specs.Prelude.{All, Contains, filter, filter_map, slice_get, zip}
use Rattle.std.specs.Str.{IsUtf8}
use Rattle.std.specs.declared.ops.Range.{Range}
use Rattle.std.proofs.lemmas.List.Elements.{filter-append}
use Rattle.std.proofs.lemmas.List.Sorted.{length_permutation}
use Rattle.std.proofs.lemmas.List.{length-map, nil_from_length}
use Rattle.wasm_frames.specs.Record as wire
use Rattle.wasm_frames.specs.Frames.{CustomSection, Frames, header}
use Rattle.wasm_frames.specs.Spelling.{body_bytes}
use Rattle.wasm_payloads.specs.Spelling.{NameText, names_bytes}
use Rattle.wasm_writer.specs.Spelling.{all_spelled, count_place, first_body, placed_bodies, range_of}
use Rattle.wasm_wire.specs.ModuleSpelling.{as_written, before_code, code_place, group_of, is_in}
use Rattle.wasm_wire.specs.declared.written.CustomGroup.TheVariants.{Dylink}
use Rattle.wasm_wire.proofs.ModuleFramed.{module_frames}
use Rattle.walrus_base.specs.Operators.{Functions, Item}
use Rattle.walrus_functions.specs.Transform.{Transform}
use Rattle.walrus_contents.specs.View.{body, parts_view}
use Rattle.walrus_contents.specs.declared.parts.Parts.{Parts}
use Rattle.walrus_model.proofs.PlacedTypes.{zip_length}
use Rattle.walrus_model.specs.Abstract.{Abstract, Custom, ProducerField}
use Rattle.walrus_model.specs.Config.{Config}
use Rattle.walrus_model.specs.Customs.{written_customs}
use Rattle.walrus_model.specs.Dead.{HasDead}
use Rattle.walrus_model.specs.Declared.{NothingUndeclared}
use Rattle.walrus_model.specs.Imported.{import_number}
use Rattle.walrus_model.specs.Names.{body_of, body_of_function}
use Rattle.walrus_model.specs.Renaming.{Renaming}
use Rattle.walrus_model.specs.Sections.{custom_of}
use Rattle.walrus_model.specs.Spaces.{look, SameThing}
use Rattle.walrus_model.specs.Ordered.{StandsFor}
use Rattle.walrus_model.specs.Transform.{IsBodyOf, IsLocalFunction, TrueOf, no_transform}
use Rattle.walrus_model.proofs.ImportedZip.{imported_zip}
use Rattle.walrus_model.proofs.Indices.{planned_index}
use Rattle.walrus_base.proofs.Lists.{Contains-none}
use Rattle.walrus_model.proofs.Orders.{is_some_by}
use Rattle.walrus_base.proofs.Standing.{got_where, some_inj, some_of, zip_right}
use Rattle.walrus_plan.specs.Brought.{import_numbers}
use Rattle.walrus_theorem.specs.Refused.{IsSayable}
use Rattle.walrus_theorem.proofs.SameItems.{with_own}
use Rattle.walrus_writing.specs.Customs.{Task, chosen_producers, payload_of, sections_made}
use Rattle.walrus_writing.specs.Emitted.{IsWrittenWith}
use Rattle.walrus_writing.specs.Located.{AreOffsets, AreSorted, LastPlaces, all_placed_from, by_ends, ends_of, lasts}
use Rattle.walrus_writing.specs.Parts.{HasBytes, unplaced}
use Rattle.walrus_writing.specs.Records.{Records, Spells, module_of, names_written}
use Rattle.walrus_writing.specs.Transform.{CountStandsAt, IsTransformOf, OperatorsStandAt, imported_functions, locations_at}
use Rattle.walrus_writing.proofs.Bare.{are_bare}
use Rattle.walrus_writing.proofs.CountTold.{count_stands}
use Rattle.walrus_writing.proofs.Emitted.{renaming_written}
use Rattle.walrus_writing.proofs.ImportedAlong.{entries_brought}
use Rattle.walrus_writing.proofs.ImportsCarried.{index_is}
use Rattle.walrus_writing.proofs.OneRecords.{bytes_one, fits_one, module_by, spelled_one, stands_one, whole, written_by}
use Rattle.walrus_writing.proofs.OneTransform.{parts_same}
use Rattle.walrus_writing.proofs.Parted.{body_among, own_distinct}
use Rattle.walrus_writing.proofs.Placing.{Pair, also_there, offsets_at, offsets_in, offsets_none}
use Rattle.walrus_writing.proofs.TransformTrue.{body_there, is_transform}
use Rattle.walrus_writing.proofs.WritesSections.{none_made}
use Rattle.walrus_writing.proofs.WrittenAs.{number_is, renaming_of}
use Rattle.walrus_groups.proofs.TypeLists.{got_right as behind_at}
use Rattle.walrus_model.proofs.Looked.{got_contains as is_there}

-- ---- lists

filter_one : {A : Type 0} (test : A → Bool) (b : Bool) (x : A) (kept : List A) → test x ≡ b → filter test kept ≡ kept → filter test (cond b (x ∷ kept) kept) ≡ cond b (x ∷ kept) kept
filter_one test true x kept e h = ap (λ (t : Bool). cond t (x ∷ filter test kept) (filter test kept)) e ∙ ap (λ (l : List _). x ∷ l) h
filter_one test false x kept e h = h

filter_twice : {A : Type 0} (test : A → Bool) (xs : List A) → filter test (filter test xs) ≡ filter test xs
filter_twice test [] = refl
filter_twice test (x ∷ xs) = filter_one test (test x) x (filter test xs) refl (filter_twice test xs)

-- ---- sections of dynamic linking

dylinks_same : (sections : List wire.Custom) (names : NameText) (fields : List ProducerField) → group_of Dylink (sections ++ sections_made names fields) ≡ group_of Dylink (group_of Dylink sections)
dylinks_same sections names fields =
    filter-append (λ (c : wire.Custom). is_in Dylink c.name) sections (sections_made names fields)
    ∙ ap (λ (l : List wire.Custom). group_of Dylink sections ++ l) (none_made (names_bytes names) (payload_of fields))
    ∙ append-nil (group_of Dylink sections)
    ∙ sym (filter_twice (λ (c : wire.Custom). is_in Dylink c.name) sections)

-- ---- bodies where they are written

pub placed_at : (n : ℕ) (bs : List (List ℕ)) (k : ℕ) (b : wire.Body) → slice_get (placed_bodies n (map unplaced bs)) k ≡ Some b → slice_get bs k ≡ Some b.bytes
placed_at n [] k b e = absurd (cc)
placed_at n (x ∷ bs) zero b e = ap (λ (z : wire.Body). Some z.bytes) (some_inj _ b e)
placed_at n (x ∷ bs) (suc k) b e = placed_at (n + length (body_bytes (unplaced x))) bs k b e

pub placed_many : (n : ℕ) (bs : List wire.Body) → length bs ≡ length (placed_bodies n bs)
placed_many n [] = refl
placed_many n (b ∷ bs) = ap suc (placed_many (n + length (body_bytes b)) bs)

-- ---- nothing of nothing

none_last : (keeps : Bool) (all found : List Pair) → all ≡ [] → LastPlaces keeps all found → found ≡ []
none_last false all found none h = h
none_last true all found none h = h.2 ∙ ap lasts (nil_from_length h.0 (length_permutation all h.0 h.1.moved ∙ ap length none))

-- what is told of each body
abbrev pub Offsets : Parts → (order : List ℕ) (bodies : List (List ℕ)) (rest : List (List Pair)) → Type 0
Offsets p order bodies rest = (k f : ℕ) (b : List ℕ) → slice_get order k ≡ Some f → slice_get bodies k ≡ Some b → (o : List Pair) × (slice_get rest k ≡ Some o) × AreOffsets p f b o

module _ (c : Config) (p : Parts) (job : Task) (with : IsWrittenWith c job.choices) (lives : HasDead (parts_view p) → ⊥) (declared : NothingUndeclared (parts_view p)) (own : List Custom) (roots : List Item)
    (asked : map custom_of job.sections ≡ written_customs (λ x. job.names x.0 x.1) own) (texts : All (λ (x : wire.Custom). IsUtf8 x.name) job.sections) (sayable : IsSayable (with_own (parts_view p) own roots))
    (r : Records p job.choices.features) (names_are : r.names ≡ job.names) where
  abbrev V : Abstract
  V = parts_view p

  abbrev W : Abstract
  W = with_own V own roots

  abbrev order : List ℕ
  order = r.own Functions

  -- ---- functions

  local : (f : ℕ) → Contains order f → IsLocalFunction W f
  local f at =
      let z = zip_right (HasBytes p r.names job.choices.features) order r.bodies at.0 f r.bodies_are (got_where order f at) in
      is_some_by (body_of V f) (body p.locals.now z.2.local) (ap body_of_function z.2.is)

  listed : (f : ℕ) → IsLocalFunction W f → Contains order f
  listed f h = let b = some_of (body_of V f) h in body_among r f b.0 b.1

  abbrev M : wire.Module
  M = whole c p job with lives declared own roots asked texts sayable r

  abbrev raw : wire.Module
  raw = as_written M

  abbrev first : List ℕ
  first = filter_map (import_number V Functions) (import_numbers p)

  imports_are : imported_functions raw ≡ length first
  imports_are =
      sym (zip_length (λ i y. StandsFor (SameThing (renaming_of r) Functions) (look V Functions) i y) _ _
      (imported_zip (renaming_of r) V Functions (import_numbers p) r.imports
      (entries_brought r.names (renaming_of r) (λ s i j e. sym (number_is r s i j e)) V (are_bare p r.matched) (import_numbers p) r.imports (index_is p) r.imports_are)))

  abbrev R : Renaming
  R = (written_by c p job with lives declared own roots asked texts sayable r names_are).written.renaming

  numbered : (k f : ℕ) → slice_get order k ≡ Some f → R.numbers Functions f ≡ imported_functions raw + k
  numbered k f at =
      let index : ℕ = imported_functions raw + k in
      let stands : slice_get (r.plan Functions) index ≡ Some f =
      ap (λ (l : List ℕ). slice_get l index) (r.parted Functions) ∙ behind_at first order k index (ap (λ (n : ℕ). n + k) imports_are) ∙ at in
      ap (λ (z : Renaming). z.numbers Functions f) (renaming_written c p job with declared own roots asked texts r names_are sayable)
      ∙ sym (number_is r Functions f index (planned_index r.numbered r.is_plan Functions f index stands))

  as_many : length order ≡ length raw.bodies
  as_many = zip_length (HasBytes p r.names job.choices.features) order r.bodies r.bodies_are ∙ sym (length-map r.bodies unplaced) ∙ placed_many (first_body (code_place M) (map unplaced r.bodies)) (map unplaced r.bodies)

  module _ (rest : List (List Pair)) (rest_many : length rest ≡ length order) (told : Offsets p order r.bodies rest) where
    abbrev offsets : ℕ → List Pair
    offsets f = offsets_in order rest f

    -- ---- operators

    at_place : (k f : ℕ) (b : List ℕ) → slice_get order k ≡ Some f → slice_get r.bodies k ≡ Some b → AreOffsets p f b (offsets f)
    at_place k f b at to =
        let o = told k f b at to in
        subst (λ (l : List Pair). AreOffsets p f b l) (sym (offsets_at order rest f k o.0 (own_distinct r Functions) at o.1)) o.2

    located : (f : ℕ) → IsLocalFunction W f → map (λ (o : Pair). o.0) (offsets f) ≡ locations_at p f
    located f h =
        let at = listed f h in
        let b = also_there order r.bodies at.0 f (zip_length (HasBytes p r.names job.choices.features) order r.bodies r.bodies_are) (got_where order f at) in
        (at_place at.0 f b.0 (got_where order f at) b.1).located

    stand : (f : ℕ) (b : wire.Body) → IsLocalFunction W f → IsBodyOf (imported_functions raw) R raw f b → OperatorsStandAt b.bytes (map (λ (o : Pair). o.1) (offsets f))
    stand f b h is =
        let at = listed f h in
        let there = body_there W R raw (imported_functions raw) order rest local listed (own_distinct r Functions) numbered as_many rest_many at.0 f b (got_where order f at) is in
        (at_place at.0 f b.bytes (got_where order f at) (placed_at (first_body (code_place M) (map unplaced r.bodies)) r.bodies at.0 b there)).stand

    module _ (bytes : List ℕ) (s : Spells p job bytes) (keeps : Bool) (x : Transform)
        (count : x.code_section_start ≡ count_place (code_place M) M.bodies)
        (sorted : AreSorted by_ends (zip order (map ends_of (map range_of raw.bodies))) x.function_ranges)
        (last : LastPlaces keeps (all_placed_from (map (λ (y : Range ℕ). y.start) (map range_of raw.bodies)) rest) x.instruction_map) where
      starts_with : (b : List ℕ) (bs : List (List ℕ)) → r.bodies ≡ b ∷ bs → CountStandsAt bytes x.code_section_start
      starts_with b bs some =
          subst (λ (n : ℕ). CountStandsAt bytes n) (sym count)
          (subst (λ (l : List ℕ). CountStandsAt l (count_place (code_place M) M.bodies)) (sym (bytes_one c p job with lives declared own roots asked texts sayable bytes s r names_are))
          (count_stands M (unplaced b) (map unplaced bs) (ap (map unplaced) some)))

      abbrev Holds : Type 0
      Holds = TrueOf (imported_functions raw) offsets CountStandsAt keeps x bytes raw R W

      holds_by : (bs : List (List ℕ)) → r.bodies ≡ bs → Holds
      holds_by (b ∷ bs) some =
          let f = also_there r.bodies order 0 b (sym (zip_length (HasBytes p r.names job.choices.features) order r.bodies r.bodies_are)) (ap (λ (l : List (List ℕ)). slice_get l 0) some) in
          inl (
            f.0,
            local f.0 (is_there order 0 f.0 f.1),
            is_transform W R raw (imported_functions raw) order rest local listed (own_distinct r Functions) numbered as_many rest_many keeps bytes x (starts_with b bs some) sorted last,
          )
      holds_by [] none =
          let no_order : order ≡ [] = nil_from_length order (zip_length (HasBytes p r.names job.choices.features) order r.bodies r.bodies_are ∙ ap length none) in
          inr (
            λ f h. Contains-none f (subst (λ (l : List ℕ). Contains l f) no_order (listed f h)),
            parts_same x no_transform
                (nil_from_length x.function_ranges (length_permutation _ x.function_ranges sorted.moved ∙ ap (λ (l : List ℕ). length (zip l (map ends_of (map range_of raw.bodies)))) no_order))
                (count ∙ ap (λ (l : List (List ℕ)). count_place (code_place M) (map unplaced l)) none)
                (none_last keeps _ x.instruction_map (ap (λ (l : List (List ℕ)). all_placed_from (map (λ (y : Range ℕ). y.start) (map range_of (placed_bodies (first_body (code_place M) (map unplaced l)) (map unplaced l)))) rest) none) last),
          )

      pub is_transform_of : IsTransformOf c keeps (locations_at p) W bytes x
      is_transform_of = record {
        module_written = module_by c p job with lives declared own roots asked texts sayable r;
        written = written_by c p job with lives declared own roots asked texts sayable r names_are;
        spelled = spelled_one c p job with lives declared own roots asked texts sayable bytes s r names_are;
        raw = raw;
        framed = subst (λ (l : List ℕ). Frames l raw) (sym (bytes_one c p job with lives declared own roots asked texts sayable bytes s r names_are))
            (module_frames M (fits_one c p job with lives declared own roots asked texts sayable bytes s r names_are) (stands_one c p job with lives declared own roots asked texts sayable r));
        offsets = offsets;
        located = located;
        stand = stand;
        no_others = λ f none. offsets_none order rest f (λ at. none (local f at));
        holds = holds_by r.bodies refl;
      }

  -- ---- of places among the records with sections of dynamic linking alone

  module _ (dylinks : List wire.Custom) (dylinks_are : group_of Dylink job.sections ≡ dylinks) where
    abbrev part : wire.Module
    part = module_of r dylinks

    code_same : code_place M ≡ code_place part
    code_same = ap (λ (cs : List wire.Custom). length header + length (all_spelled (map CustomSection cs)) + length (all_spelled (before_code part)))
        (dylinks_same job.sections (names_written r job.choices) (chosen_producers p job.choices) ∙ ap (group_of Dylink) dylinks_are)

    bodies_same : (as_written part).bodies ≡ raw.bodies
    bodies_same = ap (λ (n : ℕ). placed_bodies (first_body n (map unplaced r.bodies)) (map unplaced r.bodies)) (sym code_same)

    pub told_before : (rest : List (List Pair)) → length rest ≡ length order → Offsets p order r.bodies rest → (bytes : List ℕ) → Spells p job bytes → (keeps : Bool) (x : Transform)
        → x.code_section_start ≡ count_place (code_place part) part.bodies → AreSorted by_ends (zip order (map ends_of (map range_of (as_written part).bodies))) x.function_ranges
        → LastPlaces keeps (all_placed_from (map (λ (y : Range ℕ). y.start) (map range_of (as_written part).bodies)) rest) x.instruction_map → IsTransformOf c keeps (locations_at p) W bytes x
    told_before rest many told bytes s keeps x count sorted last =
        is_transform_of rest many told bytes s keeps x
        (count ∙ ap (λ (n : ℕ). count_place n (map unplaced r.bodies)) (sym code_same))
        (subst (λ (bs : List wire.Body). AreSorted by_ends (zip order (map ends_of (map range_of bs))) x.function_ranges) bodies_same sorted)
        (subst (λ (bs : List wire.Body). LastPlaces keeps (all_placed_from (map (λ (y : Range ℕ). y.start) (map range_of bs)) rest) x.instruction_map) bodies_same last)
