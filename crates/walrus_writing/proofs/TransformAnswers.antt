-- What the call that tells the transform promises, from what its steps do.
use Rattle.std.proofs.Common.{◌≡◌, ℕ, ◌+◌, ◌≤◌, true, List, [], ◌∷◌, length, map, sym, ap, ◌∙◌, subst}
use Rattle.std.specs.Prelude.{All, Err, zip}
use Rattle.std.specs.List.{AllZip}
use Rattle.std.specs.declared.ops.Range.{Range}
use Rattle.std.proofs.lemmas.List.{length-map}
use Rattle.wasm_frames.specs.Record as wire
use Rattle.wasm_frames.specs.Spelling.{body_bytes}
use Rattle.wasm_writer.specs.Spelling.{first_body, placed_bodies, range_of}
use Rattle.wasm_writer.specs.declared.places.CodePlaces.{CodePlaces}
use Rattle.wasm_wire.specs.ModuleSpelling.{as_written, code_place, group_of}
use Rattle.wasm_wire.specs.declared.written.CustomGroup.TheVariants.{Dylink}
use Rattle.walrus_base.specs.Id.{place}
use Rattle.walrus_base.specs.declared.id.Id.{Id}
use Rattle.walrus_base.specs.declared.keys.FunctionKey.{FunctionKey}
use Rattle.walrus_base.specs.ModuleTypes.{type_slots}
use Rattle.walrus_base.specs.Operators.{Functions}
use Rattle.walrus_code.specs.Names.{Lookup}
use Rattle.walrus_code.specs.declared.location.InstrLocId.{InstrLocId}
use Rattle.walrus_bodies.specs.declared.features.Features.{Features}
use Rattle.walrus_groups.specs.Indexed.{AreInOrder}
use Rattle.walrus_contents.specs.View.{parts_view}
use Rattle.walrus_contents.specs.declared.parts.Parts.{Parts}
use Rattle.walrus_model.proofs.PlacedTypes.{zip_length}
use Rattle.walrus_model.specs.Abstract.{Abstract}
use Rattle.walrus_model.specs.Config.{Config}
use Rattle.walrus_model.specs.Dead.{HasDead}
use Rattle.walrus_model.specs.Declared.{NothingUndeclared}
use Rattle.walrus_model.specs.WellMade.{ImportsMatch}
use Rattle.walrus_items.specs.Transform as parts
use Rattle.walrus_items.specs.Transform.{location_of, transform_of}
use Rattle.walrus_items.specs.declared.error.Error.{Error}
use Rattle.walrus_items.specs.declared.transform.CodeTransform.{CodeTransform}
use Rattle.walrus_plan.specs.Reads.{ReadsInOrder}
use Rattle.walrus_theorem.specs.Refused as causes
use Rattle.walrus_theorem.specs.Refused.{IsSayable, Refusal, RefusesToWrite}
use Rattle.walrus_writing.specs.declared.write.Choices.{Choices}
use Rattle.walrus_writing.specs.declared.offsets.LocatedBody.{LocatedBody}
use Rattle.walrus_writing.specs.Customs.{task}
use Rattle.walrus_writing.specs.Located.{ArePlaces, AreSorted, LastPlaces, all_placed_from, by_ends, ends_of}
use Rattle.walrus_writing.specs.Parts.{unplaced}
use Rattle.walrus_writing.specs.Records.{module_of}
use Rattle.walrus_writing.specs.Refusals.{RefusesItems}
use Rattle.walrus_writing.specs.Transform.{HasCause, IsTransformOf, RefusesTransform, TellsTransform, locations_at}
use Rattle.walrus_writing.proofs.Emitting.{small, unfit}
use Rattle.walrus_writing.proofs.LocatedBodies.{Located, bytes_of, moved_within, offsets_of, offsets_told, operators_within}
use Rattle.walrus_writing.proofs.RefusesAll.{items_refused}
use Rattle.walrus_writing.proofs.Refusing.{refuses_any}
use Rattle.walrus_writing.proofs.TransformTold.{Offsets, placed_many, told_before}

-- ---- operators stand within the ranges of their bodies

abbrev pub IsWithin : Range ℕ → LocatedBody → Type 0
IsWithin range b = All (λ (o : InstrLocId × ℕ). range.start + o.1 ≤ range.end) b.places.items

module _ (p : Parts) (names : Lookup) (features : Features) where
  within_from : (n : ℕ) (ids : List (Id FunctionKey)) (bs : List LocatedBody) → AllZip (Located p names features) ids bs → AllZip IsWithin (map range_of (placed_bodies n (map unplaced (map (bytes_of p names features) bs)))) bs
  within_from n [] [] h = tt
  within_from n [] (b ∷ bs) h = elim h [ ]
  within_from n (i ∷ ids) [] h = elim h [ ]
  within_from n (i ∷ ids) (b ∷ bs) h = (
    moved_within _ (length b.bytes.items) b.places.items (operators_within b.bytes.items _ h.0.1.stand),
    within_from (n + length (body_bytes (unplaced (bytes_of p names features b)))) ids bs h.1,
  )

  module _ (ids : List (Id FunctionKey)) (bs : List LocatedBody) (located : AllZip (Located p names features) ids bs) (customs : List wire.Custom) (places : CodePlaces)
      (at : ArePlaces p names features (map place ids) (map (bytes_of p names features) bs) customs places) where
    abbrev base : ℕ
    base = first_body (code_place (module_of at.records customs)) (map unplaced at.records.bodies)

    ranges_are : places.bodies.items ≡ map range_of (placed_bodies (first_body (code_place (module_of at.records customs)) (map unplaced at.records.bodies)) (map unplaced (map (bytes_of p names features) bs)))
    ranges_are = at.ranges ∙ ap (λ (l : List (List ℕ)). map range_of (placed_bodies base (map unplaced l))) at.bodies_are

    pub many_bodies : length bs ≡ length places.bodies.items
    many_bodies =
        sym (length-map bs (bytes_of p names features))
        ∙ sym (length-map (map (bytes_of p names features) bs) unplaced)
        ∙ placed_many base (map unplaced (map (bytes_of p names features) bs))
        ∙ sym (length-map (placed_bodies base (map unplaced (map (bytes_of p names features) bs))) range_of)
        ∙ ap length (sym ranges_are)

    pub many_functions : length ids ≡ length places.bodies.items
    many_functions = zip_length (Located p names features) ids bs located ∙ many_bodies

    pub all_within : AllZip IsWithin places.bodies.items bs
    all_within = subst (λ (l : List (Range ℕ)). AllZip IsWithin l bs) (sym ranges_are) (within_from base ids bs located)

-- ---- what is told

module _ (p : Parts) (lives : HasDead (parts_view p) → ⊥) (declared : NothingUndeclared (parts_view p)) (names : Lookup) (choices : Choices) where
  module _ (ids : List (Id FunctionKey)) (bs : List LocatedBody) (located : AllZip (Located p names choices.features) ids bs) (dylinks : List wire.Custom) (places : CodePlaces)
      (at : ArePlaces p names choices.features (map place ids) (map (bytes_of p names choices.features) bs) dylinks places) where
    abbrev rest : List (List (ℕ × ℕ))
    rest = map (offsets_of p names choices.features) bs

    rest_many : length rest ≡ length (at.records.own Functions)
    rest_many =
        length-map bs (offsets_of p names choices.features)
        ∙ sym (zip_length (Located p names choices.features) ids bs located)
        ∙ sym (length-map ids (λ (i : Id FunctionKey). place i))
        ∙ ap length (sym at.order_is)

    told : Offsets p (at.records.own Functions) at.records.bodies rest
    told =
        subst (λ (l : List ℕ). Offsets p l at.records.bodies rest) (sym at.order_is)
        (subst (λ (l : List (List ℕ)). Offsets p (map place ids) l rest) (sym at.bodies_are) (offsets_told p names choices.features ids bs located))

    pub tells : (x : CodeTransform) → x.code_section_start ≡ places.count → AreSorted by_ends (zip (map place ids) (map ends_of places.bodies.items)) (map parts.range_of x.function_ranges.items)
        → LastPlaces true (all_placed_from (map (λ (r : Range ℕ). r.start) places.bodies.items) rest) (map location_of x.instruction_map.items) → TellsTransform p choices names dylinks true x
    tells x count sorted last = λ c v sections bytes with asked sayable same spells.
        subst (λ (z : Abstract). IsTransformOf c true (locations_at p) z bytes (transform_of x)) (sym asked.parts)
        (told_before c p (task choices names sections) with lives declared v.customs v.section_roots asked.asked asked.texts (subst IsSayable asked.parts sayable) at.records at.names_are dylinks same rest rest_many told
        bytes spells true (transform_of x) (count ∙ at.count)
        (subst (λ (l : List ℕ). AreSorted by_ends (zip l (map ends_of (map range_of (as_written (module_of at.records dylinks)).bodies))) (map parts.range_of x.function_ranges.items)) (sym at.order_is)
        (subst (λ (l : List (Range ℕ)). AreSorted by_ends (zip (map place ids) (map ends_of l)) (map parts.range_of x.function_ranges.items)) at.ranges sorted))
        (subst (λ (l : List (Range ℕ)). LastPlaces true (all_placed_from (map (λ (r : Range ℕ). r.start) l) rest) (map location_of x.instruction_map.items)) at.ranges last))

  -- ---- why it is refused

  pub refuses : (matched : ImportsMatch (parts_view p)) (reads : ReadsInOrder (parts_view p)) (in_order : AreInOrder (type_slots p.types.now)) (dylinks : List wire.Custom) (X : Type 0) (e : Error)
      → ((sections : List wire.Custom) → group_of Dylink sections ≡ dylinks → RefusesItems {X = X} p (task choices names sections) (Err e)) → RefusesTransform p choices names dylinks e
  refuses matched reads in_order dylinks X e refused = λ c v sections with asked same.
      subst (λ (z : Abstract). HasCause c z e) (sym asked.parts)
      (items_refused c p v.customs v.section_roots lives matched reads in_order names sections choices with {X = Unit {0}} (λ u. []) (Err e)
      (unfit c p lives declared v.customs v.section_roots names sections asked.asked asked.texts choices with, small c p lives declared v.customs v.section_roots names sections asked.asked asked.texts choices with)
      tt (refuses_any p (task choices names sections) (Unit {0}) X e (refused sections same)))

-- so it is of a call whose sections may refuse
pub cause_asked : (X : Type 0) (Asked : Type 0) (c : Config) (v : Abstract) (r : Refusal) → RefusesToWrite {X = Unit {0}} ⊥ c v (Err r) → RefusesToWrite {X = X} Asked c v (Err r)
cause_asked X Asked c v causes.DeadItem h = h
cause_asked X Asked c v causes.TwoIndices h = h
cause_asked X Asked c v causes.NoIndex h = h
cause_asked X Asked c v causes.NotWritable h = h
cause_asked X Asked c v causes.TooLarge h = h
cause_asked X Asked c v causes.Caller h = absurd h
cause_asked X Asked c v causes.Memory h = tt
cause_asked X Asked c v causes.Another h = absurd h
