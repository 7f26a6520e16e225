-- The offsets of the operators of bodies that are written.
use Rattle.std.proofs.Common.{◌≡◌, ℕ, ◌+◌, ◌≤◌, Bool, List, [], ◌∷◌, ◌++◌, length, map, refl, sym, ap, ◌∙◌, subst, arith, Some, length-append}
use Rattle.std.specs.Prelude.{All, Option, option_map, slice_get}
use Rattle.std.specs.List.{AllZip}
use Rattle.std.proofs.lemmas.List.Elements.{All-cons, All-head, All-nil, All-tail}
use Rattle.wasm_forms.specs.Spelling.{row_bytes}
use Rattle.wasm_operators.specs.Operators as operators
use Rattle.wasm_operators.specs.Spelling.{op_bytes}
use Rattle.walrus_base.specs.Id.{place}
use Rattle.walrus_base.specs.declared.id.Id.{Id}
use Rattle.walrus_base.specs.declared.keys.FunctionKey.{FunctionKey}
use Rattle.walrus_code.specs.Location.{location}
use Rattle.walrus_code.specs.Names.{Lookup}
use Rattle.walrus_items.specs.LocalFunction.{LocalFunction}
use Rattle.walrus_code.specs.declared.location.InstrLocId.{InstrLocId}
use Rattle.walrus_items.specs.Function.{locations_of}
use Rattle.walrus_bodies.specs.Emitting.{places_from}
use Rattle.walrus_bodies.specs.declared.features.Features.{Features}
use Rattle.walrus_functions.specs.EmittedBody.{BodyWritten, declarations_bytes}
use Rattle.walrus_contents.specs.declared.parts.Parts.{Parts}
use Rattle.walrus_base.proofs.Lookups.{got_map, mapped_some}
use Rattle.walrus_items.specs.Functions.{functions}
use Rattle.walrus_base.proofs.Lists.{map-map}
use Rattle.walrus_base.proofs.Standing.{some_inj, zip_right}
use Rattle.walrus_items.specs.Transform.{location_of}
use Rattle.walrus_writing.specs.Located.{AreOffsets}
use Rattle.walrus_writing.specs.Bodies.{AreBodies}
use Rattle.walrus_writing.specs.Parts.{BodySeen, HasBytes, local_in, source, used_locals}
use Rattle.walrus_writing.specs.Transform.{OperatorsStandAt, locations_in}
use Rattle.walrus_writing.specs.declared.offsets.LocatedBody.{LocatedBody}

-- ---- one body

pub offsets_written : (p : Parts) (names : Lookup) (features : Features) (n : ℕ) (local : LocalFunction) (places : List (InstrLocId × ℕ)) (bytes : List ℕ) (numbers : ℕ → Option ℕ) (ids : List ℕ) (used : List Bool)
    → local_in (functions p.funcs.now) n ≡ Some (n, local) → map (λ q. q.0) places ≡ locations_of local → BodyWritten (source p names features local) bytes (map (λ q. q.1) places) numbers ids used
    → AreOffsets p n bytes (map location_of places)
offsets_written p names features n local places bytes numbers ids used is located w = record {
  located =
      map-map (λ (o : ℕ × ℕ). o.0) location_of places
      ∙ sym (map-map location (λ (q : InstrLocId × ℕ). q.0) places)
      ∙ ap (map location) located
      ∙ sym (ap locations_in is);
  stand = record {
    front = declarations_bytes w.declarations;
    declared = w.declarations;
    declares = w.declares;
    texts = w.texts;
    stand = w.stand;
    spelled = w.spelled;
    placed = map-map (λ (o : ℕ × ℕ). o.1) location_of places ∙ w.placed;
  };
}

-- ---- operators stand within their body

places_within : (start : ℕ) (texts : List operators.Op) (end : ℕ) → start + length (row_bytes op_bytes texts) ≤ end → All (λ (q : ℕ). q ≤ end) (places_from start texts)
places_within start [] end h = All-nil (λ (q : ℕ). q ≤ end)
places_within start (o ∷ texts) end h =
    let long : length (op_bytes o ++ row_bytes op_bytes texts) ≡ length (op_bytes o) + length (row_bytes op_bytes texts) = length-append (op_bytes o) (row_bytes op_bytes texts) in
    let whole : start + length (op_bytes o ++ row_bytes op_bytes texts) ≤ end = h in
    All-cons (λ (q : ℕ). q ≤ end) start (places_from (start + length (op_bytes o)) texts) (omega (arith, whole))
    (places_within (start + length (op_bytes o)) texts end (omega (arith, whole, long)))

pub operators_within : (bytes places : List ℕ) → OperatorsStandAt bytes places → All (λ (q : ℕ). q ≤ length bytes) places
operators_within bytes places h =
    let long : length (h.front ++ row_bytes op_bytes h.texts) ≡ length h.front + length (row_bytes op_bytes h.texts) = length-append h.front (row_bytes op_bytes h.texts) in
    let whole : length bytes ≡ length (h.front ++ row_bytes op_bytes h.texts) = ap length h.spelled in
    subst (λ (l : List ℕ). All (λ (q : ℕ). q ≤ length bytes) l) (sym h.placed) (places_within (length h.front) h.texts (length bytes) (omega (arith, long, whole)))

-- moved to where the body begins
pub moved_within : (start size : ℕ) (places : List (InstrLocId × ℕ)) → All (λ (q : ℕ). q ≤ size) (map (λ (o : ℕ × ℕ). o.1) (map location_of places)) → All (λ (o : InstrLocId × ℕ). start + o.1 ≤ start + size) places
moved_within start size [] h = All-nil (λ (o : InstrLocId × ℕ). start + o.1 ≤ start + size)
moved_within start size (o ∷ places) h =
    let first : o.1 ≤ size = All-head (λ (q : ℕ). q ≤ size) o.1 (map (λ (o : ℕ × ℕ). o.1) (map location_of places)) h in
    All-cons (λ (o : InstrLocId × ℕ). start + o.1 ≤ start + size) o places (omega (arith, first))
    (moved_within start size places (All-tail (λ (q : ℕ). q ≤ size) o.1 (map (λ (o : ℕ × ℕ). o.1) (map location_of places)) h))

-- ---- all bodies

module _ (p : Parts) (names : Lookup) (features : Features) where
  abbrev pub Located : Id FunctionKey → LocatedBody → Type 0
  Located id b = HasBytes p names features (place id) b.bytes.items × AreOffsets p (place id) b.bytes.items (map location_of b.places.items)

  abbrev pub bytes_of : LocatedBody → List ℕ
  bytes_of b = b.bytes.items

  abbrev pub offsets_of : LocatedBody → List (ℕ × ℕ)
  offsets_of b = map location_of b.places.items

  pub both_zip : (ids : List (Id FunctionKey)) (bs : List LocatedBody) → AllZip (λ id b. HasBytes p names features (place id) b.bytes.items) ids bs
      → AllZip (λ id b. AreOffsets p (place id) b.bytes.items (map location_of b.places.items)) ids bs → AllZip Located ids bs
  both_zip [] [] h k = tt
  both_zip [] (b ∷ bs) h k = elim h [ ]
  both_zip (i ∷ ids) [] h k = elim h [ ]
  both_zip (i ∷ ids) (b ∷ bs) h k = ((h.0, k.0), both_zip ids bs h.1 k.1)

  -- they are bodies with their used locals
  pub seen_in : (ids : List (Id FunctionKey)) (bs : List LocatedBody) → AllZip (λ id b. HasBytes p names features (place id) b.bytes.items) ids bs → List BodySeen
  seen_in [] [] h = []
  seen_in [] (b ∷ bs) h = []
  seen_in (i ∷ ids) [] h = []
  seen_in (i ∷ ids) (b ∷ bs) h = record { bytes = b.bytes.items; used = used_locals h.0 } ∷ seen_in ids bs h.1

  pub seen_are : (ids : List (Id FunctionKey)) (bs : List LocatedBody) (h : AllZip (λ id b. HasBytes p names features (place id) b.bytes.items) ids bs) → AreBodies p names features ids (seen_in ids bs h)
  unfolding seen_in
  seen_are [] [] h = tt
  seen_are [] (b ∷ bs) h = elim h [ ]
  seen_are (i ∷ ids) [] h = elim h [ ]
  seen_are (i ∷ ids) (b ∷ bs) h = ((h.0, refl), seen_are ids bs h.1)

  pub seen_texts : (ids : List (Id FunctionKey)) (bs : List LocatedBody) (h : AllZip (λ id b. HasBytes p names features (place id) b.bytes.items) ids bs) → map (λ (b : BodySeen). b.bytes) (seen_in ids bs h) ≡ map bytes_of bs
  unfolding seen_in
  seen_texts [] [] h = refl
  seen_texts [] (b ∷ bs) h = elim h [ ]
  seen_texts (i ∷ ids) [] h = elim h [ ]
  seen_texts (i ∷ ids) (b ∷ bs) h = ap (λ (l : List (List ℕ)). b.bytes.items ∷ l) (seen_texts ids bs h.1)

  pub offsets_told : (ids : List (Id FunctionKey)) (bs : List LocatedBody) → AllZip Located ids bs → (k f : ℕ) (b : List ℕ) → slice_get (map place ids) k ≡ Some f → slice_get (map bytes_of bs) k ≡ Some b
      → (o : List (ℕ × ℕ)) × (slice_get (map offsets_of bs) k ≡ Some o) × AreOffsets p f b o
  offsets_told ids bs h k f b at to =
      let id = mapped_some place (slice_get ids k) f (sym (got_map place ids k) ∙ at) in
      let one = mapped_some bytes_of (slice_get bs k) b (sym (got_map bytes_of bs k) ∙ to) in
      let z = zip_right Located ids bs k id.0 h id.1 in
      let same : z.0 ≡ one.0 = some_inj z.0 one.0 (sym z.1 ∙ one.1) in
      let moved : Located id.0 one.0 = subst (λ (l : LocatedBody). Located id.0 l) same z.2 in (
        offsets_of one.0,
        got_map offsets_of bs k ∙ ap (λ o. option_map offsets_of o) one.1,
        subst (λ (n : ℕ). AreOffsets p n b (offsets_of one.0)) (sym id.2) (subst (λ (l : List ℕ). AreOffsets p (place id.0) l (offsets_of one.0)) (sym one.2) moved.1),
      )
