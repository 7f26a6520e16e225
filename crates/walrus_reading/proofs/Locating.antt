-- The locations of operators that were read.
use Rattle.std.proofs.Common.{◌≡◌, ℕ, zero, suc, ◌+◌, ◌<◌, ◌≤◌, List, [], ◌∷◌, ◌++◌, length, map, take, get_or, refl, sym, ap, subst, ◌∙◌, arith, append_assoc, append-nil}
use Rattle.std.specs.Prelude.{drop, Option, Result, Ok, Err, IfOk}
use Rattle.std.specs.List.{AllZip}
use Rattle.std.proofs.lemmas.List.{take_more, take_all, length-map, get_or-map}
use Rattle.walrus_code.specs.declared.location.InstrLocId.{InstrLocId}
use Rattle.walrus_bodies.specs.Body.{Located}
use Rattle.walrus_bodies.specs.BodyRead.{BodyLocated}
use Rattle.walrus_items.specs.Functions.{FunctionValue, ModuleFunctions}
use Rattle.walrus_model.specs.Sections.{imported, imported_function}
use Rattle.walrus_reading.specs.Held.{HoldsImportedFunction}
use Rattle.walrus_reading.specs.Parsed.{AreLocated}
use Rattle.walrus_reading.specs.declared.module.ReadModule.{ReadModule}
use Rattle.walrus_reading.specs.Placed.{AllPlaced}
use Rattle.walrus_reading.specs.Taken.{AddLocated, AreLocatedIn, IsLocated}
use Rattle.walrus_reading.proofs.Rows.{placed_length}
use Rattle.wasm_frames.specs.declared.record.RawBody.{RawBody}
use Rattle.wasm_frames.specs.Record as wire
use Rattle.walrus_items.specs.Function.{locations_of}
use Rattle.walrus_base.proofs.ZipTurns.{zip_snoc as zip_push}

-- ---- locations that are given in another way

module _ (R S : ℕ → InstrLocId → Type 0) (through : (place : ℕ) (loc : InstrLocId) → R place loc → S place loc) where
  each_located : (place : ℕ) (bytes : List ℕ) (locs : List InstrLocId) → Located R place bytes locs → Located S place bytes locs
  each_located place bytes [] h = h
  each_located place bytes (loc ∷ locs) (text, (front, (back, (parts, is, given, rest)))) = (text, (front, (back, (parts, is, through _ loc given, each_located (place + length front) back locs rest))))

  body_located : (place : ℕ) (bytes : List ℕ) (locs : List InstrLocId) → BodyLocated R place bytes locs → BodyLocated S place bytes locs
  body_located place bytes locs (front, (back, (declared, (parts, is, located)))) = (front, (back, (declared, (parts, is, each_located (place + length front) back locs located))))

  slots_located : (bodies : List wire.Body) (slots : List (Option FunctionValue)) → AllZip (IsLocated R) bodies slots → AllZip (IsLocated S) bodies slots
  slots_located [] [] h = tt
  slots_located [] (s ∷ slots) h = absurd h
  slots_located (b ∷ bodies) [] h = absurd h
  slots_located (b ∷ bodies) (s ∷ slots) (is, rest) = (
    record {
      value = is.value;
      is = is.is;
      local = is.local;
      kind = is.kind;
      places = body_located b.start b.bytes (locations_of is.local) is.places;
    },
    slots_located bodies slots rest,
  )

  located_through : (bytes : List ℕ) (funcs : ModuleFunctions) → AreLocated R bytes funcs → AreLocated S bytes funcs
  located_through bytes funcs h = record { sections = h.sections; framed = h.framed; located = slots_located h.sections.bodies _ h.located }

  pub if_located_through : {E : Type 0} (bytes : List ℕ) (result : Result ReadModule E) → IfOk result (λ m. AreLocated R bytes m.contents.funcs) → IfOk result (λ m. AreLocated S bytes m.contents.funcs)
  if_located_through bytes (Ok m) h = located_through bytes m.contents.funcs h
  if_located_through bytes (Err e) h = h

-- ---- function by function

module _ (Gives : ℕ → InstrLocId → Type 0) (fs : List ℕ) (raw : List RawBody) (many : length raw ≡ length fs) where
  pub none_located : (old slots : List (Option FunctionValue)) → slots ≡ old → AddLocated Gives (take 0 (map wire.body_record raw)) old slots
  none_located old slots same = ([], (same ∙ sym (append-nil old), tt))

  pub more_located : (i : ℕ) (d : RawBody) (old before after : List (Option FunctionValue)) → i < length fs → AddLocated Gives (take i (map wire.body_record raw)) old before
      → (slot : Option FunctionValue) → after ≡ before ++ slot ∷ [] → IsLocated Gives (wire.body_record (get_or raw i d)) slot → AddLocated Gives (take (i + 1) (map wire.body_record raw)) old after
  more_located i d old before after lt (added, (behind, done)) slot push is =
      let within : i < length (map wire.body_record raw) = omega (arith, lt, many, length-map raw wire.body_record) in
      let more : take (i + 1) (map wire.body_record raw) ≡ take i (map wire.body_record raw) ++ wire.body_record (get_or raw i d) ∷ [] =
      take_more (map wire.body_record raw) i (wire.body_record d) within ∙ ap (λ (b : wire.Body). take i (map wire.body_record raw) ++ b ∷ []) (get_or-map wire.body_record raw i d (wire.body_record d) (omega (arith, lt, many))) in (
        added ++ slot ∷ [],
        (
          push ∙ ap (λ (l : List (Option FunctionValue)). l ++ slot ∷ []) behind ∙ append_assoc old added (slot ∷ []),
          subst (λ (l : List wire.Body). AllZip (IsLocated Gives) l (added ++ slot ∷ [])) (sym more) (zip_push (IsLocated Gives) (take i (map wire.body_record raw)) added (wire.body_record (get_or raw i d)) slot done is),
        ),
      )

  pub all_located : (i : ℕ) (old after : List (Option FunctionValue)) → length fs ≤ i → AddLocated Gives (take i (map wire.body_record raw)) old after → AddLocated Gives (map wire.body_record raw) old after
  all_located i old after le done =
      subst (λ (l : List wire.Body). AddLocated Gives l old after) (take_all i (map wire.body_record raw) (omega (arith, le, many, length-map raw wire.body_record))) done

-- ---- behind those that imports bring

past : {A : Type 0} (n : ℕ) (front back : List A) → n ≡ length front → drop n (front ++ back) ≡ back
past zero [] back e = refl
past zero (x ∷ front) back e = absurd (omega (arith, e))
past (suc n) [] back e = absurd (omega (arith, e))
past (suc n) (x ∷ front) back e = past n front back (omega (arith, e))

pub located_in : (Gives : ℕ → InstrLocId → Type 0) (r : wire.Module) (raw : List RawBody) (old new : List (Option FunctionValue)) → map wire.body_record raw ≡ r.bodies → AllPlaced HoldsImportedFunction 0 (imported imported_function 0 r.imports) old → AddLocated Gives (map wire.body_record raw) old new → AreLocatedIn Gives r new
located_in Gives r raw old new same brings (added, (behind, located)) =
    let many : length (imported imported_function 0 r.imports) ≡ length old = placed_length HoldsImportedFunction 0 (imported imported_function 0 r.imports) old brings in
    let rest : drop (length (imported imported_function 0 r.imports)) new ≡ added = ap (λ (l : List (Option FunctionValue)). drop (length (imported imported_function 0 r.imports)) l) behind ∙ past (length (imported imported_function 0 r.imports)) old added many in
    subst (λ (l : List (Option FunctionValue)). AllZip (IsLocated Gives) r.bodies l) (sym rest) (subst (λ (l : List wire.Body). AllZip (IsLocated Gives) l added) same located)
