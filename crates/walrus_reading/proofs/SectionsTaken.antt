-- The namings of sections called `name`, those of one section behind those of another.
use Rattle.std.proofs.Common.{◌≡◌, ℕ, ◌+◌, ◌<◌, ◌≤◌, Bool, true, cond, List, [], ◌∷◌, ◌++◌, length, map, take, get_or, refl, sym, ap, subst, ◌∙◌, Ok}
use Rattle.std.specs.Prelude.{bytes_eq, codes, filter, flat_map}
use Rattle.std.specs.List.{AllZip}
use Rattle.std.proofs.lemmas.List.{append-nil, map-append, take_all, take_more}
use Rattle.std.proofs.lemmas.List.Elements.{filter-append}
use Rattle.std.proofs.lemmas.Grind.{flat_map-append}
use Rattle.wasm_forms.specs.declared.error.WireError.{WireError}
use Rattle.wasm_frames.specs.declared.record.RawCustom.{RawCustom}
use Rattle.wasm_frames.specs.Record as wire
use Rattle.wasm_frames.specs.Record.{custom_record}
use Rattle.wasm_payloads.specs.Names.{Named, Names}
use Rattle.wasm_payloads.specs.Sink.{Handed, after_all}
use Rattle.walrus_model.proofs.AlongRecords.{zip_append}
use Rattle.walrus_reading.specs.Shown.{Shown, shown}
use Rattle.walrus_reading.specs.Sink.{bounds_of, once_seen, seen_by}
use Rattle.walrus_reading.specs.TakenNames.{Bounds, TakesNames, all_named, is_known, name_payloads, once_named}
use Rattle.walrus_reading.specs.declared.sink.Namer.{Namer}

-- ---- one section

told : (b : Bounds) (s : Shown) (names : List Named) → after_all once_seen (b, s) names ≡ (b, all_named b s names)
told b s [] = refl
told b s (n ∷ ns) = told b (once_named b s n) ns

passed : (c : wire.Custom) (t : Bool) → bytes_eq c.name (codes "name") ≡ t → name_payloads (c ∷ []) ≡ map (λ (d : wire.Custom). d.bytes) (cond t (c ∷ []) [])
passed c t is = ap (λ (t : Bool). map (λ (d : wire.Custom). d.bytes) (cond t (c ∷ []) [])) is

section_read : (b : Bounds) (c : wire.Custom) (names : List Named) (old new : Shown) → bytes_eq c.name (codes "name") ≡ true → Names (is_known b.starts) c.bytes names → new ≡ all_named b old names → TakesNames b (c ∷ []) old new
section_read b c names old new is read are = record {
  namings = names ∷ [];
  read = subst (λ ps. AllZip (Names (is_known b.starts)) ps (names ∷ [])) (sym (passed c true is)) (read, tt);
  are = are ∙ ap (all_named b old) (sym (append-nil names));
}

-- what a sink took of a section
pub section_taken : (c : wire.Custom) (old new : Namer) (refuses : Namer → Named → WireError → Type 0) (X : Type 0) (x : X) → bytes_eq c.name (codes "name") ≡ true
    → ((names : List Named) × (Names (is_known old.bounds.starts.items) c.bytes names × Handed seen_by once_seen refuses old new names (Ok x)))
    → TakesNames (bounds_of old.bounds) (c ∷ []) (shown old.contents) (shown new.contents)
section_taken c old new refuses X x is (names, (read, handed)) =
    section_read (bounds_of old.bounds) c names (shown old.contents) (shown new.contents) is read (ap (λ (p : Bounds × Shown). p.1) (handed ∙ told (bounds_of old.bounds) (shown old.contents) names))

-- the bounds stay
pub bounds_stay : (old new : Namer) (refuses : Namer → Named → WireError → Type 0) (X : Type 0) (x : X) (bytes : List ℕ) → ((names : List Named) × (Names (is_known old.bounds.starts.items) bytes names × Handed seen_by once_seen refuses old new names (Ok x)))
    → bounds_of new.bounds ≡ bounds_of old.bounds
bounds_stay old new refuses X x bytes (names, (read, handed)) = ap (λ (p : Bounds × Shown). p.0) (handed ∙ told (bounds_of old.bounds) (shown old.contents) names)

-- ---- section by section

payloads-append : (xs ys : List wire.Custom) → name_payloads (xs ++ ys) ≡ name_payloads xs ++ name_payloads ys
payloads-append xs ys =
    let test : wire.Custom → Bool = λ c. bytes_eq c.name (codes "name") in
    let bytes : wire.Custom → List ℕ = λ c. c.bytes in
    ap (map bytes) (filter-append test xs ys) ∙ map-append bytes (filter test xs) (filter test ys)

-- namings behind others
pub named_behind : (b : Bounds) (s : Shown) (xs ys : List Named) → all_named b (all_named b s xs) ys ≡ all_named b s (xs ++ ys)
named_behind b s [] ys = refl
named_behind b s (x ∷ xs) ys = named_behind b (once_named b s x) xs ys

abbrev joined : List (List Named) → List Named
joined namings = flat_map (λ xs. xs) namings

one_behind : (b : Bounds) (xs ys : List wire.Custom) (old middle new : Shown) → TakesNames b xs old middle → TakesNames b ys middle new → TakesNames b (xs ++ ys) old new
one_behind b xs ys old middle new h k = record {
  namings = h.namings ++ k.namings;
  read = subst (λ ps. AllZip (Names (is_known b.starts)) ps (h.namings ++ k.namings)) (sym (payloads-append xs ys)) (zip_append (Names (is_known b.starts)) (name_payloads xs) (name_payloads ys) h.namings k.namings h.read k.read);
  are = k.are ∙ ap (λ (s : Shown). all_named b s (joined k.namings)) h.are ∙ named_behind b old (joined h.namings) (joined k.namings) ∙ ap (all_named b old) (sym (flat_map-append (λ (xs : List Named). xs) h.namings k.namings));
}

-- none so far
pub none_taken : (b : Bounds) (s : Shown) → TakesNames b [] s s
none_taken b s = record { namings = []; read = tt; are = refl }

-- one more section
pub one_more_section : (b own : Bounds) (xs : List RawCustom) (i : ℕ) (d : RawCustom) (old middle new : Shown) → i < length xs → own ≡ b → TakesNames b (map custom_record (take i xs)) old middle → TakesNames own (custom_record (get_or xs i d) ∷ []) middle new
    → TakesNames b (map custom_record (take (i + 1) xs)) old new
one_more_section b own xs i d old middle new lt same h k =
    let x : RawCustom = get_or xs i d in
    subst (λ cs. TakesNames b cs old new) (sym (ap (map custom_record) (take_more xs i d lt) ∙ map-append custom_record (take i xs) (x ∷ [])))
    (one_behind b (map custom_record (take i xs)) (custom_record x ∷ []) old middle new h (subst (λ c. TakesNames c (custom_record x ∷ []) middle new) same k))

-- all of them
pub all_taken : (b : Bounds) (xs : List RawCustom) (i : ℕ) (old new : Shown) → length xs ≤ i → TakesNames b (map custom_record (take i xs)) old new → TakesNames b (map custom_record xs) old new
all_taken b xs i old new le h = subst (λ l. TakesNames b (map custom_record l) old new) (take_all i xs le) h
