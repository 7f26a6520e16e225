-- A module that took in the sections, once its names are there.
use Rattle.std.proofs.Common.{◌≡◌, ℕ, zero, suc, ◌+◌, ◌<◌, ◌≤◌, Bool, true, false, List, [], ◌∷◌, ◌++◌, length, refl, sym, ap, subst, ◌∙◌, arith, length-append}
use Rattle.std.proofs.lemmas.Bool.{lt-ltb, ltb-false, ltb-true}
use Rattle.std.proofs.lemmas.List.{length-map}
use mathlib.Core.Path.{fun_ext}
use Rattle.std.specs.Prelude.{codes, nat_lt, replicate, zip, if◌then◌else◌}
use Rattle.std.specs.List.{AllZip}
use Rattle.wasm_frames.specs.Record as wire
use Rattle.wasm_payloads.specs.Names.{Named, Names}
use Rattle.walrus_base.specs.Operators.{Types, Functions, Tables, Memories, Tags, Globals, Elements, DataSegments}
use Rattle.walrus_bodies.specs.declared.features.Features.{Features}
use Rattle.walrus_model.specs.Abstract.{Abstract, Name, ProducerField, Subject, TheModule, AnItem, ALocal}
use Rattle.walrus_model.specs.Config.{Config}
use Rattle.walrus_model.specs.Producers.{produced}
use Rattle.walrus_model.specs.Reads.{ReadsBodyWith}
use Rattle.walrus_model.specs.Renaming.{Renaming}
use Rattle.walrus_model.specs.Sections.{Said, customs_of, data_segments_of, elements_of, function_types, imported, imported_function, imported_type, memories_of, tables_of, types_of}
use Rattle.walrus_theorem.specs.Chain.{ParsedAs}
use Rattle.walrus_theorem.specs.Headline.{has_function, payloads}
use Rattle.walrus_theorem.specs.Namings.{is_in_range, names_given, names_in_range}
use Rattle.walrus_theorem.specs.Sections.{items_of, module_of}
use Rattle.walrus_contents.specs.View.{contents_view}
use Rattle.walrus_contents.specs.declared.parts.Contents.{Contents}
use Rattle.walrus_reading.specs.Laws.{IsUnnamed}
use Rattle.walrus_reading.specs.Shown.{shown}
use Rattle.walrus_reading.specs.Synthetic.{named_by}
use Rattle.walrus_reading.specs.TakenNames.{Bounds, is_known, name_payloads, starts_from}
use Rattle.walrus_reading.proofs.ParsedNamed.{parsed_in_place}
use Rattle.walrus_reading.specs.Held.{memory_keeps, table_keeps}
use Rattle.walrus_reading.specs.Named.{AreBounds}
use Rattle.walrus_reading.specs.Parsed.{LocalsInTurn}
use Rattle.walrus_reading.specs.Taken.{HasTakenWith, local_counts, locals_said}
use Rattle.walrus_reading.proofs.BeforeNames.{is_unnamed}
use Rattle.walrus_theorem.proofs.Aside.{customs_aside, renaming_aside, with_customs}
use Rattle.walrus_reading.proofs.LocalsCounted.{counted_up_to}
use Rattle.walrus_theorem.proofs.BodiesBack.{as_many_imported as types_many}

-- no table keeps an element segment, and no memory a data segment, past the last of these
pub record KeepNonePast (r : wire.Module) : Type 0 where
  pub tables : (table segment : ℕ) → length (tables_of r) ≤ table → table_keeps (elements_of r) table segment ≡ false
  pub memories : (memory segment : ℕ) → length (memories_of r) ≤ memory → memory_keeps (data_segments_of r) memory segment ≡ false

-- ---- which functions are known

zip_long : (c : Features) (r : wire.Module) (fs : List ℕ) (bs : List wire.Body) (saids : List Said) → length bs ≡ length fs → AllZip (ReadsBodyWith c r) (zip fs bs) saids → length (zip fs saids) ≡ length fs
zip_long c r [] [] [] many h = refl
zip_long c r [] [] (s ∷ saids) many h = absurd h
zip_long c r [] (b ∷ bs) saids many h = absurd (omega (arith, many))
zip_long c r (f ∷ fs) [] saids many h = absurd (omega (arith, many))
zip_long c r (f ∷ fs) (b ∷ bs) [] many h = absurd h
zip_long c r (f ∷ fs) (b ∷ bs) (s ∷ saids) many h = ap suc (zip_long c r fs bs saids (omega (arith, many)) h.1)

zeros_long : (n : ℕ) (xs : List ℕ) → length (replicate n 0 ++ xs) ≡ n + length xs
zeros_long zero xs = omega arith
zeros_long (suc n) xs = omega (arith, zeros_long n xs)

starts_long : (p : ℕ) (ns : List ℕ) → length (starts_from p ns) ≡ length ns + 1
starts_long p [] = refl
starts_long p (n ∷ ns) = omega (arith, starts_long (p + n) ns)

same_tests : (f n m : ℕ) → n ≡ m + 1 → nat_lt (f + 1) n ≡ nat_lt f m
same_tests f n m e = by (nat_lt f m) refl where
  by : (t : Bool) → nat_lt f m ≡ t → nat_lt (f + 1) n ≡ nat_lt f m
  by true q = let lt : f < m = ltb-true f m q in lt-ltb (f + 1) n (omega (arith, e, lt)) ∙ sym q
  by false q = past (nat_lt (f + 1) n) refl where
    past : (u : Bool) → nat_lt (f + 1) n ≡ u → nat_lt (f + 1) n ≡ nat_lt f m
    past true r = let lt : f + 1 < n = ltb-true (f + 1) n r in let ge : m ≤ f = ltb-false f m q in absurd (omega (arith, e, lt, ge))
    past false r = r ∙ sym q

module _ (c : Features) (r : wire.Module) (m : Contents) (starts : List ℕ) (t : HasTakenWith c r m starts) (many : length r.bodies ≡ length r.functions) where
  starts_many : length starts ≡ length (function_types r) + 1
  starts_many =
      let brought : ℕ = length (imported imported_function 0 r.imports) in
      let pairs : List (ℕ × Said) = zip r.functions t.taken.bodies in
      omega (
        arith,
        ap length t.starts_are,
        zeros_long brought (starts_from 0 (local_counts (types_of r) pairs)),
        starts_long 0 (local_counts (types_of r) pairs),
        length-map pairs (λ p. length (locals_said (types_of r) p)),
        zip_long c r r.functions r.bodies t.taken.bodies many t.taken.read,
        length-append (imported imported_type 0 r.imports) r.functions,
        types_many 0 r.imports,
      )

  same_known : is_known starts ≡ has_function r
  same_known = fun_ext (λ f. same_tests f (length starts) (length (function_types r)) starts_many)

  pub namings_read : (namings : List (List Named)) → AllZip (Names (is_known starts)) (name_payloads r.customs) namings → AllZip (Names (has_function r)) (payloads (codes "name") r) namings
  namings_read namings h = subst (λ (known : ℕ → Bool). AllZip (Names known) (payloads (codes "name") r) namings) same_known h

-- ---- which subjects are in range

module _ (r : wire.Module) (bodies : List Said) (ps : List ProducerField) where
  abbrev without : Abstract
  without = with_customs (module_of r bodies ps []) []

  same_range : (x : Subject) → is_in_range without x ≡ is_in_range (items_of r bodies ps) x
  same_range TheModule = refl
  same_range (AnItem (Types, i)) = refl
  same_range (AnItem (Functions, i)) = refl
  same_range (AnItem (Tables, i)) = refl
  same_range (AnItem (Memories, i)) = refl
  same_range (AnItem (Tags, i)) = refl
  same_range (AnItem (Globals, i)) = refl
  same_range (AnItem (Elements, i)) = refl
  same_range (AnItem (DataSegments, i)) = refl
  same_range (ALocal f x) = refl

  same_names : (namings : List Named) → names_in_range without namings ≡ names_in_range (items_of r bodies ps) namings
  same_names namings = fun_ext (λ x. ap (λ (t : Bool). if t then names_given namings x else []) (same_range x))

-- ---- the module with its names

pub comes_out : (c : Config) (features : Features) (r : wire.Module) (old new : Contents) (starts : List ℕ) (t : HasTakenWith features r old starts) (ps : List ProducerField) (namings : List Named) (b : Bounds)
    → length r.bodies ≡ length r.functions → KeepNonePast r → (contents_view old).producers ≡ produced ps → AreBounds r starts b → b.synthetic ≡ c.synthetic_names → shown new ≡ named_by b namings (shown old)
    → (p : ParsedAs c (module_of r t.taken.bodies ps namings) (record (contents_view new) { customs = customs_of r.customs })) × LocalsInTurn (module_of r t.taken.bodies ps namings) p.renaming
comes_out c features r old new starts t ps namings b many past put_in bounds asked are =
    let before : Config = record c { synthetic_names = false } in
    let m : Abstract = without r t.taken.bodies ps in
    let unnamed : IsUnnamed before m b old = is_unnamed features r old many t.taken ps before refl past.tables past.memories put_in b bounds.types (bounds.starts_are ∙ t.starts_are) in
    let named = parsed_in_place before c m b namings old new unnamed asked are in
    let given : Abstract = record m { named = names_in_range m namings } in
    let whole : ParsedAs c (record (items_of r t.taken.bodies ps) { named = names_in_range m namings }) (with_customs (contents_view new) (customs_of r.customs)) =
    customs_aside c given (contents_view new) (customs_of r.customs) named.0 in
    let stays : whole.renaming ≡ unnamed.parsed.renaming = renaming_aside c given (contents_view new) (customs_of r.customs) named.0 ∙ named.1 in
    let first : LocalsInTurn m unnamed.parsed.renaming =
    λ f a x is typed. counted_up_to r t.taken.bodies b.starts (bounds.starts_are ∙ t.starts_are) f x (unnamed.parsed.renaming.locals f x) (unnamed.places f a x is typed) in
    let turn : LocalsInTurn (record (items_of r t.taken.bodies ps) { named = names_in_range m namings }) whole.renaming =
    subst (λ (moves : Renaming). LocalsInTurn m moves) (sym stays) first in
    subst (λ (n : Subject → List Name). (p : ParsedAs c (record (items_of r t.taken.bodies ps) { named = n }) (with_customs (contents_view new) (customs_of r.customs))) × LocalsInTurn (record (items_of r t.taken.bodies ps) { named = n }) p.renaming)
    (same_names r t.taken.bodies ps namings) (whole, turn)
