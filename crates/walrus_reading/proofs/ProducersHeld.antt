-- The fields of producers sections, those of one section behind those of another.
use Rattle.std.proofs.Common.{◌≡◌, ℕ, ◌+◌, ◌<◌, Bool, true, cond, List, [], ◌∷◌, ◌++◌, length, map, take, get_or, refl, sym, ap, subst, ◌∙◌, append_assoc}
use Rattle.std.specs.Prelude.{bytes_eq, codes, filter, flat_map}
use Rattle.std.specs.Borrow.{Bor}
use Rattle.std.specs.List.{AllZip}
use Rattle.std.proofs.lemmas.List.{append-nil, map-append, take_more}
use Rattle.std.proofs.lemmas.List.Elements.{filter-append}
use Rattle.std.proofs.lemmas.Grind.{flat_map-append}
use Rattle.wasm_frames.specs.declared.record.RawCustom.{RawCustom}
use Rattle.wasm_frames.specs.Record as wire
use Rattle.wasm_frames.specs.Record.{custom_record}
use Rattle.wasm_payloads.specs.declared.producers.RawField.{RawField}
use Rattle.wasm_payloads.specs.Producers.{Field, Fields, field_record, value_record}
use Rattle.walrus_producers.specs.Seen.{pair_value, producers}
use Rattle.walrus_producers.specs.declared.producers.ModuleProducers.{ModuleProducers}
use Rattle.walrus_model.specs.Producers.{ProducerField, ProducerValue, produced}
use Rattle.walrus_model.proofs.AlongRecords.{zip_append}
use Rattle.walrus_theorem.specs.Headline.{field_of, payloads, value_of}
use Rattle.walrus_reading.specs.Producers.{AddsSections, HoldsProducers, only_customs}

-- ---- the fields of one section

abbrev fields_seen : List RawField → List ProducerField
fields_seen fs = map field_of (map field_record fs)

same_values : (vs : List (Bor (List ℕ) × Bor (List ℕ))) → map pair_value vs ≡ map value_of (map value_record vs)
same_values [] = refl
same_values (v ∷ vs) = ap (λ l. pair_value v ∷ l) (same_values vs)

fields_more : (xs : List RawField) (i : ℕ) (d : RawField) → i < length xs → fields_seen (take i xs) ++ field_of (field_record (get_or xs i d)) ∷ [] ≡ fields_seen (take (i + 1) xs)
fields_more xs i d lt =
    let x : RawField = get_or xs i d in
    sym (ap fields_seen (take_more xs i d lt) ∙ ap (map field_of) (map-append field_record (take i xs) (x ∷ [])) ∙ map-append field_of (map field_record (take i xs)) (field_record x ∷ []))

-- one more field
pub one_more_field : (xs : List RawField) (i : ℕ) (d x : RawField) (values : List (Bor (List ℕ) × Bor (List ℕ))) (old now new : List ProducerField) → i < length xs → x ≡ get_or xs i d → values ≡ x.values.items
    → now ≡ old ++ map field_of (map field_record (take i xs)) → new ≡ now ++ record { name = x.name.now; values = map pair_value values } ∷ [] → new ≡ old ++ map field_of (map field_record (take (i + 1) xs))
one_more_field xs i d x values old now new lt is same h k =
    let front : List ProducerField = fields_seen (take i xs) in
    let pushed : List ProducerValue → ProducerField = λ vs. record { name = x.name.now; values = vs } in
    k
    ∙ ap (λ l. l ++ pushed (map pair_value values) ∷ []) h
    ∙ ap (λ (f : ProducerField). (old ++ front) ++ f ∷ []) (ap pushed (ap (map pair_value) same ∙ same_values x.values.items) ∙ ap (λ (f : RawField). field_of (field_record f)) is)
    ∙ append_assoc old front (field_of (field_record (get_or xs i d)) ∷ [])
    ∙ ap (λ l. old ++ l) (fields_more xs i d lt)

-- ---- section by section

abbrev read_from : List wire.Custom → List (List ℕ)
read_from cs = payloads (codes "producers") (only_customs cs)

read_from-append : (xs ys : List wire.Custom) → read_from (xs ++ ys) ≡ read_from xs ++ read_from ys
read_from-append xs ys =
    let test : wire.Custom → Bool = λ c. bytes_eq c.name (codes "producers") in
    let bytes : wire.Custom → List ℕ = λ c. c.bytes in
    ap (map bytes) (filter-append test xs ys) ∙ map-append bytes (filter test xs) (filter test ys)

one_behind : (xs ys : List wire.Custom) (a b c : List ProducerField) → AddsSections xs a b → AddsSections ys b c → AddsSections (xs ++ ys) a c
one_behind xs ys a b c h k =
    let seen : List (List Field) → List ProducerField = λ fs. flat_map (map field_of) fs in
    record {
      fields = h.fields ++ k.fields;
      read = subst (λ ps. AllZip Fields ps (h.fields ++ k.fields)) (sym (read_from-append xs ys)) (zip_append Fields (read_from xs) (read_from ys) h.fields k.fields h.read k.read);
      are = k.are ∙ ap (λ l. l ++ seen k.fields) h.are ∙ append_assoc a (seen h.fields) (seen k.fields) ∙ ap (λ l. a ++ l) (sym (flat_map-append (map field_of) h.fields k.fields));
    }

-- one more section
pub one_more_section : (xs : List RawCustom) (i : ℕ) (d : RawCustom) (a b c : List ProducerField) → i < length xs → AddsSections (map custom_record (take i xs)) a b → AddsSections (custom_record (get_or xs i d) ∷ []) b c
    → AddsSections (map custom_record (take (i + 1) xs)) a c
one_more_section xs i d a b c lt h k =
    let x : RawCustom = get_or xs i d in
    subst (λ cs. AddsSections cs a c) (sym (ap (map custom_record) (take_more xs i d lt) ∙ map-append custom_record (take i xs) (x ∷ [])))
    (one_behind (map custom_record (take i xs)) (custom_record x ∷ []) a b c h k)

-- ---- one section

passed : (c : wire.Custom) (b : Bool) → bytes_eq c.name (codes "producers") ≡ b → read_from (c ∷ []) ≡ map (λ (d : wire.Custom). d.bytes) (cond b (c ∷ []) [])
passed c b is = ap (λ (t : Bool). map (λ (d : wire.Custom). d.bytes) (cond t (c ∷ []) [])) is

pub fields_read : (c : wire.Custom) (fields : List Field) (old new : List ProducerField) → bytes_eq c.name (codes "producers") ≡ true → Fields c.bytes fields → new ≡ old ++ map field_of fields → AddsSections (c ∷ []) old new
fields_read c fields old new is read are = record {
  fields = fields ∷ [];
  read = subst (λ ps. AllZip Fields ps (fields ∷ [])) (sym (passed c true is)) (read, tt);
  are = are ∙ ap (λ l. old ++ l) (sym (append-nil (map field_of fields)));
}

-- ---- all of them, and this program

pub with_own : (customs : List wire.Custom) (old read : List ProducerField) (made : ModuleProducers) → old ≡ [] → AddsSections customs old read → producers made ≡ produced read → HoldsProducers (only_customs customs) made
with_own customs old read made none h is = record {
  fields = h.fields;
  read = h.read;
  are = is ∙ ap produced (h.are ∙ ap (λ l. l ++ flat_map (map field_of) h.fields) none);
}

-- it is so of all sections where it is so of the custom ones
pub held_of_all : (s : wire.Module) (customs : List wire.Custom) (made : ModuleProducers) → customs ≡ s.customs → HoldsProducers (only_customs customs) made → HoldsProducers s made
held_of_all s customs made same h = record {
  fields = h.fields;
  read = subst (λ cs. AllZip Fields (read_from cs) h.fields) same h.read;
  are = h.are;
}
