-- What is listed of custom sections, and how many functions there are.
use Rattle.std.proofs.Common.{◌≡◌, ℕ, zero, suc, ◌+◌, ◌<◌, Bool, List, [], ◌∷◌, ◌++◌, length, get_or, take, map, filter_map, codes, Result, Ok, Err, OnOk, refl, ap, sym, subst, ◌∙◌, arith, append_assoc}
use Rattle.std.proofs.lemmas.List.{append-nil}
use Rattle.std.specs.List.{cons_option}
use Rattle.wasm_forms.specs.Spelling.{row_bytes}
use Rattle.wasm_forms.specs.declared.error.WireError.{WireError}
use Rattle.wasm_entries.specs.declared.record.RawImport.{RawImport}
use Rattle.wasm_entries.specs.Record.{import_entry}
use Rattle.wasm_frames.specs.declared.record.RawCustom.{RawCustom}
use Rattle.wasm_frames.specs.Record.{Custom, custom_record}
use Rattle.wasm_payloads.specs.Names.{Named, Names}
use Rattle.wasm_payloads.specs.Sink.{Handed, after_all}
use Rattle.wasm_wire.specs.Context.{imported, desc_function}
use Rattle.wasm_copy.specs.Listing.{IsListed, of_names, AreListed, naming_line}

pub imported_entries : (xs : List RawImport) → imported desc_function (map import_entry xs) ≡ filter_map (λ i. desc_function (import_entry i).desc) xs
imported_entries [] = refl
imported_entries (x ∷ xs) = ap (λ tail. cons_option (desc_function (import_entry x).desc) tail) (imported_entries xs)

told : (names : List Named) (text : List ℕ) → after_all (λ t n. t ++ naming_line n) text names ≡ text ++ row_bytes naming_line names
told [] text = sym (append-nil text)
told (n ∷ ns) text = told ns (text ++ naming_line n) ∙ append_assoc text (naming_line n) (row_bytes naming_line ns)

-- the namings of a section that a sink took as lines
pub names_listed : {Self X : Type 0} (seen : Self → List ℕ) (refuses : Self → Named → WireError → Type 0) (known : ℕ → Bool) (section : Custom) (old new : Self) (result : Result X WireError) → section.name ≡ codes "name" → ((names : List Named) × (Names known section.bytes names × Handed seen (λ text n. text ++ naming_line n) refuses old new names result)) → OnOk result ((x : List ℕ) × (IsListed known section x × (seen new ≡ seen old ++ x)))
names_listed seen refuses known section old new (Ok x) is h = (row_bytes naming_line h.0, (of_names h.0 is h.1.0 refl, h.1.1 ∙ told h.0 (seen old)))
names_listed seen refuses known section old new (Err e) is h = tt

listed_more : (known : ℕ → Bool) (xs : List RawCustom) (i : ℕ) (d : RawCustom) (before more now : List ℕ) → i < length xs → AreListed known (map custom_record (take i xs)) before → IsListed known (custom_record (get_or xs i d)) more → now ≡ before ++ more → AreListed known (map custom_record (take (suc i) xs)) now
listed_more known [] i d before more now l h k e = absurd (omega arith)
listed_more known (x ∷ xs) zero d before more now l h k e = (more, ([], (k, refl, e ∙ ap (λ y. y ++ more) h ∙ sym (append-nil more))))
listed_more known (x ∷ xs) (suc i) d before more now l h k e =
    (h.0, (h.1.0 ++ more, (h.1.1.0, listed_more known xs i d h.1.0 more (h.1.0 ++ more) (omega arith) h.1.1.1 k refl, e ∙ ap (λ y. y ++ more) h.1.1.2 ∙ append_assoc h.0 h.1.0 more)))

-- one more section
pub one_listed : (known own : ℕ → Bool) (xs : List RawCustom) (i : ℕ) (d : RawCustom) (before now : List ℕ) → own ≡ known → i < length xs → AreListed known (map custom_record (take i xs)) before → ((more : List ℕ) × (IsListed own (custom_record (get_or xs i d)) more × (now ≡ before ++ more))) → AreListed known (map custom_record (take (i + 1) xs)) now
one_listed known own xs i d before now same l h k =
    let P : (ℕ → Bool) → Type 0 = λ f. IsListed f (custom_record (get_or xs i d)) k.0 in
    let Q : ℕ → Type 0 = λ n. AreListed known (map custom_record (take n xs)) now in
    let one : suc i ≡ i + 1 = omega arith in
    subst Q one (listed_more known xs i d before k.0 now l h (subst P same k.1.0) k.1.1)

-- all of the sections
pub all_listed : (known : ℕ → Bool) (taken all : List RawCustom) (text now : List ℕ) → taken ≡ all → now ≡ text → AreListed known (map custom_record taken) text → AreListed known (map custom_record all) now
all_listed known taken all text now whole same h =
    let P : List RawCustom → Type 0 = λ xs. AreListed known (map custom_record xs) now in
    let Q : List ℕ → Type 0 = λ t. AreListed known (map custom_record taken) t in
    subst P whole (subst Q (sym same) h)
