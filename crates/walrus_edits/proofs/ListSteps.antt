-- The list of a module's items, from the module that was parsed on.
use Rattle.std.proofs.Common.{◌≡◌, ℕ, suc, ◌+◌, Bool, true, false, List, [], ◌∷◌, ◌++◌, length, map, flat_map, refl, sym, ap, subst, ◌∙◌, arith, append_assoc, append-nil, length-append}
use Rattle.std.specs.Prelude.{Err, Ok, codes, filter, nat_lt}
use Rattle.std.specs.Global.{Vec}
use Rattle.std.specs.List.{AllZip}
use Rattle.wasm_entries.specs.Record.{Group, Import, import_entry}
use Rattle.wasm_entries.specs.declared.record.RawImport.{RawImport}
use Rattle.wasm_entries.specs.declared.record.RawDesc.{RawDesc}
use Rattle.wasm_entries.specs.declared.record.RawDesc.TheVariants as descs
use Rattle.walrus.specs.Forms.Spelling.{row_bytes}
use Rattle.wasm_forms.specs.Writing.{Adds, EachFits}
use Rattle.wasm_forms.specs.declared.error.WireError.{WireError}
use Rattle.wasm_forms.specs.declared.error.WireError.TheVariants as wires
use Rattle.walrus.specs.Frames.Record as wire
use Rattle.wasm_payloads.specs.Names.{Names}
use Rattle.walrus.specs.Contents.Contents.{Contents}
use Rattle.walrus.specs.Model.Sections.{function_types, imported, imported_type}
use Rattle.walrus.specs.Theorem.Headline.{has_function, payloads}
use Rattle.walrus_edits.specs.ItemRecords.{Told, ToldFits, told_bytes}
use Rattle.walrus_edits.specs.ItemSteps.{ListsItems, RowsFit, rows}
use Rattle.walrus_edits.specs.ItemValues.{AreTold, brings_function, told_parts}
use Rattle.walrus_edits.specs.LocalNames.{AreLocalNames, are_known}
use Rattle.walrus_edits.specs.declared.local_names.Functions.{Functions}
use Rattle.walrus_edits.proofs.TellSteps.{fits_rows, rows_append, rows_fit, rows_fit_both, rows_flat}

-- ---- how many functions there are

by_kind : (i : ℕ) (is : List Import) (x : Import) (d : RawDesc) → x.desc ≡ d → length (imported imported_type (i + 1) is) ≡ length (filter brings_function is) → length (imported imported_type i (x ∷ is)) ≡ length (filter brings_function (x ∷ is))
by_kind i is x (descs.Function ty) at h = rw at (ap suc h)
by_kind i is x (descs.Table ty) at h = rw at h
by_kind i is x (descs.Memory l) at h = rw at h
by_kind i is x (descs.Global ty) at h = rw at h
by_kind i is x (descs.Tag ty) at h = rw at h

pub imported_count : (i : ℕ) (is : List Import) → length (imported imported_type i is) ≡ length (filter brings_function is)
imported_count i [] = refl
imported_count i (x ∷ is) = by_kind i is x x.desc refl (imported_count (i + 1) is)

raw_by : (x : RawImport) (xs : List RawImport) (yes : Bool) → brings_function (import_entry x) ≡ yes → length (filter (λ i. brings_function (import_entry i)) xs) ≡ length (filter brings_function (map import_entry xs))
    → length (filter (λ i. brings_function (import_entry i)) (x ∷ xs)) ≡ length (filter brings_function (map import_entry (x ∷ xs)))
raw_by x xs true is h = rw is (ap suc h)
raw_by x xs false is h = rw is h

raw_count : (xs : List RawImport) → length (filter (λ i. brings_function (import_entry i)) xs) ≡ length (filter brings_function (map import_entry xs))
raw_count [] = refl
raw_count (x ∷ xs) = raw_by x xs (brings_function (import_entry x)) refl (raw_count xs)

pub functions_known : (s : wire.Module) (fs : Functions) (imports : List RawImport) → s.imports ≡ map import_entry imports → fs.imported ≡ length (filter (λ i. brings_function (import_entry i)) imports) → fs.defined ≡ length s.functions
    → are_known fs ≡ has_function s
functions_known s fs imports same b d =
    let raw : fs.imported ≡ length (filter brings_function s.imports) = b ∙ raw_count imports ∙ ap (λ is. length (filter brings_function is)) (sym same) in
    let count : fs.imported + fs.defined ≡ length (function_types s) = omega (arith, raw, d, imported_count 0 s.imports, length-append (imported imported_type 0 s.imports) s.functions) in
    ap {B = ℕ → Bool} (λ (n : ℕ) (f : ℕ). nat_lt f n) count

-- ---- the list

module _ (s : wire.Module) (groups : List Group) (c : Contents) where
  abbrev pub Parts : List Told → List (List Told)
  Parts locals = told_parts s groups c locals

  pub are_told : (known : ℕ → Bool) (locals : List Told) → known ≡ has_function s → AreLocalNames known s.customs locals → AreTold s groups c (flat_map (λ part. part) (Parts locals))
  are_told known locals same h = record {
    namings = h.namings;
    named = subst (λ (k : ℕ → Bool). AllZip (Names k) (payloads (codes "name") s) h.namings) same h.read;
    are = ap (λ (ls : List Told). flat_map (λ part. part) (Parts ls)) h.are;
  }

  pub lists : (locals : List Told) (old : List ℕ) (list : Vec ℕ) → old ≡ [] → AreTold s groups c (flat_map (λ part. part) (Parts locals)) → (list.items ≡ old ++ rows (Parts locals)) × RowsFit (Parts locals) → ListsItems s groups c (Ok list)
  lists locals old list none told h = (flat_map (λ part. part) (Parts locals), told, h.0 ∙ ap (λ l. l ++ rows (Parts locals)) none ∙ rows_flat (Parts locals), rows_fit (Parts locals) h.1)

  pub lists_not : (X : Type 0) (e : WireError) (old new : List ℕ) (locals : List Told) → AreTold s groups c (flat_map (λ part. part) (Parts locals)) → Adds {X = X} (Err e) old new (rows (Parts locals)) (RowsFit (Parts locals)) → ListsItems s groups c (Err e)
  lists_not X wires.Malformed old new locals told h = h
  lists_not X (wires.Memory m) old new locals told h = tt
  lists_not X wires.TooLarge old new locals told h = (flat_map (λ part. part) (Parts locals), told, λ fits. h (fits_rows (Parts locals) fits))

-- ---- one part behind another

-- these parts stand behind what was there, and each record fits
pub record HasParts (old now : List ℕ) (done : List (List Told)) : Type 0 where
  pub written : now ≡ old ++ rows done
  pub fit : RowsFit done

pub parts_none : (old : List ℕ) → HasParts old old []
parts_none old = record { written = sym (append-nil old); fit = tt }

pub parts_join : (old mid new : List ℕ) (done more : List (List Told)) → HasParts old mid done → (new ≡ mid ++ rows more) × RowsFit more → HasParts old new (done ++ more)
parts_join old mid new done more h k = record {
  written = k.0 ∙ ap (λ l. l ++ rows more) h.written ∙ append_assoc old (rows done) (rows more) ∙ ap (λ l. old ++ l) (sym (rows_append done more));
  fit = rows_fit_both done more h.fit k.1;
}

pub parts_more : (old mid new : List ℕ) (done : List (List Told)) (part told : List Told) → told ≡ part → HasParts old mid done → (new ≡ mid ++ row_bytes told_bytes told) × EachFits ToldFits told → HasParts old new (done ++ part ∷ [])
parts_more old mid new done part told same h k =
    let row : new ≡ mid ++ rows (part ∷ []) = k.0 ∙ ap (λ ts. mid ++ row_bytes told_bytes ts) same ∙ ap (λ l. mid ++ l) (sym (append-nil (row_bytes told_bytes part))) in
    parts_join old mid new done (part ∷ []) h (row, (subst (EachFits ToldFits) same k.1, tt))

pub parts_end : (old now : List ℕ) (done : List (List Told)) → HasParts old now done → (now ≡ old ++ rows done) × RowsFit done
parts_end old now done h = (h.written, h.fit)
