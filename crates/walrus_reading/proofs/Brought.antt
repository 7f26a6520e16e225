-- What imports bring, one after another.
use Rattle.std.proofs.Common.{◌≡◌, ℕ, suc, ◌+◌, ◌<◌, ◌≤◌, List, [], ◌∷◌, ◌++◌, length, map, take, get_or, refl, sym, ap, subst, ◌∙◌, arith, append_assoc, append-nil}
use Rattle.std.specs.Prelude.{Option, Some, option_to_list, Result, Ok, Err, OnOk}
use Rattle.std.proofs.lemmas.List.{take_more, take_all, map-append}
use Rattle.wasm_entries.specs.declared.record.RawDesc.{RawDesc}
use Rattle.wasm_entries.specs.declared.record.RawDesc.TheVariants as descs
use Rattle.wasm_entries.specs.declared.record.RawImport.{RawImport}
use Rattle.wasm_entries.specs.Record as entries
use Rattle.walrus_base.specs.Id.{place}
use Rattle.walrus_base.specs.declared.id.Id.{Id}
use Rattle.walrus_base.specs.Operators.{Functions, Tables, Memories, Tags, Globals, Item}
use Rattle.walrus_items.specs.declared.error.Error.{Error}
use Rattle.walrus_items.specs.Functions.{functions}
use Rattle.walrus_items.specs.Imports.{imports}
use Rattle.walrus_items.specs.Added.{IsAdded}
use Rattle.walrus_items.specs.Globals.{globals}
use Rattle.walrus_items.specs.Memories.{memories}
use Rattle.walrus_items.specs.Tables.{tables}
use Rattle.walrus_items.specs.Tags.{tags}
use Rattle.walrus_model.specs.Abstract.{Import}
use Rattle.walrus_model.specs.Sections.{imported, imported_function, imported_global, imported_memory, imported_table, imported_tag, imports_after, item_after}
use Rattle.walrus_contents.specs.View.{HoldsNoOthers}
use Rattle.walrus_contents.specs.declared.parts.Contents.{Contents}
use Rattle.walrus_reading.specs.Held.{HoldsGlobal, HoldsImport, HoldsImportedFunction, HoldsMemory, HoldsTable, HoldsTag, none_kept}
use Rattle.walrus_reading.specs.Imported.{AddsImport, Brings, HoldsImports, SameOthers, next_import, next_item}
use Rattle.walrus_reading.specs.Placed.{AddsPlaced, AllPlaced}
use Rattle.walrus_reading.proofs.Rows.{adds_one, placed_length, placed_more}

-- ---- lists of imports

long_next : {X : Type 0} (get : ℕ → RawDesc → Option X) (i n : ℕ) (xs : List entries.Import) (x : entries.Import) → n ≡ i + length xs → imported get i (xs ++ x ∷ []) ≡ imported get i xs ++ option_to_list (get n x.desc)
long_next get i n [] x e =
    let at : i ≡ n = omega (arith, e) in
    append-nil (option_to_list (get i x.desc)) ∙ ap (λ (k : ℕ). option_to_list (get k x.desc)) at
long_next get i n (y ∷ xs) x e =
    ap (λ l. option_to_list (get i y.desc) ++ l) (long_next get (i + 1) n xs x (omega (arith, e)))
    ∙ sym (append_assoc (option_to_list (get i y.desc)) (imported get (i + 1) xs) (option_to_list (get n x.desc)))

-- what one more import brings
imported_next : {X : Type 0} (get : ℕ → RawDesc → Option X) (xs : List entries.Import) (x : entries.Import) → imported get 0 (xs ++ x ∷ []) ≡ imported get 0 xs ++ option_to_list (get (length xs) x.desc)
imported_next get xs x = long_next get 0 (length xs) xs x (omega arith)

abbrev import_with : entries.Import → Item → Import
import_with x item = record { module_name = x.from; name = x.name; item = item }

imports_next : (before xs : List entries.Import) (x : entries.Import) → imports_after before (xs ++ x ∷ []) ≡ imports_after before xs ++ import_with x (item_after (before ++ xs) x.desc) ∷ []
imports_next before [] x = ap (λ (l : List entries.Import). import_with x (item_after l x.desc) ∷ []) (sym (append-nil before))
imports_next before (y ∷ xs) x =
    ap (λ l. import_with y (item_after before y.desc) ∷ l)
    (imports_next (before ++ y ∷ []) xs x ∙ ap (λ (l : List entries.Import). imports_after (before ++ y ∷ []) xs ++ import_with x (item_after l x.desc) ∷ []) (append_assoc before (y ∷ []) xs))

imports_long : (before xs : List entries.Import) → length (imports_after before xs) ≡ length xs
imports_long before [] = refl
imports_long before (x ∷ xs) = ap suc (imports_long (before ++ x ∷ []) xs)

-- ---- one import

-- an item that is added with the next id, or not for want of memory
module _ {K T X : Type 0} (R : ℕ → X → Option T → Type 0) where
  pub added_ok : (result : Result (Id K) Error) (old new : List (Option T)) (item : ℕ → T) (x : X) → ((id : ℕ) → id ≡ length old → R (length old) x (Some (item id))) → IsAdded result old new item
      → OnOk result (AddsPlaced R (x ∷ []) old new)
  added_ok (Ok id) old new item x holds added = adds_one R x (Some (item (place id))) old new added.1 (holds (place id) added.0)
  added_ok (Err e) old new item x holds added = tt

-- the number of what is brought next, in the sections and in the module
next_here : (xs : List entries.Import) (m : Contents) (d : RawDesc) → HoldsImports xs m → next_item m d ≡ item_after xs d
next_here xs m (descs.Function ty) h = ap (λ (n : ℕ). (Functions, n)) (sym (placed_length HoldsImportedFunction 0 (imported imported_function 0 xs) (functions m.funcs) h.functions))
next_here xs m (descs.Table ty) h = ap (λ (n : ℕ). (Tables, n)) (sym (placed_length (HoldsTable none_kept) 0 (imported imported_table 0 xs) (tables m.tables) h.tables))
next_here xs m (descs.Memory l) h = ap (λ (n : ℕ). (Memories, n)) (sym (placed_length (HoldsMemory none_kept) 0 (imported imported_memory 0 xs) (memories m.memories) h.memories))
next_here xs m (descs.Global ty) h = ap (λ (n : ℕ). (Globals, n)) (sym (placed_length HoldsGlobal 0 (imported imported_global 0 xs) (globals m.globals) h.globals))
next_here xs m (descs.Tag ty) h = ap (λ (n : ℕ). (Tags, n)) (sym (placed_length HoldsTag 0 (imported imported_tag 0 xs) (tags m.tags) h.tags))

-- one more import behind those that are held
held_next : (xs : List entries.Import) (x : entries.Import) (old new : Contents) → HoldsImports xs old → AddsImport x old new → HoldsImports (xs ++ x ∷ []) new
held_next xs x old new h a =
    let many : length (imports old.imports) ≡ length xs = sym (placed_length HoldsImport 0 (imports_after [] xs) (imports old.imports) h.imports) ∙ imports_long [] xs in
    let b : Brings (length xs) x.desc old new = subst (λ (n : ℕ). Brings n x.desc old new) many a.brings in
    let next : imports_after [] xs ++ next_import old x ∷ [] ≡ imports_after [] (xs ++ x ∷ []) =
    ap (λ (i : Item). imports_after [] xs ++ import_with x i ∷ []) (next_here xs old x.desc h) ∙ sym (imports_next [] xs x) in
    record {
      imports = subst (λ l. AllPlaced HoldsImport 0 l (imports new.imports)) next (placed_more HoldsImport (imports_after [] xs) (next_import old x ∷ []) (imports old.imports) (imports new.imports) h.imports a.imports);
      functions = subst (λ l. AllPlaced HoldsImportedFunction 0 l (functions new.funcs)) (sym (imported_next imported_function xs x))
          (placed_more HoldsImportedFunction (imported imported_function 0 xs) (option_to_list (imported_function (length xs) x.desc)) (functions old.funcs) (functions new.funcs) h.functions b.functions);
      tables = subst (λ l. AllPlaced (HoldsTable none_kept) 0 l (tables new.tables)) (sym (imported_next imported_table xs x))
          (placed_more (HoldsTable none_kept) (imported imported_table 0 xs) (option_to_list (imported_table (length xs) x.desc)) (tables old.tables) (tables new.tables) h.tables b.tables);
      memories = subst (λ l. AllPlaced (HoldsMemory none_kept) 0 l (memories new.memories)) (sym (imported_next imported_memory xs x))
          (placed_more (HoldsMemory none_kept) (imported imported_memory 0 xs) (option_to_list (imported_memory (length xs) x.desc)) (memories old.memories) (memories new.memories) h.memories b.memories);
      tags = subst (λ l. AllPlaced HoldsTag 0 l (tags new.tags)) (sym (imported_next imported_tag xs x))
          (placed_more HoldsTag (imported imported_tag 0 xs) (option_to_list (imported_tag (length xs) x.desc)) (tags old.tags) (tags new.tags) h.tags b.tags);
      globals = subst (λ l. AllPlaced HoldsGlobal 0 l (globals new.globals)) (sym (imported_next imported_global xs x))
          (placed_more HoldsGlobal (imported imported_global 0 xs) (option_to_list (imported_global (length xs) x.desc)) (globals old.globals) (globals new.globals) h.globals b.globals);
    }

-- ---- the loop over them

same_then : (first old new : Contents) → SameOthers first old → SameOthers old new → SameOthers first new
same_then first old new a b = record { types = b.types ∙ a.types; locals = b.locals ∙ a.locals; elements = b.elements ∙ a.elements; data_ = b.data_ ∙ a.data_; exports = b.exports ∙ a.exports; producers = b.producers ∙ a.producers; name = b.name ∙ a.name }

-- those so far, and all else as it was
pub record ImportedSoFar (raw : List RawImport) (i : ℕ) (first m : Contents) : Type 0 where
  pub held : HoldsImports (map entries.import_entry (take i raw)) m
  pub others : SameOthers first m

module _ (raw : List RawImport) (first : Contents) where
  pub none_imported : (m : Contents) → HoldsNoOthers m → functions m.funcs ≡ [] → SameOthers first m → ImportedSoFar raw 0 first m
  none_imported m none none_too same = record {
    held = record {
      imports = rw none.imports tt;
      functions = rw none_too tt;
      tables = rw none.tables tt;
      memories = rw none.memories tt;
      tags = rw none.tags tt;
      globals = rw none.globals tt;
    };
    others = same;
  }

  pub one_more_imported : (i : ℕ) (d : RawImport) (old new : Contents) → i < length raw → ImportedSoFar raw i first old → AddsImport (entries.import_entry (get_or raw i d)) old new → ImportedSoFar raw (i + 1) first new
  one_more_imported i d old new lt before adds =
      let v : RawImport = get_or raw i d in
      let more : map entries.import_entry (take (i + 1) raw) ≡ map entries.import_entry (take i raw) ++ entries.import_entry v ∷ [] =
      ap (map entries.import_entry) (take_more raw i d lt) ∙ map-append entries.import_entry (take i raw) (v ∷ []) in
      record {
        held = subst (λ (l : List entries.Import). HoldsImports l new) (sym more) (held_next (map entries.import_entry (take i raw)) (entries.import_entry v) old new before.held adds);
        others = same_then first old new before.others adds.brings.others;
      }

  pub all_imported : (i : ℕ) (m : Contents) → length raw ≤ i → ImportedSoFar raw i first m → HoldsImports (map entries.import_entry raw) m
  all_imported i m le h = subst (λ (l : List RawImport). HoldsImports (map entries.import_entry l) m) (take_all i raw le) h.held
