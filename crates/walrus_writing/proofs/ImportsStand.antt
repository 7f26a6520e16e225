-- The imports that the entries say, one behind another, are the imports of the module, renamed: each names the item that has its number.
use Rattle.std.proofs.Common.{◌≡◌, ℕ, List, [], ◌∷◌, ◌++◌, append_assoc, length, refl, sym, ap, ◌∙◌, subst, Some}
use Rattle.std.specs.Prelude.{Option, filter_map, slice_get}
use Rattle.std.specs.List.{AllZip, cons_option}
use Rattle.std.proofs.lemmas.List.Elements.{filter_map-append}
use Rattle.std.proofs.lemmas.Slice.Zip.{AllZip-long}
use Rattle.wasm_entries.specs.Record as wire
use Rattle.wasm_entries.specs.declared.record.RawDesc.{RawDesc}
use Rattle.wasm_entries.specs.declared.record.RawDesc.TheVariants as descs
use Rattle.walrus_base.specs.Operators.{Space, Types, Functions, Tables, Memories, Tags, Globals, Elements, DataSegments, Item}
use Rattle.walrus_code.specs.Names.{Lookup}
use Rattle.walrus_constants.specs.Laws.{AgreesWith}
use Rattle.walrus_model.specs.Abstract.{Abstract, Import, Name}
use Rattle.walrus_model.specs.Imported.{brought, brought_by, import_number, import_number_by}
use Rattle.walrus_model.specs.Ordered.{StandsFor}
use Rattle.walrus_model.specs.Renaming.{Renaming, renamed_import}
use Rattle.walrus_model.specs.Sections.{imports_after, item_after}
use Rattle.walrus_model.specs.Spaces.{Thing, look, SameThing}
use Rattle.walrus_model.proofs.ImportedZip.{imported_zip}
use Rattle.walrus_writing.specs.Imported.{AreBare, IsEntryAt}
use Rattle.walrus_writing.proofs.ImportedAlong.{entries_brought}
use Rattle.walrus_model.proofs.OrderByImport.{own_number}
use Rattle.walrus_base.proofs.ZipTurns.{zip_snoc}
use Rattle.walrus_base.proofs.WholeLemmas.{none_some as untrue}
use Rattle.walrus_groups.proofs.TypeLists.{got_left as in_front}

-- ---- lists

seam_at : {A : Type 0} (xs ys : List A) (y : A) → slice_get (xs ++ y ∷ ys) (length xs) ≡ Some y
seam_at [] ys y = refl
seam_at (x ∷ xs) ys y = seam_at xs ys y

-- ---- the item that a description brings, behind other imports

item_brought : (s : Space) (k : ℕ) (d : RawDesc) (y : Thing s) (before : List wire.Import) → brought_by s k d ≡ Some y → item_after before d ≡ (s, length (brought s before))
item_brought Functions k (descs.Function t) y before e = refl
item_brought Functions k (descs.Table t) y before e = absurd (untrue _ _ refl e)
item_brought Functions k (descs.Memory t) y before e = absurd (untrue _ _ refl e)
item_brought Functions k (descs.Global t) y before e = absurd (untrue _ _ refl e)
item_brought Functions k (descs.Tag t) y before e = absurd (untrue _ _ refl e)
item_brought Tables k (descs.Function t) y before e = absurd (untrue _ _ refl e)
item_brought Tables k (descs.Table t) y before e = refl
item_brought Tables k (descs.Memory t) y before e = absurd (untrue _ _ refl e)
item_brought Tables k (descs.Global t) y before e = absurd (untrue _ _ refl e)
item_brought Tables k (descs.Tag t) y before e = absurd (untrue _ _ refl e)
item_brought Memories k (descs.Function t) y before e = absurd (untrue _ _ refl e)
item_brought Memories k (descs.Table t) y before e = absurd (untrue _ _ refl e)
item_brought Memories k (descs.Memory t) y before e = refl
item_brought Memories k (descs.Global t) y before e = absurd (untrue _ _ refl e)
item_brought Memories k (descs.Tag t) y before e = absurd (untrue _ _ refl e)
item_brought Globals k (descs.Function t) y before e = absurd (untrue _ _ refl e)
item_brought Globals k (descs.Table t) y before e = absurd (untrue _ _ refl e)
item_brought Globals k (descs.Memory t) y before e = absurd (untrue _ _ refl e)
item_brought Globals k (descs.Global t) y before e = refl
item_brought Globals k (descs.Tag t) y before e = absurd (untrue _ _ refl e)
item_brought Tags k (descs.Function t) y before e = absurd (untrue _ _ refl e)
item_brought Tags k (descs.Table t) y before e = absurd (untrue _ _ refl e)
item_brought Tags k (descs.Memory t) y before e = absurd (untrue _ _ refl e)
item_brought Tags k (descs.Global t) y before e = absurd (untrue _ _ refl e)
item_brought Tags k (descs.Tag t) y before e = refl
item_brought Types k d y before e = absurd (untrue _ _ refl e)
item_brought Elements k d y before e = absurd (untrue _ _ refl e)
item_brought DataSegments k d y before e = absurd (untrue _ _ refl e)

-- ---- all imports

abbrev import_with : Name → Name → Item → Import
import_with from name item = record { module_name = from; name = name; item = item }

module _ (names : Lookup) (r : Renaming) (agrees : AgreesWith r names) (v : Abstract) (are : AreBare v) (order : List ℕ)
    (index : (j p : ℕ) → slice_get order j ≡ Some p → r.imports p ≡ j)
    (numbered : (s : Space) (k i : ℕ) → slice_get (filter_map (import_number v s) order) k ≡ Some i → r.numbers s i ≡ k) where
  -- y is import p, renamed
  abbrev pub Renames : ℕ → Import → Import → Type 0
  Renames p x y = y ≡ renamed_import r x

  module _ (before : List ℕ) (earlier : List wire.Import) (along : AllZip (IsEntryAt names v) before earlier) (p : ℕ) (behind : List ℕ) (is : order ≡ before ++ p ∷ behind) (w : wire.Import) (e : IsEntryAt names v p w) where
    index_before : (j q : ℕ) → slice_get before j ≡ Some q → r.imports q ≡ j
    index_before j q at = index j q (subst (λ (l : List ℕ). slice_get l j ≡ Some q) (sym is) (in_front before (p ∷ behind) j q at))

    -- as many items of a space are brought by earlier imports as are chosen of them
    many_before : (s : Space) → length (brought s earlier) ≡ length (filter_map (import_number v s) before)
    many_before s = AllZip-long (StandsFor (SameThing r s) (look v s)) (filter_map (import_number v s) before) (brought s earlier)
        (imported_zip r v s before earlier (entries_brought names r agrees v are before earlier index_before along))

    chosen_here : import_number v e.value.item.0 p ≡ Some e.value.item.1
    chosen_here = ap (import_number_by e.value.item.0) e.is ∙ own_number e.value.item.0 e.value.item.1

    number_here : (s : Space) (i : ℕ) → import_number v s p ≡ Some i → r.numbers s i ≡ length (filter_map (import_number v s) before)
    number_here s i here = numbered s (length (filter_map (import_number v s) before)) i
        (ap (λ (l : List ℕ). slice_get l (length (filter_map (import_number v s) before)))
        (ap (filter_map (import_number v s)) is ∙ filter_map-append (import_number v s) before (p ∷ behind) ∙ ap (λ (o : Option ℕ). filter_map (import_number v s) before ++ cons_option o (filter_map (import_number v s) behind)) here)
        ∙ seam_at (filter_map (import_number v s) before) (filter_map (import_number v s) behind) i)

    item_here : item_after earlier w.desc ≡ (e.value.item.0, r.numbers e.value.item.0 e.value.item.1)
    item_here =
        let b = e.entry.describes.brings 0 in
        item_brought e.value.item.0 0 w.desc b.thing earlier b.brings
        ∙ ap (λ (n : ℕ). (e.value.item.0, n)) (many_before e.value.item.0 ∙ sym (number_here e.value.item.0 e.value.item.1 chosen_here))

    one_stands : StandsFor Renames v.imports p (import_with w.from w.name (item_after earlier w.desc))
    one_stands = (
      e.value,
      e.is,
      ap (λ (n : Name). import_with n w.name (item_after earlier w.desc)) e.entry.from
          ∙ ap (λ (n : Name). import_with e.value.module_name n (item_after earlier w.desc)) e.entry.name
          ∙ ap (λ (x : Item). import_with e.value.module_name e.value.name x) item_here,
    )

  all_stand : (before : List ℕ) (earlier : List wire.Import) → AllZip (IsEntryAt names v) before earlier → (left : List ℕ) (ws : List wire.Import) → order ≡ before ++ left → AllZip (IsEntryAt names v) left ws → AllZip (StandsFor Renames v.imports) left (imports_after earlier ws)
  all_stand before earlier along [] [] is h = tt
  all_stand before earlier along [] (w ∷ ws) is h = elim h [ ]
  all_stand before earlier along (p ∷ left) [] is h = elim h [ ]
  all_stand before earlier along (p ∷ left) (w ∷ ws) is h = (
    one_stands before earlier along p left is w h.0,
    all_stand (before ++ p ∷ []) (earlier ++ w ∷ []) (zip_snoc (IsEntryAt names v) before earlier p w along h.0) left ws (is ∙ sym (append_assoc before (p ∷ []) left)) h.1,
  )

  pub imports_stand : (ws : List wire.Import) → AllZip (IsEntryAt names v) order ws → AllZip (StandsFor Renames v.imports) order (imports_after [] ws)
  imports_stand ws h = all_stand [] [] tt order ws refl h
