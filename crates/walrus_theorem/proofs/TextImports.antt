-- In the module of sections imports and items name each other.
use Rattle.std.proofs.Common.{◌≡◌, ℕ, zero, suc, ◌+◌, List, [], ◌∷◌, ◌++◌, length, map, refl, sym, ap, ap₂, ◌∙◌, subst, arith, inl, inr, ◌⊎◌, ⊎_elim, append_assoc}
use Rattle.std.specs.Prelude.{Option, Some, None, slice_get, option_to_list, zip}
use Rattle.wasm_entries.specs.declared.record.RawDesc.{RawDesc}
use Rattle.wasm_entries.specs.declared.record.RawDesc.TheVariants as descs
use Rattle.wasm_entries.specs.Record as entries
use Rattle.wasm_frames.specs.Record as wire
use Rattle.wasm_payloads.specs.Names.{Named}
use Rattle.wasm_forms.proofs.Bind.{some_same}
use Rattle.walrus_base.specs.Operators.{Space, Types, Functions, Tables, Memories, Tags, Globals, Elements, DataSegments, Item}
use Rattle.walrus_model.specs.Abstract.{Abstract, ImportedBy, ImportedFunction, Function, Table, Memory, Tag, Global, Import, ProducerField}
use Rattle.walrus_model.specs.Sections.{Said, table_type_of, memory_type_of, global_type_of, imported_function, imported_table, imported_memory, imported_global, imported_tag, imported, item_after, imports_after, function_with, table_of, memory_of, tag_of, global_of}
use Rattle.walrus_model.specs.WellMade.{ImportsMatch, import_in, import_of, kind_import, origin_import}
use Rattle.walrus_theorem.specs.Sections.{module_of}

-- a list cut at an import
pub record Cut (xs : List entries.Import) : Type 0 where
  pub before : List entries.Import
  pub import : entries.Import
  pub after : List entries.Import
  pub is : xs ≡ before ++ import ∷ after

abbrev longer : (x : entries.Import) (xs : List entries.Import) → Cut xs → Cut (x ∷ xs)
longer x xs c = record { before = x ∷ c.before; import = c.import; after = c.after; is = ap (λ l. x ∷ l) c.is }

abbrev first : (x : entries.Import) (xs : List entries.Import) → Cut (x ∷ xs)
first x xs = record { before = []; import = x; after = xs; is = refl }

-- ---- the import entries

abbrev entry_of : List entries.Import → entries.Import → Import
entry_of before x = record { module_name = x.from; name = x.name; item = item_after before x.desc }

entry_found : (front xs : List entries.Import) (k : ℕ) (y : Import) → slice_get (imports_after front xs) k ≡ Some y → (c : Cut xs) × (k ≡ length c.before) × (y ≡ entry_of (front ++ c.before) c.import)
entry_found front [] k y e = absurd (cc)
entry_found front (x ∷ xs) zero y e = (first x xs, refl, sym (some_same (entry_of front x) y e) ∙ ap (λ l. entry_of l x) (none front))
  where
    none : (l : List entries.Import) → l ≡ l ++ []
    none [] = refl
    none (z ∷ zs) = ap (λ r. z ∷ r) (none zs)
entry_found front (x ∷ xs) (suc k) y e =
    let f = entry_found (front ++ x ∷ []) xs k y e in
    (longer x xs f.0, ap suc f.1, f.2 ∙ ap (λ l. entry_of l f.0.import) (append_assoc front (x ∷ []) f.0.before))

entry_at : (front before : List entries.Import) (x : entries.Import) (after : List entries.Import) → slice_get (imports_after front (before ++ x ∷ after)) (length before) ≡ Some (entry_of (front ++ before) x)
entry_at front [] x after = ap (λ l. Some (entry_of l x)) (none front)
  where
    none : (l : List entries.Import) → l ≡ l ++ []
    none [] = refl
    none (z ∷ zs) = ap (λ r. z ∷ r) (none zs)
entry_at front (y ∷ ys) x after = entry_at (front ++ y ∷ []) ys x after ∙ ap (λ l. Some (entry_of l x)) (append_assoc front (y ∷ []) ys)

-- ---- what imports bring to a space

module _ {X : Type 0} (get : ℕ → RawDesc → Option X) where
  abbrev IsAt : (i : ℕ) (xs : List entries.Import) → ℕ → X → Cut xs → Type 0
  IsAt i xs k y c = (get (i + length c.before) c.import.desc ≡ Some y) × (k ≡ length (imported get i c.before))

  abbrev Found : ℕ → List entries.Import → List X → ℕ → X → Type 0
  Found i xs rest k y = ((c : Cut xs) × IsAt i xs k y c) ⊎ ((j : ℕ) × (slice_get rest j ≡ Some y))

  -- with one more import in front, which brings o
  next : (i : ℕ) (x : entries.Import) (xs : List entries.Import) (k : ℕ) (y : X) (c : Cut xs) → (get (i + 1 + length c.before) c.import.desc ≡ Some y) → k ≡ length (option_to_list (get i x.desc) ++ imported get (i + 1) c.before) → IsAt i (x ∷ xs) k y (longer x xs c)
  next i x xs k y c e at = (ap (λ j. get j c.import.desc) (let p : i + length (x ∷ c.before) ≡ i + 1 + length c.before = omega arith in p) ∙ e, at)

  step : (i : ℕ) (x : entries.Import) (xs : List entries.Import) (rest : List X) (o : Option X) → get i x.desc ≡ o → ((k : ℕ) (y : X) → slice_get (imported get (i + 1) xs ++ rest) k ≡ Some y → Found (i + 1) xs rest k y) → (k : ℕ) (y : X) → slice_get (option_to_list o ++ imported get (i + 1) xs ++ rest) k ≡ Some y → Found i (x ∷ xs) rest k y
  step i x xs rest None h rec k y e = ⊎_elim
      (λ (f : (c : Cut xs) × IsAt (i + 1) xs k y c). inl (longer x xs f.0, next i x xs k y f.0 f.1.0 (f.1.1 ∙ ap (λ o. length (option_to_list o ++ imported get (i + 1) f.0.before)) (sym h))))
      (λ (f : (j : ℕ) × (slice_get rest j ≡ Some y)). inr f)
      (rec k y e)
  step i x xs rest (Some z) h rec zero y e = inl (first x xs, (ap (λ j. get j x.desc) (let p : i + 0 ≡ i = omega arith in p) ∙ h ∙ e, refl))
  step i x xs rest (Some z) h rec (suc k) y e = ⊎_elim
      (λ (f : (c : Cut xs) × IsAt (i + 1) xs k y c). inl (longer x xs f.0, next i x xs (suc k) y f.0 f.1.0 (ap suc f.1.1 ∙ ap (λ o. length (option_to_list o ++ imported get (i + 1) f.0.before)) (sym h))))
      (λ (f : (j : ℕ) × (slice_get rest j ≡ Some y)). inr f)
      (rec k y e)

  found : (i : ℕ) (xs : List entries.Import) (rest : List X) (k : ℕ) (y : X) → slice_get (imported get i xs ++ rest) k ≡ Some y → Found i xs rest k y
  found i [] rest k y e = inr (k, e)
  found i (x ∷ xs) rest k y e = step i x xs rest (get i x.desc) refl (found (i + 1) xs rest) k y e

  stands_step : (o : Option X) (front : List X) (m : List X) (y : X) → slice_get m (length front) ≡ Some y → slice_get (option_to_list o ++ m) (length (option_to_list o ++ front)) ≡ Some y
  stands_step None front m y e = e
  stands_step (Some z) front m y e = e

  assoc : (o : Option X) (xs ys : List X) → option_to_list o ++ xs ++ ys ≡ option_to_list o ++ (xs ++ ys)
  assoc o xs ys = append_assoc (option_to_list o) xs ys

  stands : (i : ℕ) (before : List entries.Import) (x : entries.Import) (after : List entries.Import) (rest : List X) (y : X) → get (i + length before) x.desc ≡ Some y → slice_get (imported get i (before ++ x ∷ after) ++ rest) (length (imported get i before)) ≡ Some y
  stands i [] x after rest y e = ap (λ o. slice_get (option_to_list o ++ imported get (i + 1) after ++ rest) 0) (ap (λ j. get j x.desc) (let p : i ≡ i + 0 = omega arith in p) ∙ e)
  stands i (z ∷ zs) x after rest y e =
      ap (λ l. slice_get l (length (imported get i (z ∷ zs)))) (assoc (get i z.desc) (imported get (i + 1) (zs ++ x ∷ after)) rest)
      ∙ stands_step (get i z.desc) (imported get (i + 1) zs) (imported get (i + 1) (zs ++ x ∷ after) ++ rest) y
      (stands (i + 1) zs x after rest y (ap (λ j. get j x.desc) (let p : i + 1 + length zs ≡ i + length (z ∷ zs) = omega arith in p) ∙ e))

  module _ (space : Space) (imp : X → Option ℕ) (rest : List X) (xs : List entries.Import)
      (tells : (j : ℕ) (d : RawDesc) (y : X) → get j d ≡ Some y → imp y ≡ Some j)
      (places : (j : ℕ) (d : RawDesc) (y : X) (before : List entries.Import) → get j d ≡ Some y → item_after before d ≡ (space, length (imported get 0 before)))
      (others : (j : ℕ) (y : X) → slice_get rest j ≡ Some y → imp y ≡ None) where
    item_named : (k p : ℕ) (y : X) → slice_get (imported get 0 xs ++ rest) k ≡ Some y → imp y ≡ Some p → (z : Import) × (slice_get (imports_after [] xs) p ≡ Some z) × (z.item ≡ (space, k))
    item_named k p y e h = ⊎_elim
        (λ (f : (c : Cut xs) × IsAt 0 xs k y c).
        let number : 0 + length f.0.before ≡ p = some_same (0 + length f.0.before) p (sym (tells (0 + length f.0.before) f.0.import.desc y f.1.0) ∙ h) in
        let place : length f.0.before ≡ p = omega (arith, number) in
        let entry = entry_at [] f.0.before f.0.import f.0.after in
        let there : slice_get (imports_after [] xs) p ≡ Some (entry_of f.0.before f.0.import) = ap₂ (λ l j. slice_get (imports_after [] l) j) f.0.is (sym place) ∙ entry in
        (entry_of f.0.before f.0.import, there, places (0 + length f.0.before) f.0.import.desc y f.0.before f.1.0 ∙ ap (λ (j : ℕ). (space, j)) (sym f.1.1)))
        (λ (f : (j : ℕ) × (slice_get rest j ≡ Some y)). absurd (let none : Some p ≡ None = sym h ∙ others f.0 y f.1 in cc))
        (found 0 xs rest k y e)

    pub items_named : (k p : ℕ) (o : Option X) → slice_get (imported get 0 xs ++ rest) k ≡ o → import_in imp o ≡ Some p → (z : Import) × (slice_get (imports_after [] xs) p ≡ Some z) × (z.item ≡ (space, k))
    items_named k p None e h = absurd (cc)
    items_named k p (Some y) e h = item_named k p y e h

    -- the item of an import of this space names it
    pub import_named : (p : ℕ) (c : Cut xs) (y : X) → p ≡ length c.before → get (0 + length c.before) c.import.desc ≡ Some y → import_in imp (slice_get (imported get 0 xs ++ rest) (length (imported get 0 c.before))) ≡ Some p
    import_named p c y e h =
        ap (λ l. import_in imp (slice_get (imported get 0 l ++ rest) (length (imported get 0 c.before)))) c.is
        ∙ ap (import_in imp) (stands 0 c.before c.import c.after rest y h)
        ∙ tells (0 + length c.before) c.import.desc y h
        ∙ ap Some (let q : 0 + length c.before ≡ p = omega (arith, e) in q)

none_in : {X Y : Type 0} (imp : Y → Option ℕ) (f : X → Y) → ((x : X) → imp (f x) ≡ None) → (xs : List X) (j : ℕ) (y : Y) → slice_get (map f xs) j ≡ Some y → imp y ≡ None
none_in imp f h [] j y e = absurd (cc)
none_in imp f h (x ∷ xs) zero y e = let p : f x ≡ y = cc in subst (λ z. imp z ≡ None) p (h x)
none_in imp f h (x ∷ xs) (suc j) y e = none_in imp f h xs j y e

-- ---- the five kinds of import

abbrev function_import : Function → Option ℕ
function_import g = kind_import g.kind

tells_function : (j : ℕ) (d : RawDesc) (y : Function) → imported_function j d ≡ Some y → function_import y ≡ Some j
tells_function j (descs.Function ty) y e = ap function_import (sym (some_same _ y e))
tells_function j (descs.Table ty) y e = absurd (cc)
tells_function j (descs.Memory l) y e = absurd (cc)
tells_function j (descs.Global ty) y e = absurd (cc)
tells_function j (descs.Tag ty) y e = absurd (cc)

places_function : (j : ℕ) (d : RawDesc) (y : Function) (before : List entries.Import) → imported_function j d ≡ Some y → item_after before d ≡ (Functions, length (imported imported_function 0 before))
places_function j (descs.Function ty) y before e = refl
places_function j (descs.Table ty) y before e = absurd (cc)
places_function j (descs.Memory l) y before e = absurd (cc)
places_function j (descs.Global ty) y before e = absurd (cc)
places_function j (descs.Tag ty) y before e = absurd (cc)

abbrev table_import : Table → Option ℕ
table_import g = origin_import g.origin

tells_table : (j : ℕ) (d : RawDesc) (y : Table) → imported_table j d ≡ Some y → table_import y ≡ Some j
tells_table j (descs.Function ty) y e = absurd (cc)
tells_table j (descs.Table ty) y e = ap table_import (sym (some_same _ y e))
tells_table j (descs.Memory l) y e = absurd (cc)
tells_table j (descs.Global ty) y e = absurd (cc)
tells_table j (descs.Tag ty) y e = absurd (cc)

places_table : (j : ℕ) (d : RawDesc) (y : Table) (before : List entries.Import) → imported_table j d ≡ Some y → item_after before d ≡ (Tables, length (imported imported_table 0 before))
places_table j (descs.Function ty) y before e = absurd (cc)
places_table j (descs.Table ty) y before e = refl
places_table j (descs.Memory l) y before e = absurd (cc)
places_table j (descs.Global ty) y before e = absurd (cc)
places_table j (descs.Tag ty) y before e = absurd (cc)

abbrev memory_import : Memory → Option ℕ
memory_import g = origin_import g.origin

tells_memory : (j : ℕ) (d : RawDesc) (y : Memory) → imported_memory j d ≡ Some y → memory_import y ≡ Some j
tells_memory j (descs.Function ty) y e = absurd (cc)
tells_memory j (descs.Table ty) y e = absurd (cc)
tells_memory j (descs.Memory l) y e = ap memory_import (sym (some_same _ y e))
tells_memory j (descs.Global ty) y e = absurd (cc)
tells_memory j (descs.Tag ty) y e = absurd (cc)

places_memory : (j : ℕ) (d : RawDesc) (y : Memory) (before : List entries.Import) → imported_memory j d ≡ Some y → item_after before d ≡ (Memories, length (imported imported_memory 0 before))
places_memory j (descs.Function ty) y before e = absurd (cc)
places_memory j (descs.Table ty) y before e = absurd (cc)
places_memory j (descs.Memory l) y before e = refl
places_memory j (descs.Global ty) y before e = absurd (cc)
places_memory j (descs.Tag ty) y before e = absurd (cc)

abbrev global_import : Global → Option ℕ
global_import g = origin_import g.origin

tells_global : (j : ℕ) (d : RawDesc) (y : Global) → imported_global j d ≡ Some y → global_import y ≡ Some j
tells_global j (descs.Function ty) y e = absurd (cc)
tells_global j (descs.Table ty) y e = absurd (cc)
tells_global j (descs.Memory l) y e = absurd (cc)
tells_global j (descs.Global ty) y e = ap global_import (sym (some_same _ y e))
tells_global j (descs.Tag ty) y e = absurd (cc)

places_global : (j : ℕ) (d : RawDesc) (y : Global) (before : List entries.Import) → imported_global j d ≡ Some y → item_after before d ≡ (Globals, length (imported imported_global 0 before))
places_global j (descs.Function ty) y before e = absurd (cc)
places_global j (descs.Table ty) y before e = absurd (cc)
places_global j (descs.Memory l) y before e = absurd (cc)
places_global j (descs.Global ty) y before e = refl
places_global j (descs.Tag ty) y before e = absurd (cc)

abbrev tag_import : Tag → Option ℕ
tag_import g = origin_import g.origin

tells_tag : (j : ℕ) (d : RawDesc) (y : Tag) → imported_tag j d ≡ Some y → tag_import y ≡ Some j
tells_tag j (descs.Function ty) y e = absurd (cc)
tells_tag j (descs.Table ty) y e = absurd (cc)
tells_tag j (descs.Memory l) y e = absurd (cc)
tells_tag j (descs.Global ty) y e = absurd (cc)
tells_tag j (descs.Tag ty) y e = ap tag_import (sym (some_same _ y e))

places_tag : (j : ℕ) (d : RawDesc) (y : Tag) (before : List entries.Import) → imported_tag j d ≡ Some y → item_after before d ≡ (Tags, length (imported imported_tag 0 before))
places_tag j (descs.Function ty) y before e = absurd (cc)
places_tag j (descs.Table ty) y before e = absurd (cc)
places_tag j (descs.Memory l) y before e = absurd (cc)
places_tag j (descs.Global ty) y before e = absurd (cc)
places_tag j (descs.Tag ty) y before e = refl

module _ (w : wire.Module) (bodies : List Said) (fields : List ProducerField) (namings : List Named) where
  abbrev the : Abstract
  the = module_of w bodies fields namings

  others_function : (j : ℕ) (y : Function) → slice_get (map (function_with w) (zip w.functions bodies)) j ≡ Some y → function_import y ≡ None
  others_function = none_in function_import (function_with w) (λ x. refl) (zip w.functions bodies)

  others_table : (j : ℕ) (y : Table) → slice_get (map table_of w.tables) j ≡ Some y → table_import y ≡ None
  others_table = none_in table_import (table_of) (λ x. refl) (w.tables)

  others_memory : (j : ℕ) (y : Memory) → slice_get (map memory_of w.memories) j ≡ Some y → memory_import y ≡ None
  others_memory = none_in memory_import (memory_of) (λ x. refl) (w.memories)

  others_global : (j : ℕ) (y : Global) → slice_get (map global_of w.globals) j ≡ Some y → global_import y ≡ None
  others_global = none_in global_import (global_of) (λ x. refl) (w.globals)

  others_tag : (j : ℕ) (y : Tag) → slice_get (map tag_of w.tags) j ≡ Some y → tag_import y ≡ None
  others_tag = none_in tag_import (tag_of) (λ x. refl) (w.tags)

  items : (x : Item) (p : ℕ) → import_of the x ≡ Some p → (z : Import) × (the.imports p ≡ Some z) × (z.item ≡ x)
  items (Functions, k) p h = items_named imported_function Functions function_import (map (function_with w) (zip w.functions bodies)) w.imports tells_function places_function others_function k p (the.functions k) refl h
  items (Tables, k) p h = items_named imported_table Tables table_import (map table_of w.tables) w.imports tells_table places_table others_table k p (the.tables k) refl h
  items (Memories, k) p h = items_named imported_memory Memories memory_import (map memory_of w.memories) w.imports tells_memory places_memory others_memory k p (the.memories k) refl h
  items (Globals, k) p h = items_named imported_global Globals global_import (map global_of w.globals) w.imports tells_global places_global others_global k p (the.globals k) refl h
  items (Tags, k) p h = items_named imported_tag Tags tag_import (map tag_of w.tags) w.imports tells_tag places_tag others_tag k p (the.tags k) refl h
  items (Types, k) p h = absurd (cc)
  items (Elements, k) p h = absurd (cc)
  items (DataSegments, k) p h = absurd (cc)

  of_desc : (p : ℕ) (c : Cut w.imports) (d : RawDesc) → c.import.desc ≡ d → p ≡ length c.before → import_of the (item_after c.before d) ≡ Some p
  of_desc p c (descs.Function ty) is e = import_named imported_function Functions function_import (map (function_with w) (zip w.functions bodies)) w.imports tells_function places_function others_function p c (record { ty = ty; kind = ImportedFunction (0 + length c.before) }) e (ap (imported_function (0 + length c.before)) is)
  of_desc p c (descs.Table ty) is e = import_named imported_table Tables table_import (map table_of w.tables) w.imports tells_table places_table others_table p c (record { origin = ImportedBy (0 + length c.before); ty = table_type_of ty; initialiser = None }) e (ap (imported_table (0 + length c.before)) is)
  of_desc p c (descs.Memory l) is e = import_named imported_memory Memories memory_import (map memory_of w.memories) w.imports tells_memory places_memory others_memory p c (record { origin = ImportedBy (0 + length c.before); ty = memory_type_of l }) e (ap (imported_memory (0 + length c.before)) is)
  of_desc p c (descs.Global ty) is e = import_named imported_global Globals global_import (map global_of w.globals) w.imports tells_global places_global others_global p c (record { origin = ImportedBy (0 + length c.before); ty = global_type_of ty; initialiser = None }) e (ap (imported_global (0 + length c.before)) is)
  of_desc p c (descs.Tag ty) is e = import_named imported_tag Tags tag_import (map tag_of w.tags) w.imports tells_tag places_tag others_tag p c (record { origin = ImportedBy (0 + length c.before); ty = ty }) e (ap (imported_tag (0 + length c.before)) is)

  imports : (p : ℕ) (y : Import) → the.imports p ≡ Some y → import_of the y.item ≡ Some p
  imports p y e =
      let f = entry_found [] w.imports p y e in
      ap (λ (z : Import). import_of the z.item) f.2 ∙ of_desc p f.0 f.0.import.desc refl f.1

  pub imports_match : ImportsMatch the
  imports_match = record { items = items; imports = imports }
