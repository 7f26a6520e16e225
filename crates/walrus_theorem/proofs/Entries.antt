-- The rules on the indices of an entry are those on the names of its item.
use Rattle.std.proofs.Common.{◌≡◌, ℕ, ◌<◌, ◌≤◌, ◌+◌, List, [], ◌∷◌, ◌++◌, map, refl, sym, subst}
use Rattle.std.specs.Prelude.{Option, Some, None, Contains, All, flat_map, option_map, option_to_list}
use Rattle.std.specs.List.{AllByRecursion}
use Rattle.std.proofs.lemmas.List.Elements.{recursion_from_All, All-from_recursion}
use Rattle.wasm_entries.specs.declared.record.RawDesc.{RawDesc}
use Rattle.wasm_entries.specs.declared.record.RawDesc.TheVariants as descs
use Rattle.wasm_entries.specs.Record as entries
use Rattle.wasm_entries.specs.Record.{Expression}
use Rattle.wasm_wire.specs.declared.rules.counts.Counts.{Counts}
use Rattle.wasm_wire.specs.Indices.{DescHolds, ImportHolds, InitialHolds, TableHolds, ElementModeHolds, ItemsHold, ElementHolds, DataModeHolds, SegmentHolds, ExpressionHolds, with_globals}
use Rattle.walrus_base.specs.Types.{heap_names}
use Rattle.walrus_base.specs.Operators.{Globals, Item, Op, type_item, function_item, names_of}
use Rattle.walrus_code.specs.FromRaw.{heap_of}
use Rattle.walrus_bodies.proofs.LawNamed.{each_append}
use Rattle.walrus_model.specs.Abstract.{Function, Table, Global, Tag}
use Rattle.walrus_model.specs.Constants.{consts_of}
use Rattle.walrus_model.specs.Refers.{named_by, function_names, table_names, global_names, tag_names, element_kind_names, element_item_names, element_names, data_kind_names, data_names}
use Rattle.walrus_model.specs.Sections.{imported, imported_function, imported_table, imported_global, imported_tag, table_of, element_kind, element_items, element_of, data_kind, data_of}
use Rattle.walrus_bodies.proofs.Lists.{all_parts, all_mapped, all_unmapped, all_flat, all_unflat}
use Rattle.walrus_theorem.proofs.Within.{Within, heap_within, heap_holds, value_within, value_holds, expression_within, expression_holds, scoped_within, scoped_low, scoped_holds}

module _ (c : Counts) (e d : ℕ) where
  abbrev W : Item → Type 0
  W y = Within c e d y

  -- all that it names is there
  abbrev pub Names : {X : Type 0} → (X → List Item) → X → Type 0
  Names names x = AllByRecursion W (names x)

  -- ---- imports

  pub record Brought (fs : List Function) (ts : List Table) (gs : List Global) (us : List Tag) : Type 0 where
    pub functions : AllByRecursion (Names function_names) fs
    pub tables : AllByRecursion (Names table_names) ts
    pub globals : AllByRecursion (Names global_names) gs
    pub tags : AllByRecursion (Names tag_names) us

  abbrev With : ℕ → RawDesc → List Function → List Table → List Global → List Tag → Type 0
  With i x fs ts gs us = Brought (option_to_list (imported_function i x) ++ fs) (option_to_list (imported_table i x) ++ ts) (option_to_list (imported_global i x) ++ gs) (option_to_list (imported_tag i x) ++ us)

  desc_brings : (i : ℕ) (x : RawDesc) (fs : List Function) (ts : List Table) (gs : List Global) (us : List Tag) → DescHolds c.types x → Brought fs ts gs us → With i x fs ts gs us
  desc_brings i (descs.Function ty) fs ts gs us h b = record { functions = ((h, tt), b.functions); tables = b.tables; globals = b.globals; tags = b.tags }
  desc_brings i (descs.Table t) fs ts gs us h b = record { functions = b.functions; tables = (each_append W (map type_item (heap_names (heap_of t.element.heap))) [] (heap_within c e d t.element.heap h) tt, b.tables); globals = b.globals; tags = b.tags }
  desc_brings i (descs.Memory l) fs ts gs us h b = record { functions = b.functions; tables = b.tables; globals = b.globals; tags = b.tags }
  desc_brings i (descs.Global g) fs ts gs us h b = record { functions = b.functions; tables = b.tables; globals = (each_append W _ [] (value_within c e d g.value h) tt, b.globals); tags = b.tags }
  desc_brings i (descs.Tag ty) fs ts gs us h b = record { functions = b.functions; tables = b.tables; globals = b.globals; tags = ((h, tt), b.tags) }

  desc_was : (i : ℕ) (x : RawDesc) (fs : List Function) (ts : List Table) (gs : List Global) (us : List Tag) → With i x fs ts gs us → DescHolds c.types x × Brought fs ts gs us
  desc_was i (descs.Function ty) fs ts gs us b = (b.functions.0.0, record { functions = b.functions.1; tables = b.tables; globals = b.globals; tags = b.tags })
  desc_was i (descs.Table t) fs ts gs us b = (heap_holds c e d t.element.heap (all_parts W (map type_item (heap_names (heap_of t.element.heap))) [] b.tables.0).0, record { functions = b.functions; tables = b.tables.1; globals = b.globals; tags = b.tags })
  desc_was i (descs.Memory l) fs ts gs us b = (tt, record { functions = b.functions; tables = b.tables; globals = b.globals; tags = b.tags })
  desc_was i (descs.Global g) fs ts gs us b = (value_holds c e d g.value (all_parts W _ [] b.globals.0).0, record { functions = b.functions; tables = b.tables; globals = b.globals.1; tags = b.tags })
  desc_was i (descs.Tag ty) fs ts gs us b = (b.tags.0.0, record { functions = b.functions; tables = b.tables; globals = b.globals; tags = b.tags.1 })

  abbrev From : ℕ → List entries.Import → Type 0
  From i ws = Brought (imported imported_function i ws) (imported imported_table i ws) (imported imported_global i ws) (imported imported_tag i ws)

  each_brings : (i : ℕ) (ws : List entries.Import) → AllByRecursion (ImportHolds c.types) ws → From i ws
  each_brings i [] h = record { functions = tt; tables = tt; globals = tt; tags = tt }
  each_brings i (w ∷ ws) h = desc_brings i w.desc _ _ _ _ h.0 (each_brings (i + 1) ws h.1)

  each_was : (i : ℕ) (ws : List entries.Import) → From i ws → AllByRecursion (ImportHolds c.types) ws
  each_was i [] b = tt
  each_was i (w ∷ ws) b = let p = desc_was i w.desc (imported imported_function (i + 1) ws) (imported imported_table (i + 1) ws) (imported imported_global (i + 1) ws) (imported imported_tag (i + 1) ws) b in (p.0, each_was (i + 1) ws p.1)

  pub imports_bring : (ws : List entries.Import) → All (ImportHolds c.types) ws → From 0 ws
  imports_bring ws h = each_brings 0 ws (recursion_from_All (ImportHolds c.types) ws h)

  pub imports_hold : (ws : List entries.Import) → From 0 ws → All (ImportHolds c.types) ws
  imports_hold ws b = All-from_recursion (ImportHolds c.types) ws (each_was 0 ws b)

  -- ---- tables

  initial_within : (n : ℕ) → n ≤ c.globals → (o : Option Expression) → InitialHolds (with_globals c n) o → AllByRecursion W (named_by names_of (option_map consts_of o))
  initial_within n few None h = tt
  initial_within n few (Some x) h = scoped_within c e d n few x h

  pub initial_low : (n : ℕ) (o : Option Expression) → InitialHolds (with_globals c n) o → (ops : List Op) → option_map consts_of o ≡ Some ops → (g : ℕ) → Contains (names_of ops) (Globals, g) → g < n
  initial_low n None h ops is g at = absurd (cc)
  initial_low n (Some x) h ops is g at = let same : consts_of x ≡ ops = cc in scoped_low c e d n x h g (subst (λ (l : List Op). Contains (names_of l) (Globals, g)) (sym same) at)

  initial_holds : (n : ℕ) (o : Option Expression) → AllByRecursion W (named_by names_of (option_map consts_of o)) → ((ops : List Op) → option_map consts_of o ≡ Some ops → (g : ℕ) → Contains (names_of ops) (Globals, g) → g < n) → InitialHolds (with_globals c n) o
  initial_holds n None a low = tt
  initial_holds n (Some x) a low = scoped_holds c e d n x a (low (consts_of x) refl)

  pub table_within : c.imported_globals ≤ c.globals → (t : entries.Table) → TableHolds c t → Names table_names (table_of t)
  table_within few t h = each_append W (map type_item (heap_names (heap_of t.ty.element.heap))) (named_by names_of (option_map consts_of t.initial)) (heap_within c e d t.ty.element.heap h.0) (initial_within c.imported_globals few t.initial h.1)

  pub table_holds : (t : entries.Table) → Names table_names (table_of t) → ((ops : List Op) → option_map consts_of t.initial ≡ Some ops → (g : ℕ) → Contains (names_of ops) (Globals, g) → g < c.imported_globals) → TableHolds c t
  table_holds t a low =
      let p = all_parts W (map type_item (heap_names (heap_of t.ty.element.heap))) (named_by names_of (option_map consts_of t.initial)) a in
      (heap_holds c e d t.ty.element.heap p.0, initial_holds c.imported_globals t.initial p.1 low)

  -- ---- segments

  mode_within : (m : entries.ElementMode) → ElementModeHolds c m → AllByRecursion W (element_kind_names (element_kind m))
  mode_within (entries.ActiveElements table offset) h = (h.0, expression_within c e d offset h.1)
  mode_within entries.PassiveElements h = tt
  mode_within entries.DeclaredElements h = tt

  mode_holds : (m : entries.ElementMode) → AllByRecursion W (element_kind_names (element_kind m)) → ElementModeHolds c m
  mode_holds (entries.ActiveElements table offset) a = (a.0, expression_holds c e d offset a.1)
  mode_holds entries.PassiveElements a = tt
  mode_holds entries.DeclaredElements a = tt

  items_within : (x : entries.Items) → ItemsHold c x → AllByRecursion W (element_item_names (element_items x))
  items_within (entries.Functions fs) h = all_mapped W function_item fs (recursion_from_All (λ f. f < c.functions) fs h)
  items_within (entries.Expressions ty es) h =
      each_append W (map type_item (heap_names (heap_of ty.heap))) (flat_map names_of (map consts_of es)) (heap_within c e d ty.heap h.0)
      (all_flat (ExpressionHolds c) W consts_of names_of (expression_within c e d) es (recursion_from_All (ExpressionHolds c) es h.1))

  items_hold : (x : entries.Items) → AllByRecursion W (element_item_names (element_items x)) → ItemsHold c x
  items_hold (entries.Functions fs) a = All-from_recursion (λ f. f < c.functions) fs (all_unmapped W function_item fs a)
  items_hold (entries.Expressions ty es) a =
      let p = all_parts W (map type_item (heap_names (heap_of ty.heap))) (flat_map names_of (map consts_of es)) a in
      (heap_holds c e d ty.heap p.0, All-from_recursion (ExpressionHolds c) es (all_unflat (ExpressionHolds c) W consts_of names_of (expression_holds c e d) es p.1))

  pub element_within : (x : entries.Element) → ElementHolds c x → Names element_names (element_of x)
  element_within x h = each_append W (element_kind_names (element_kind x.mode)) (element_item_names (element_items x.items)) (mode_within x.mode h.0) (items_within x.items h.1)

  pub element_holds : (x : entries.Element) → Names element_names (element_of x) → ElementHolds c x
  element_holds x a =
      let p = all_parts W (element_kind_names (element_kind x.mode)) (element_item_names (element_items x.items)) a in
      (mode_holds x.mode p.0, items_hold x.items p.1)

  data_mode_within : (m : entries.DataMode) → DataModeHolds c m → AllByRecursion W (data_kind_names (data_kind m))
  data_mode_within (entries.ActiveData memory offset) h = (h.0, expression_within c e d offset h.1)
  data_mode_within entries.PassiveData h = tt

  data_mode_holds : (m : entries.DataMode) → AllByRecursion W (data_kind_names (data_kind m)) → DataModeHolds c m
  data_mode_holds (entries.ActiveData memory offset) a = (a.0, expression_holds c e d offset a.1)
  data_mode_holds entries.PassiveData a = tt

  pub data_within : (x : entries.Segment) → SegmentHolds c x → Names data_names (data_of x)
  data_within x h = data_mode_within x.mode h

  pub data_holds : (x : entries.Segment) → Names data_names (data_of x) → SegmentHolds c x
  data_holds x a = data_mode_holds x.mode a
