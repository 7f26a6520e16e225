-- The rules on indices are the same on records.
use Rattle.std.proofs.Common.{inl, inr, ◌≡◌, ⊎_elim, ℕ, ◌+◌, ◌<◌, List, [], ◌∷◌, length, map, get_or, refl, sym, ap, subst, ◌∙◌, arith}
use Rattle.std.specs.Prelude.{Option, Some, None, IsSome, is_some, Contains, All, slice_get, option_map, unwrap_or, zip}
use Rattle.std.specs.List.{AllByRecursion, AllZip}
use Rattle.std.proofs.lemmas.List.{get_or-map, length-map}
use Rattle.std.proofs.lemmas.List.Elements.{recursion_from_All, All-from_recursion, All-contains, All-map, Contains-append_cases}
use Rattle.std.proofs.lemmas.Option.{slice_get-get_or}
use Rattle.wasm_entries.specs.declared.record.RawExportKind.{RawExportKind}
use Rattle.wasm_entries.specs.declared.record.RawExportKind.TheVariants as kinds
use Rattle.wasm_entries.specs.Record as entries
use Rattle.wasm_frames.specs.Record as wire
use Rattle.wasm_wire.specs.declared.rules.counts.Counts.{Counts}
use Rattle.wasm_wire.specs.Context.{context_of, counts_of}
use Rattle.wasm_wire.specs.Indices as wire_indices
use Rattle.wasm_wire.specs.Indices.{TableHolds, GlobalHolds, ElementHolds, SegmentHolds, ExportHolds, StartExists, count_of}
use Rattle.wasm_wire.specs.Rules as records
use Rattle.walrus_bodies.specs.declared.features.Features.{Features}
use Rattle.walrus_code.specs.FromRaw.{val_of}
use Rattle.walrus_base.specs.Types.{val_names, sub_names}
use Rattle.walrus_base.specs.TypeDef.{TypeDef}
use Rattle.walrus_base.specs.Operators.{Space, Types, Functions, Tables, Memories, Tags, Globals, Elements, DataSegments, Item, type_item, names_of}
use Rattle.walrus_bodies.proofs.LawNamed.{each_append}
use Rattle.walrus_groups.specs.Groups.{types_from}
use Rattle.walrus_model.specs.Abstract.{Abstract, Body, Function, FunctionKind, Export}
use Rattle.walrus_model.specs.Constants.{consts_of}
use Rattle.walrus_model.specs.Live.{Has, IsLive}
use Rattle.walrus_model.specs.Reads.{ReadsBodyWith, declared}
use Rattle.walrus_model.specs.Refers.{written_in, type_names, function_names, kind_names, table_names, memory_names, global_names, tag_names, element_names, data_names, IsUsed}
use Rattle.walrus_model.specs.Rules.{IndicesHold, IsImportedGlobal, IsFunctionType}
use Rattle.walrus_model.specs.Sections.{Said, types_of, imported, imported_function, imported_table, imported_global, imported_tag, function_types, function_with, table_of, global_of, tag_of, element_of, data_of, export_of, space_of, functions_of, tables_of, memories_of, tags_of, globals_of, elements_of, data_segments_of, module_of}
use Rattle.walrus_base.proofs.Lists.{Contains-uncons, Contains-none}
use Rattle.walrus_base.proofs.Standing.{some_inj, got_in}
use Rattle.walrus_theorem.proofs.SpelledReads.{all_such}
use Rattle.walrus_theorem.proofs.TextShaped.{all_at}
use Rattle.walrus_theorem.proofs.SpelledFits.{all_each}
use Rattle.walrus_base.proofs.Lookups.{there, as_long, got_map}
use Rattle.walrus_theorem.proofs.Entries.{Brought, imports_bring, imports_hold, table_within, table_holds, element_within, element_holds, data_within, data_holds}
use Rattle.walrus_theorem.proofs.Images.{function_types_look}
use Rattle.walrus_theorem.proofs.Initialisers.{few_imported, few_before, imported_there, imported_low, TableLow, tables_low, own_tables_low, own_index, globals_low}
use Rattle.walrus_bodies.proofs.Lists.{all_parts, all_mapped, all_unmapped, all_two}
use Rattle.walrus_theorem.proofs.Living.{live_within, within_live, named_within, named_live}
use Rattle.walrus_theorem.proofs.ReadBody.{low, named_if, Stands, function_stands, body_at, local_typed, names_live, types_live}
use Rattle.walrus_theorem.proofs.TypeRules.{group_live, subs_live}
use Rattle.walrus_theorem.proofs.Within.{Within, value_within, value_holds, scoped_within, scoped_holds}

data_low : (o : Option ℕ) (m i : ℕ) → records.CountHolds m o → i < unwrap_or o 0 → i < m
data_low None m i h lt = absurd (omega (arith, lt))
data_low (Some n) m i h lt = let same : n ≡ m = h in subst (λ (k : ℕ). i < k) same lt

module _ (features : Features) (s : wire.Module) (bodies : List Said) (many : length bodies ≡ length s.functions) where
  abbrev M : Abstract
  M = module_of s bodies

  abbrev c : Counts
  c = counts_of (context_of s)

  abbrev e : ℕ
  e = length s.elements

  abbrev d : ℕ
  d = length s.data_segments

  abbrev There : {X : Type 0} → (X → List Item) → X → Type 0
  There names x = AllByRecursion (λ y. Within c e d y) (names x)

  -- ---- exports and start

  export_within : (k : RawExportKind) (i : ℕ) → i < count_of c k → Within c e d (space_of k, i)
  export_within kinds.Function i h = h
  export_within kinds.Table i h = h
  export_within kinds.Memory i h = h
  export_within kinds.Global i h = h
  export_within kinds.Tag i h = h

  export_holds : (k : RawExportKind) (i : ℕ) → Within c e d (space_of k, i) → i < count_of c k
  export_holds kinds.Function i h = h
  export_holds kinds.Table i h = h
  export_holds kinds.Memory i h = h
  export_holds kinds.Global i h = h
  export_holds kinds.Tag i h = h

  start_within : (o : Option ℕ) (f : ℕ) → StartExists c o → o ≡ Some f → f < c.functions
  start_within None f h is = absurd (cc)
  start_within (Some g) f h is = let same : g ≡ f = some_inj g f is in subst (λ (k : ℕ). k < c.functions) same h

  start_exists : (o : Option ℕ) → ((f : ℕ) → o ≡ Some f → f < c.functions) → StartExists c o
  start_exists None h = tt
  start_exists (Some f) h = h f refl

  -- ---- from records to the module

  module _ (h : wire_indices.IndicesHold c s) where
    abbrev brings : Brought c e d (imported imported_function 0 s.imports) (imported imported_table 0 s.imports) (imported imported_global 0 s.imports) (imported imported_tag 0 s.imports)
    brings = imports_bring c e d s.imports h.imports

    tables_there : AllByRecursion (There table_names) (tables_of s)
    tables_there =
        each_append (There table_names) (imported imported_table 0 s.imports) (map table_of s.tables) brings.tables
        (all_mapped (There table_names) table_of s.tables (all_such (TableHolds c) (λ t. There table_names (table_of t)) (table_within c e d (few_imported s bodies)) s.tables (recursion_from_All (TableHolds c) s.tables h.tables)))

    tags_there : AllByRecursion (There tag_names) (tags_of s)
    tags_there =
        each_append (There tag_names) (imported imported_tag 0 s.imports) (map tag_of s.tags) brings.tags
        (all_mapped (There tag_names) tag_of s.tags (all_such (λ t. t < c.types) (λ t. There tag_names (tag_of t)) (λ t lt. (lt, tt)) s.tags (recursion_from_All (λ t. t < c.types) s.tags h.tags)))

    global_at : (j : ℕ) (x : entries.Global) → slice_get s.globals j ≡ Some x → GlobalHolds c (c.imported_globals + j) x
    global_at j x at =
        let g = got_in s.globals j x at in
        subst (λ (y : entries.Global). GlobalHolds c (c.imported_globals + j) y) (g.1 x) (h.globals j x g.0)

    global_there : (j : ℕ) (x : entries.Global) → slice_get s.globals j ≡ Some x → There global_names (global_of x)
    global_there j x at =
        let k = global_at j x at in
        each_append (λ y. Within c e d y) (map type_item (val_names (val_of x.ty.value))) (names_of (consts_of x.initial)) (value_within c e d x.ty.value k.0)
        (scoped_within c e d (c.imported_globals + j) (few_before s bodies j (got_in s.globals j x at).0) x.initial k.1)

    globals_there : AllByRecursion (There global_names) (globals_of s)
    globals_there =
        each_append (There global_names) (imported imported_global 0 s.imports) (map global_of s.globals) brings.globals
        (all_mapped (There global_names) global_of s.globals (all_each (λ x. There global_names (global_of x)) s.globals global_there))

    elements_there : AllByRecursion (There element_names) (elements_of s)
    elements_there = all_mapped (There element_names) element_of s.elements (all_such (ElementHolds c) (λ x. There element_names (element_of x)) (element_within c e d) s.elements (recursion_from_All (ElementHolds c) s.elements h.elements))

    data_there : AllByRecursion (There data_names) (data_segments_of s)
    data_there = all_mapped (There data_names) data_of s.data_segments (all_such (SegmentHolds c) (λ x. There data_names (data_of x)) (data_within c e d) s.data_segments (recursion_from_All (SegmentHolds c) s.data_segments h.data_segments))

    -- ---- what bodies may name

    module _ (counted : records.CountHolds (length s.data_segments) s.data_count) (refer : wire_indices.TypesRefer s.types)
        (typed : (i : ℕ) (f : Function) → slice_get (functions_of s bodies) i ≡ Some f → IsFunctionType M f.ty)
        (read : AllZip (ReadsBodyWith features s) (zip s.functions s.bodies) bodies) where
      declared_live : (space : Space) (i : ℕ) → IsSome (declared s space i) → Has M space i
      declared_live Types i k = there (types_from 0 s.types) i (low (length (types_from 0 s.types)) i k)
      declared_live Functions i k =
          let lt : i < length (function_types s) = low (length (function_types s)) i k in
          within_live s bodies many (Functions, i) (subst (λ (n : ℕ). i < n) (as_long (λ (t : ℕ). t) (λ (t : ℕ). t) (function_types s) (context_of s).functions (function_types_look s)) lt)
      declared_live Tables i k = there (tables_of s) i (low (length (tables_of s)) i k)
      declared_live Memories i k = there (memories_of s) i (low (length (memories_of s)) i k)
      declared_live Tags i k = there (tags_of s) i (low (length (tags_of s)) i k)
      declared_live Globals i k = there (globals_of s) i (low (length (globals_of s)) i k)
      declared_live Elements i k = there (elements_of s) i (low (length (elements_of s)) i k)
      declared_live DataSegments i k = within_live s bodies many (DataSegments, i) (data_low s.data_count (length s.data_segments) i counted (low (unwrap_or s.data_count 0) i k))

      type_there : (t : ℕ) → IsFunctionType M t → IsSome (M.types t)
      type_there t (x, is, k) = ap is_some is

      function_live_by : (f : Function) → IsFunctionType M f.ty → Stands features s f → (y : Item) → Contains (function_names f) y → IsLive M y
      function_live_by f t (inl (p, is)) y at = ⊎_elim
          (λ (same : type_item f.ty ≡ y). subst (IsLive M) same (type_there f.ty t))
          (λ (none : Contains [] y). absurd (Contains-none y none))
          (Contains-uncons (type_item f.ty) y [] (subst (λ (k : FunctionKind). Contains (type_item f.ty ∷ kind_names k) y) is at))
      function_live_by f t (inr r) y at =
          let ty : f.ty ≡ r.ty = ap (λ (g : Function). g.ty) r.is in
          names_live features s bodies declared_live refer f r (subst (λ (k : ℕ). IsSome (M.types k)) ty (type_there f.ty t)) y at

      type_live : (i : ℕ) (x : TypeDef) → types_of s i ≡ Some x → (y : Item) → Contains (type_names x) y → IsLive M y
      type_live i x at y n =
          ⊎_elim (types_live features s bodies declared_live refer x.group (group_live s.types refer i x at) y)
          (types_live features s bodies declared_live refer (sub_names x.sub) (subs_live s.types refer i x at) y)
          (Contains-append_cases (map type_item x.group) (map type_item (sub_names x.sub)) y n)

      written_live : (x y : Item) → Contains (written_in M x) y → IsLive M y
      written_live (Types, i) y n = named_if type_names (types_of s i) (IsLive M) (type_live i) y n
      written_live (Functions, i) y n = named_if function_names (slice_get (functions_of s bodies) i) (IsLive M) (λ f at. function_live_by f (typed i f at) (function_stands features s bodies read i f at)) y n
      written_live (Tables, i) y n = named_if table_names (slice_get (tables_of s) i) (IsLive M) (named_live s bodies many table_names (tables_of s) tables_there i) y n
      written_live (Memories, i) y n = named_if memory_names (slice_get (memories_of s) i) (IsLive M) (λ m at z none. absurd (Contains-none z none)) y n
      written_live (Tags, i) y n = named_if tag_names (slice_get (tags_of s) i) (IsLive M) (named_live s bodies many tag_names (tags_of s) tags_there i) y n
      written_live (Globals, i) y n = named_if global_names (slice_get (globals_of s) i) (IsLive M) (named_live s bodies many global_names (globals_of s) globals_there i) y n
      written_live (Elements, i) y n = named_if element_names (slice_get (elements_of s) i) (IsLive M) (named_live s bodies many element_names (elements_of s) elements_there i) y n
      written_live (DataSegments, i) y n = named_if data_names (slice_get (data_segments_of s) i) (IsLive M) (named_live s bodies many data_names (data_segments_of s) data_there i) y n

      export_live : (x : entries.Export) → ExportHolds c x → IsLive M (export_of x).item
      export_live x lt = within_live s bodies many (space_of x.kind, x.index) (export_within x.kind x.index lt)

      exports_live : All (λ (x : Export). IsLive M x.item) (map export_of s.exports)
      exports_live = All-map (λ (x : Export). IsLive M x.item) export_of s.exports (λ k x lt. export_live (get_or s.exports k x) (h.exports k x lt))

      pub indices_hold : IndicesHold (λ space i j. i < j) M
      indices_hold = record {
        written = written_live;
        locals = λ f b x at u.
            let a = body_at features s bodies read f b at in
            subst (λ (z : Body). IsSome (z.local_type x)) (sym a.is) (local_typed features s a.function a.read x (subst (λ (z : Body). IsUsed z x) a.is u));
        exports = λ x at. All-contains (λ (x : Export). IsLive M x.item) (map export_of s.exports) x exports_live at;
        start = λ f is. within_live s bodies many (Functions, f) (start_within s.start f h.start is);
        tables = λ i g t ops at is n. imported_there s bodies g (all_at (TableLow s bodies) (tables_of s) i t (tables_low s bodies d e (recursion_from_All (TableHolds c) s.tables h.tables)) at ops is g n);
        globals = λ i g x ops at is n. inr (globals_low s bodies d e global_at i g x ops at is n);
      }

  -- ---- and back

  module _ (h : IndicesHold (λ space i j. i < j) M) where
    functions_named : AllByRecursion (There function_names) (functions_of s bodies)
    functions_named = named_within s bodies many function_names (functions_of s bodies) (λ k y at. h.written (Functions, k) y at)

    tables_named : AllByRecursion (There table_names) (tables_of s)
    tables_named = named_within s bodies many table_names (tables_of s) (λ k y at. h.written (Tables, k) y at)

    globals_named : AllByRecursion (There global_names) (globals_of s)
    globals_named = named_within s bodies many global_names (globals_of s) (λ k y at. h.written (Globals, k) y at)

    tags_named : AllByRecursion (There tag_names) (tags_of s)
    tags_named = named_within s bodies many tag_names (tags_of s) (λ k y at. h.written (Tags, k) y at)

    functions_parts : AllByRecursion (There function_names) (imported imported_function 0 s.imports) × AllByRecursion (There function_names) (map (function_with s) (zip s.functions bodies))
    functions_parts = all_parts (There function_names) (imported imported_function 0 s.imports) (map (function_with s) (zip s.functions bodies)) functions_named

    tables_parts : AllByRecursion (There table_names) (imported imported_table 0 s.imports) × AllByRecursion (There table_names) (map table_of s.tables)
    tables_parts = all_parts (There table_names) (imported imported_table 0 s.imports) (map table_of s.tables) tables_named

    globals_parts : AllByRecursion (There global_names) (imported imported_global 0 s.imports) × AllByRecursion (There global_names) (map global_of s.globals)
    globals_parts = all_parts (There global_names) (imported imported_global 0 s.imports) (map global_of s.globals) globals_named

    tags_parts : AllByRecursion (There tag_names) (imported imported_tag 0 s.imports) × AllByRecursion (There tag_names) (map tag_of s.tags)
    tags_parts = all_parts (There tag_names) (imported imported_tag 0 s.imports) (map tag_of s.tags) tags_named

    types_low : (fs : List ℕ) (saids : List Said) → length saids ≡ length fs → AllByRecursion (There function_names) (map (function_with s) (zip fs saids)) → AllByRecursion (λ t. t < c.types) fs
    types_low [] saids same a = tt
    types_low (f ∷ fs) [] same a = absurd (omega (arith, same))
    types_low (f ∷ fs) (said ∷ saids) same a = (a.0.0, types_low fs saids (omega (arith, same)) a.1)

    tables_hold : AllByRecursion (TableHolds c) s.tables
    tables_hold =
        all_such (λ t. There table_names (table_of t) × TableLow s bodies (table_of t)) (TableHolds c) (λ t p. table_holds c e d t p.0 p.1) s.tables
        (all_two (λ t. There table_names (table_of t)) (λ t. TableLow s bodies (table_of t)) s.tables
        (all_unmapped (There table_names) table_of s.tables tables_parts.1)
        (own_tables_low s bodies (all_each (TableLow s bodies) (tables_of s) (λ i t at ops is g n. imported_low s bodies g (h.tables i g t ops at is n)))))

    global_low : (j : ℕ) (x : entries.Global) → slice_get s.globals j ≡ Some x → (g : ℕ) → Contains (names_of (consts_of x.initial)) (Globals, g) → g < c.imported_globals + j
    global_low j x at g n =
        let there : M.globals (c.imported_globals + j) ≡ Some (global_of x) = own_index s bodies j (c.imported_globals + j) refl ∙ got_map global_of s.globals j ∙ ap (option_map global_of) at in
        ⊎_elim (λ (i : IsImportedGlobal M g). let lt = imported_low s bodies g i in omega (arith, lt))
        (λ (before : g < c.imported_globals + j). before)
        (h.globals (c.imported_globals + j) g (global_of x) (consts_of x.initial) there refl n)

    global_holds : (j : ℕ) (x : entries.Global) → slice_get s.globals j ≡ Some x → GlobalHolds c (c.imported_globals + j) x
    global_holds j x at =
        let names : There global_names (global_of x) = all_at (λ x. There global_names (global_of x)) s.globals j x (all_unmapped (There global_names) global_of s.globals globals_parts.1) at in
        let p = all_parts (λ y. Within c e d y) (map type_item (val_names (val_of x.ty.value))) (names_of (consts_of x.initial)) names in
        (value_holds c e d x.ty.value p.0, scoped_holds c e d (c.imported_globals + j) x.initial p.1 (global_low j x at))

    pub indices_held : wire_indices.IndicesHold c s
    indices_held = record {
      imports = imports_hold c e d s.imports (record { functions = functions_parts.0; tables = tables_parts.0; globals = globals_parts.0; tags = tags_parts.0 });
      functions = All-from_recursion (λ t. t < c.types) s.functions (types_low s.functions bodies many functions_parts.1);
      tables = All-from_recursion (TableHolds c) s.tables tables_hold;
      tags = All-from_recursion (λ t. t < c.types) s.tags (all_such (λ t. There tag_names (tag_of t)) (λ t. t < c.types) (λ t a. a.0) s.tags (all_unmapped (There tag_names) tag_of s.tags tags_parts.1));
      globals = λ i x lt. global_holds i (get_or s.globals i x) (slice_get-get_or s.globals i x lt);
      exports = λ k x lt.
          let y = get_or s.exports k x in
          export_holds y.kind y.index (live_within s bodies many (space_of y.kind, y.index) (h.exports (export_of y) (k, omega (arith, lt, length-map s.exports export_of), get_or-map export_of s.exports k x (export_of y) lt)));
      start = start_exists s.start (λ f is. live_within s bodies many (Functions, f) (h.start f is));
      elements = All-from_recursion (ElementHolds c) s.elements (all_such (λ x. There element_names (element_of x)) (ElementHolds c) (element_holds c e d) s.elements
          (all_unmapped (There element_names) element_of s.elements (named_within s bodies many element_names (elements_of s) (λ k y at. h.written (Elements, k) y at))));
      data_segments = All-from_recursion (SegmentHolds c) s.data_segments (all_such (λ x. There data_names (data_of x)) (SegmentHolds c) (data_holds c e d) s.data_segments
          (all_unmapped (There data_names) data_of s.data_segments (named_within s bodies many data_names (data_segments_of s) (λ k y at. h.written (DataSegments, k) y at))));
    }
