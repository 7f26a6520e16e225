-- Where gc keeps, of each kind of item, what is kept, the abstract module is collected.
use Rattle.std.proofs.Common.{◌≡◌, ℕ, zero, suc, length, Bool, inl, inr, true, false, List, [], ◌∷◌, map, Option, Some, None, refl, ap, sym, subst, ◌∙◌}
use Rattle.std.specs.Prelude.{◌↔◌, Contains, option_map, if◌then◌else◌}
use Rattle.std.proofs.lemmas.Option.{none-some}
use Rattle.std.proofs.lemmas.List.{length-map}
use Rattle.std.proofs.lemmas.List.Elements.{Contains-append_left}
use Rattle.walrus_base.specs.Arena.{item_at, kept_by}
use Rattle.walrus_base.specs.Id.{place}
use Rattle.walrus_base.specs.Marks.{is_marked}
use Rattle.walrus_base.specs.declared.marks.Marks.{Marks}
use Rattle.walrus_base.proofs.Kept.{kept_marked, kept_there, kept_was, length-kept_by}
use Rattle.walrus_base.specs.Types.{sub_names}
use Rattle.walrus_base.specs.ModuleTypes.{type_slots}
use Rattle.walrus_base.specs.declared.module_types.ModuleTypes.{ModuleTypes}
use Rattle.walrus_base.specs.Operators.{Types, Functions, Tables, Memories, Tags, Globals, Elements, DataSegments, Item, type_item}
use Rattle.walrus_base.specs.PlaceList.{has}
use Rattle.walrus_base.specs.TypeDef.{TypeDef}
use Rattle.walrus_base.specs.Whole.{KeepsGroups}
use Rattle.walrus_items.specs.Functions.{functions, FunctionValue, ModuleFunctions}
use Rattle.walrus_items.specs.Kinds.{imported}
use Rattle.walrus_items.specs.Imports.{ImportValue, stays_under, imports as imports_in, ModuleImports}
use Rattle.walrus_items.specs.Keeping.{kept_slot, kept_where}
use Rattle.walrus_items.specs.Marks.{has_item}
use Rattle.walrus_items.specs.declared.kinds.ImportKind.{ImportKind}
use Rattle.walrus_items.specs.declared.kinds.ImportKind.TheVariants as imports
use Rattle.walrus_items.specs.declared.marks.ItemMarks.{ItemMarks}
use Rattle.walrus_items.specs.Data.{data_segments as data_segments_in, DataValue, ModuleData}
use Rattle.walrus_items.specs.Elements.{elements as elements_in, ElementValue, ModuleElements}
use Rattle.walrus_items.specs.Globals.{globals as globals_in, GlobalValue, ModuleGlobals}
use Rattle.walrus_items.specs.Memories.{memories as memories_in, MemoryValue, ModuleMemories}
use Rattle.walrus_items.specs.Tables.{tables as tables_in, ModuleTables, TableValue}
use Rattle.walrus_items.specs.Tags.{tags as tags_in, ModuleTags, TagValue}
use Rattle.walrus_contents.specs.View.{contents_view, data_of, element_of, global_of, import_of, kept_data, kept_elements, memory_of, name_at, table_of, tag_of, function, handlers_at}
use Rattle.walrus_contents.specs.declared.parts.Contents.{Contents}
use Rattle.walrus_base.proofs.Lookups.{mapped_some}
use Rattle.walrus.specs.Marked.{MarksAreKept}
use Rattle.walrus_contents.proofs.ExportedRefs.{contained_has}
use Rattle.walrus.specs.MarkedItems.{has_mark}
use Rattle.walrus.specs.declared.passes.marks.MarkedItems.{MarkedItems}
use Rattle.walrus_model.specs.Abstract.{Abstract, Custom, Import, Subject, TheModule, AnItem, ALocal}
use Rattle.walrus_model.specs.Kept.{IsImportOf, Kept}
use Rattle.walrus_model.specs.Pipeline.{Collected, IsSubjectOf, KeepsOnly}
use Rattle.walrus_model.specs.Reached.{step}
use Rattle.walrus_model.specs.Refers.{named_by, type_names}
use Rattle.walrus_base.proofs.Lists.{Contains-map}
use Rattle.walrus_theorem.proofs.SameItems.{with_own}
use Rattle.walrus.specs.Collected as slots

-- what is left where only the marked ones are kept
pub keeps_only : {X : Type 0} (keeps : ℕ → Bool) (Q : ℕ → Type 0) → ((i : ℕ) → (keeps i ≡ true) ↔ Q i) → (old new : List (Option X)) → new ≡ kept_by keeps old → slots.KeepsOnly Q old new
keeps_only {X} keeps Q same old new is = subst (λ (s : List (Option X)). slots.KeepsOnly Q old s) (sym is) (record {
  kept = λ i q. kept_there keeps old i ((same i).1 q);
  left = λ i x h. ((same i).0 (kept_marked keeps old i x h), kept_was keeps old i x h);
  places = length-kept_by keeps old;
})

-- the same of what is seen of each slot
module _ {X Y : Type 0} (see : ℕ → X → Y) (K : ℕ → Type 0) (old new : List (Option X)) (k : slots.KeepsOnly K old new) where
  seen_left : (i : ℕ) (o : Option X) (y : Y) → item_at new i ≡ o → option_map (see i) o ≡ Some y → K i × (option_map (see i) (item_at old i) ≡ Some y)
  seen_left i None y at e = absurd (none-some y e)
  seen_left i (Some x) y at e = let from = k.left i x at in (from.0, ap (option_map (see i)) from.1 ∙ e)

  seen_kept : KeepsOnly K (λ i. option_map (see i) (item_at old i)) (λ i. option_map (see i) (item_at new i))
  seen_kept = record {
    kept = λ i h. ap (option_map (see i)) (k.kept i h);
    left = λ i y e. seen_left i (item_at new i) y refl e;
  }

-- the module of these contents, with custom sections of its own
abbrev pub viewed : List Custom → List Item → Contents → Abstract
viewed customs roots held = with_own (contents_view held) customs roots

-- what is kept of the types keeps its group
keeps_groups : (customs : List Custom) (roots : List Item) (old : Contents) (i q : ℕ) (x : TypeDef) → item_at (type_slots old.types) i ≡ Some x → Kept (viewed customs roots old) (Types, i) → has x.group q ≡ true → Kept (viewed customs roots old) (Types, q)
keeps_groups customs roots old i q x at (inl reached) g =
    let written : Contains (type_names x) (Types, q) = Contains-append_left (map type_item x.group) (map type_item (sub_names x.sub)) (Types, q) (Contains-map type_item q x.group (contained_has x.group q g)) in
    inl (step (Types, i) (Types, q) reached (inl (subst (λ (o : Option TypeDef). Contains (named_by type_names o) (Types, q)) (sym at) written)))
keeps_groups customs roots old i q x at (inr spare) g = let apart : Types ≡ Memories = ap (λ (y : Item). y.0) spare.is in absurd (cc)

-- the marked types are groups that are whole
pub marks_groups : (customs : List Custom) (roots : List Item) (old : Contents) (keeps : ℕ → Bool)
    → ((t : ℕ) → (keeps t ≡ true) ↔ Kept (viewed customs roots old) (Types, t)) → KeepsGroups keeps (type_slots old.types)
marks_groups customs roots old keeps same t x at marked p g = (same p).1 (keeps_groups customs roots old t p x at ((same t).0 marked) g)

-- ---- imports

module _ {T : Type 0} (stays : T → Bool) where
  slot_kept : (xs : List (Option T)) (i : ℕ) → item_at (kept_where stays xs) i ≡ kept_slot stays (item_at xs i)
  slot_kept [] i = refl
  slot_kept (x ∷ xs) zero = refl
  slot_kept (x ∷ xs) (suc i) = slot_kept xs i

  slot_stays : (o : Option T) (x : T) → o ≡ Some x → stays x ≡ true → kept_slot stays o ≡ o
  slot_stays (Some y) x e h =
      let same : x ≡ y = cc in
      ap (λ (b : Bool). if b then Some y else None) (subst (λ (z : T). stays z ≡ true) same h)
  slot_stays None x e h = refl

  slot_left : (o : Option T) (x : T) → kept_slot stays o ≡ Some x → (stays x ≡ true) × (o ≡ Some x)
  slot_left None x e = absurd (none-some x e)
  slot_left (Some y) x e = by_test (stays y) refl e where
    by_test : (b : Bool) → stays y ≡ b → (if b then Some y else None) ≡ Some x → (stays x ≡ true) × (Some y ≡ Some x)
    by_test true h e = let same : y ≡ x = cc in (subst (λ (z : T). stays z ≡ true) same h, e)
    by_test false h e = absurd (none-some x e)

length-kept_where : {T : Type 0} (stays : T → Bool) (xs : List (Option T)) → length (kept_where stays xs) ≡ length xs
length-kept_where stays xs = length-map xs (kept_slot stays)

-- the marks of those kinds that an import can bring
pub record MarksThose (m : ItemMarks) (used : MarkedItems) : Type 0 where
  pub funcs : m.funcs.now ≡ used.funcs
  pub tables : m.tables.now ≡ used.tables
  pub memories : m.memories.now ≡ used.memories
  pub globals : m.globals.now ≡ used.globals
  pub tags : m.tags.now ≡ used.tags

-- the marks of these kinds, wherever they lie
abbrev pub marks_of : MarkedItems → ItemMarks
marks_of used = record {
  funcs = record { ref_ptr = (0, 0); now = used.funcs };
  tables = record { ref_ptr = (0, 0); now = used.tables };
  memories = record { ref_ptr = (0, 0); now = used.memories };
  globals = record { ref_ptr = (0, 0); now = used.globals };
  tags = record { ref_ptr = (0, 0); now = used.tags };
}

one_set : {K : Type 0} (a b : Marks K) (i : ℕ) → a ≡ b → (is_marked a i ≡ true) ↔ (is_marked b i ≡ true)
one_set {K} a b i e = (λ h. subst (λ (s : Marks K). is_marked s i ≡ true) e h, λ h. subst (λ (s : Marks K). is_marked s i ≡ true) (sym e) h)

-- what is imported is marked exactly where it is among the marks of its kind
marks_same : (m : ItemMarks) (used : MarkedItems) → MarksThose m used → (k : ImportKind) → (has_item m (imported k) ≡ true) ↔ (has_mark used (imported k) ≡ true)
marks_same m used t (imports.Function f) = one_set m.funcs.now used.funcs (place f) t.funcs
marks_same m used t (imports.Table i) = one_set m.tables.now used.tables (place i) t.tables
marks_same m used t (imports.Memory i) = one_set m.memories.now used.memories (place i) t.memories
marks_same m used t (imports.Global i) = one_set m.globals.now used.globals (place i) t.globals
marks_same m used t (imports.Tag i) = one_set m.tags.now used.tags (place i) t.tags

-- the imports of what is kept stay, and no others
module _ (customs : List Custom) (roots : List Item) (held : Contents) (used : MarkedItems) (marked : MarksAreKept (viewed customs roots held) used) (marks : ItemMarks) (are : MarksThose marks used) where
  abbrev V : Abstract
  V = viewed customs roots held

  abbrev stays : ImportValue → Bool
  stays = stays_under marks

  stays_kept : (k : ImportKind) → (has_item marks (imported k) ≡ true) ↔ Kept V (imported k)
  stays_kept k = (
    λ h. (marked (imported k)).0 ((marks_same marks used are k).0 h),
    λ h. (marks_same marks used are k).1 ((marked (imported k)).1 h),
  )

  imports_kept : (new : List (Option ImportValue)) → new ≡ kept_where stays (imports_in held.imports) → slots.KeepsOnly (IsImportOf (Kept V) V) (imports_in held.imports) new
  imports_kept new is = subst (λ (s : List (Option ImportValue)). slots.KeepsOnly (IsImportOf (Kept V) V) (imports_in held.imports) s) (sym is) (record {
    kept = λ i brings.
        let from = mapped_some import_of (item_at (imports_in held.imports) i) brings.0 brings.1 in
        let kept : Kept V (imported from.0.kind) = subst (λ (y : Import). Kept V y.item) from.2 brings.2 in
        slot_kept stays (imports_in held.imports) i ∙ slot_stays stays (item_at (imports_in held.imports) i) from.0 from.1 ((stays_kept from.0.kind).1 kept);
    left = λ i x at.
        let was = slot_left stays (item_at (imports_in held.imports) i) x (sym (slot_kept stays (imports_in held.imports) i) ∙ at) in
        ((import_of x, ap (option_map import_of) was.1, (stays_kept x.kind).0 was.0), was.1);
    places = length-kept_where stays (imports_in held.imports);
  })

-- the same, where the marks are told by what was kept
pub imports_left : (customs : List Custom) (roots : List Item) (held : Contents) (used : MarkedItems) → MarksAreKept (viewed customs roots held) used → (marks : ItemMarks) (new : List (Option ImportValue))
    → new ≡ kept_where (stays_under marks) (imports_in held.imports) → MarksThose marks used
    → slots.KeepsOnly (IsImportOf (Kept (viewed customs roots held)) (viewed customs roots held)) (imports_in held.imports) new
imports_left customs roots held used marked marks new is are = imports_kept customs roots held used marked marks are new is

-- ---- the whole

module _ (customs : List Custom) (roots : List Item) (held : Contents) (kept_types : ModuleTypes) (kept_imports : ModuleImports) (kept_funcs : ModuleFunctions) (kept_tables : ModuleTables) (kept_memories : ModuleMemories) (kept_tags : ModuleTags) (kept_globals : ModuleGlobals) (kept_lists : ModuleElements) (kept_segments : ModuleData) where
  abbrev pub left : Contents
  left = record held { types = kept_types; imports = kept_imports; funcs = kept_funcs; tables = kept_tables; memories = kept_memories; tags = kept_tags; globals = kept_globals; elements = kept_lists; data_ = kept_segments }

  -- what is left of each kind
  abbrev pub AreKept : Type 0
  AreKept = slots.KeepsItems (Kept (viewed customs roots held)) (IsImportOf (Kept (viewed customs roots held)) (viewed customs roots held)) held left

  -- what is kept keeps its name
  names_kept : AreKept → (y : Subject) → IsSubjectOf (Kept (viewed customs roots held)) y → (viewed customs roots left).named y ≡ (viewed customs roots held).named y
  names_kept k TheModule h = refl
  names_kept k (AnItem (Types, i)) h = ap (name_at (λ n. n)) (k.type_names.kept i h)
  names_kept k (AnItem (Functions, i)) h = ap (name_at (λ (f : FunctionValue). f.name)) (k.functions.kept i h)
  names_kept k (AnItem (Tables, i)) h = ap (name_at (λ (t : TableValue). t.name)) (k.tables.kept i h)
  names_kept k (AnItem (Memories, i)) h = ap (name_at (λ (m : MemoryValue). m.name)) (k.memories.kept i h)
  names_kept k (AnItem (Tags, i)) h = ap (name_at (λ (t : TagValue). t.name)) (k.tags.kept i h)
  names_kept k (AnItem (Globals, i)) h = ap (name_at (λ (g : GlobalValue). g.name)) (k.globals.kept i h)
  names_kept k (AnItem (Elements, i)) h = ap (name_at (λ (e : ElementValue). e.name)) (k.elements.kept i h)
  names_kept k (AnItem (DataSegments, i)) h = ap (name_at (λ (d : DataValue). d.name)) (k.data_segments.kept i h)
  names_kept k (ALocal f x) h = refl

  pub is_collected : AreKept → Collected (viewed customs roots held) (viewed customs roots left)
  is_collected k = record {
    types = record { kept = k.types.kept; left = k.types.left };
    imports = seen_kept (λ i. import_of) (IsImportOf (Kept (viewed customs roots held)) (viewed customs roots held)) (imports_in held.imports) (imports_in kept_imports) k.imports;
    functions = seen_kept (λ i. function held.locals) (λ i. Kept (viewed customs roots held) (Functions, i)) (functions held.funcs) (functions kept_funcs) k.functions;
    tables = seen_kept (λ i. table_of) (λ i. Kept (viewed customs roots held) (Tables, i)) (tables_in held.tables) (tables_in kept_tables) k.tables;
    memories = seen_kept (λ i. memory_of) (λ i. Kept (viewed customs roots held) (Memories, i)) (memories_in held.memories) (memories_in kept_memories) k.memories;
    tags = seen_kept (λ i. tag_of) (λ i. Kept (viewed customs roots held) (Tags, i)) (tags_in held.tags) (tags_in kept_tags) k.tags;
    globals = seen_kept (λ i. global_of) (λ i. Kept (viewed customs roots held) (Globals, i)) (globals_in held.globals) (globals_in kept_globals) k.globals;
    elements = seen_kept (λ i. element_of) (λ i. Kept (viewed customs roots held) (Elements, i)) (elements_in held.elements) (elements_in kept_lists) k.elements;
    data_segments = seen_kept (λ i. data_of) (λ i. Kept (viewed customs roots held) (DataSegments, i)) (data_segments_in held.data_) (data_segments_in kept_segments) k.data_segments;
    exports = refl;
    start = refl;
    customs = refl;
    producers = refl;
    named = names_kept k;
    table_segments = λ table h segment. ap (λ (o : Option TableValue). kept_elements o segment) (k.tables.kept table h);
    memory_segments = λ memory h segment. ap (λ (o : Option MemoryValue). kept_data o segment) (k.memories.kept memory h);
    handler_types = λ i h. ap handlers_at (k.functions.kept i h);
    section_roots = refl;
  }
