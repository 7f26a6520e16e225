-- The module that the records say holds all of the module in memory, space by space, under the indices that are given.
use Rattle.wasm_entries.specs.Record as entries
use Rattle.wasm_entries.specs.declared.record.RawExportKind.{RawExportKind}
use Rattle.wasm_entries.specs.declared.record.RawLimits.{RawLimits}
use Rattle.wasm_entries.specs.declared.record.RawExportKind.TheVariants as kinds
use Rattle.std.proofs.Common.{◌≡◌, ℕ, List, [], ◌∷◌, map, refl, sym, ap, ap₂, subst, ◌∙◌, inl, inr, ⊎_elim, ◌<◌}
use Rattle.std.specs.Prelude.{Option, Some, None, Contains, filter_map, option_map, slice_get, ◌++◌}
use Rattle.std.specs.List.{AllZip}
use Rattle.walrus_base.specs.Types.{ValType}
use Rattle.walrus_base.specs.Operators.{Space, Types, Functions, Tables, Memories, Tags, Globals, Elements, DataSegments, locals_of}
use Rattle.walrus_base.specs.TypeDef.{TypeDef}
use Rattle.walrus_items.specs.Function.{body_of as ops_in, args_of}
use Rattle.walrus_code.specs.Names.{Lookup}
use Rattle.walrus_functions.specs.DeclaredLocals as declared
use Rattle.walrus_functions.specs.DeclaredLocals.{rank}
use Rattle.walrus_functions.specs.Handlers.{params_of}
use Rattle.walrus_bodies.specs.declared.features.Features.{Features}
use Rattle.walrus_groups.specs.Groups.{types_from}
use Rattle.walrus_groups.specs.Named.{named_def}
use Rattle.walrus_contents.specs.There.{ImportsAreLive}
use Rattle.walrus_contents.specs.View.{body, parts_view}
use Rattle.walrus_contents.specs.declared.parts.Parts.{Parts}
use Rattle.walrus_base.proofs.Lookups.{heads, mapped_some, then_some}
use Rattle.walrus_constants.specs.Laws.{AgreesWith}
use Rattle.walrus_constants.specs.Named.{named_global, named_table}
use Rattle.walrus_constants.specs.Segments.{named_data, named_element}
use Rattle.walrus_constants.proofs.Items.{global_renamed, table_renamed}
use Rattle.walrus_constants.proofs.Segments.{data_renamed, element_renamed}
use Rattle.walrus_model.specs.Abstract.{Abstract, Body, DataSegment, Element, Export, Function, Global, Memory, Origin, Table, Tag}
use Rattle.walrus_model.specs.Carried.{Carried}
use Rattle.walrus_model.specs.Imported.{brought, import_number}
use Rattle.walrus_model.specs.Live.{IsLive}
use Rattle.walrus_model.specs.Names.{body_of, body_of_function}
use Rattle.walrus_model.specs.Ordered.{StandsFor}
use Rattle.walrus_model.specs.Out.{IsTheSegment}
use Rattle.walrus_model.specs.Plan.{IsWrittenAlong}
use Rattle.walrus_model.specs.Renaming.{Renaming, renamed_data, renamed_element, renamed_export, renamed_global, renamed_memory, renamed_origin, renamed_table, renamed_tag}
use Rattle.walrus_model.specs.Same.{SameType}
use Rattle.walrus_model.specs.Sections.{data_of, element_of, export_of, global_of, memory_of, space_of, table_of, tag_of, types_of, body_with}
use Rattle.walrus_model.specs.Spaces.{SameThing, Thing, look}
use Rattle.walrus_model.proofs.AlongRecords.{stand_along}
use Rattle.walrus_model.proofs.ImportedZip.{written_both}
use Rattle.walrus_model.proofs.Indices.{planned_named}
use Rattle.walrus_base.proofs.Lists.{map-itself}
use Rattle.walrus_model.proofs.Planned.{planned_apart, planned_carries}
use Rattle.walrus_model.proofs.Spaces.{carried_from}
use Rattle.walrus_base.proofs.Standing.{got_where, some_inj, zip_left, zip_right}
use Rattle.walrus_theorem.specs.Pinned.{LocalHasType, DeclaresLocal, LocalTypeBeginsBefore, LocalGoesBefore}
use Rattle.walrus_theorem.specs.Spelling.{UsesAll}
use Rattle.walrus_theorem.specs.Text.{said}
use Rattle.walrus_plan.specs.Brought.{import_numbers}
use Rattle.walrus_writing.specs.Imported.{AreBare}
use Rattle.walrus_writing.specs.Parts.{export_with_index, kind_in, memory_limits, slots_of, tag_index}
use Rattle.walrus_writing.specs.Records.{Records}
use Rattle.walrus_writing.proofs.Bare.{are_bare}
use Rattle.walrus_writing.proofs.FunctionsWritten.{IsRow, all_rows, functions_stand, new_functions, text_in}
use Rattle.walrus_writing.proofs.ImportedAlong.{entries_brought, entries_live}
use Rattle.walrus_writing.proofs.ImportsCarried.{brought_numbered, import_index, imports_apart, imports_carried, imports_ordered, index_is}
use Rattle.walrus_model.proofs.NamedTypes.{def_parts, each_place, same_in_group, group_renamed}
use Rattle.walrus_writing.proofs.Parted.{body_among, body_behind, functions_brought, stand_among}
use Rattle.walrus_theorem.proofs.OneSections.{later_none}
use Rattle.walrus_writing.proofs.SameBodies.{uses_all, locals_rise}
use Rattle.walrus_writing.proofs.TypesEntered.{types_apart}
use Rattle.walrus_writing.proofs.WrittenAs.{laid_of, module_said, number_is, renaming_of}
use Rattle.walrus_model.proofs.Orders.{is_some_by as live_by}
use Rattle.walrus_model.proofs.SettleDeclared.{body_there as some_function}

-- ---- exports

space_back : (s : Space) (k : RawExportKind) → kind_in s ≡ Some k → space_of k ≡ s
space_back Functions k e = sym (ap space_of (some_inj kinds.Function k e))
space_back Tables k e = sym (ap space_of (some_inj kinds.Table k e))
space_back Memories k e = sym (ap space_of (some_inj kinds.Memory k e))
space_back Globals k e = sym (ap space_of (some_inj kinds.Global k e))
space_back Tags k e = sym (ap space_of (some_inj kinds.Tag k e))
space_back Types k e = absurd (cc)
space_back Elements k e = absurd (cc)
space_back DataSegments k e = absurd (cc)

-- the parts of an export under a look-up
pub record ExportParts (names : Lookup) (e : Export) (w : entries.Export) : Type 0 where
  pub kind : kind_in e.item.0 ≡ Some w.kind
  pub index : names e.item.0 e.item.1 ≡ Some w.index
  pub name : w.name ≡ e.name

pub export_parts : (names : Lookup) (e : Export) (w : entries.Export) → export_with_index names e ≡ Some w → ExportParts names e w
export_parts names e w is =
    let k = then_some (λ (kind : RawExportKind). option_map (λ (index : ℕ). record { name = e.name; kind = kind; index = index }) (names e.item.0 e.item.1)) (kind_in e.item.0) w is in
    let i = mapped_some (λ (index : ℕ). record { name = e.name; kind = k.0; index = index }) (names e.item.0 e.item.1) w k.2 in
    subst (λ (x : entries.Export). ExportParts names e x) (sym i.2) (record { kind = k.1; index = i.1; name = refl })

module _ (names : Lookup) (ren : Renaming) (agrees : (space : Space) (i j : ℕ) → names space i ≡ Some j → j ≡ ren.numbers space i) where
  same_export : (e : Export) (w : entries.Export) → export_with_index names e ≡ Some w → export_of w ≡ renamed_export ren e
  same_export e w is =
      let x = export_parts names e w is in
      ap (λ (name : List ℕ). record { name = name; item = (space_of w.kind, w.index) }) x.name
      ∙ ap₂ (λ (s : Space) (j : ℕ). record { name = e.name; item = (s, j) }) (space_back e.item.0 w.kind x.kind) (agrees e.item.0 e.item.1 w.index x.index)

  same_exports : (raws : List entries.Export) (es : List Export) → map Some raws ≡ map (export_with_index names) es → map export_of raws ≡ map (renamed_export ren) es
  same_exports [] [] e = refl
  same_exports [] (x ∷ es) e = absurd (cc)
  same_exports (y ∷ raws) [] e = absurd (cc)
  same_exports (y ∷ raws) (x ∷ es) e =
      let q = heads (Some y) (export_with_index names x) (map Some raws) (map (export_with_index names) es) e in
      ap₂ ◌∷◌ (same_export x y (sym q.0)) (same_exports raws es q.1)

  -- the start function is the same, too
  same_start : (new old : Option ℕ) → option_map (λ (i : ℕ). Some i) new ≡ option_map (names Functions) old → new ≡ option_map (ren.numbers Functions) old
  same_start None None e = refl
  same_start (Some j) (Some i) e = ap Some (agrees Functions i j (sym (some_inj (Some j) (names Functions i) e)))
  same_start None (Some i) e = absurd (cc)
  same_start (Some j) None e = absurd (cc)

-- ---- bodies

module _ {p : Parts} {features : Features} (r : Records p features) where
  abbrev before : Abstract
  before = parts_view p

  abbrev after : Abstract
  after = module_said r

  abbrev renaming : Renaming
  renaming = renaming_of r

  -- ---- types

  same_type : (i : ℕ) (x y : TypeDef) → before.types i ≡ Some x → named_def r.names x ≡ Some y → SameType (renaming.numbers Types) i x y
  same_type i x y at e =
      let z = def_parts r.names x y e in
      let f = renaming.numbers Types in
      let named : r.names Types i ≡ Some (f i) = planned_named r.numbered r.is_plan Types i (live_by (before.types i) x at) in
      record {
        group = group_renamed r.names f (number_is r Types) (types_apart r) x y z;
        position = each_place (r.names Types) (types_apart r) x.group y.group z.group i (f i) named;
        sub = same_in_group r.names f (number_is r Types) (types_apart r) x y z;
      }

  types_stand : AllZip (StandsFor (SameType (renaming.numbers Types)) before.types) (r.plan Types) (types_from 0 r.types)
  types_stand =
      subst (λ (ws : List TypeDef). AllZip (StandsFor (SameType (renaming.numbers Types)) before.types) (r.plan Types) ws) (map-itself (λ (w : TypeDef). w) (types_from 0 r.types) (λ w. refl))
      (stand_along (SameType (renaming.numbers Types)) before.types (named_def r.names) (λ (w : TypeDef). w) same_type (r.plan Types) (types_from 0 r.types) r.types_are)

  -- ---- memories

  same_memory : (i : ℕ) (x : Memory) (w : RawLimits) → Contains (r.own Memories) i → before.memories i ≡ Some x → Some (memory_limits x) ≡ Some w → memory_of w ≡ renamed_memory renaming x
  same_memory i x w within at e =
      ap memory_of (sym (some_inj (memory_limits x) w e))
      ∙ ap (λ (o : Origin). let made : Memory = record { origin = o; ty = x.ty } in made) (sym (ap (renamed_origin renaming) (r.defined.memories i x within at)))

  -- ---- tags

  same_tag : (i : ℕ) (x : Tag) (t : ℕ) → Contains (r.own Tags) i → before.tags i ≡ Some x → tag_index r.names x ≡ Some t → tag_of t ≡ renamed_tag renaming x
  same_tag i x t within at e =
      ap tag_of (number_is r Types x.ty t e)
      ∙ ap (λ (o : Origin). let made : Tag = record { origin = o; ty = renaming.numbers Types x.ty } in made) (sym (ap (renamed_origin renaming) (r.defined.tags i x within at)))

  -- ---- tables and globals

  agrees : AgreesWith renaming r.names
  agrees s i j e = sym (number_is r s i j e)

  same_table : (i : ℕ) (x w : Table) → Contains (r.own Tables) i → before.tables i ≡ Some x → named_table r.names x ≡ Some w → w ≡ renamed_table renaming x
  same_table i x w within at e = sym (table_renamed renaming r.names agrees x w (r.defined.tables i x within at) e)

  same_global : (i : ℕ) (x w : Global) → Contains (r.own Globals) i → before.globals i ≡ Some x → named_global r.names x ≡ Some w → w ≡ renamed_global renaming x
  same_global i x w within at e = sym (global_renamed renaming r.names agrees x w (r.defined.globals i x within at) e)

  -- ---- segments

  same_element : (i : ℕ) (x w : Element) → before.elements i ≡ Some x → named_element r.names x ≡ Some w → w ≡ renamed_element renaming x
  same_element i x w at e = sym (element_renamed renaming r.names agrees x w e)

  same_data : (i : ℕ) (x w : DataSegment) → before.data_segments i ≡ Some x → named_data r.names x ≡ Some w → w ≡ renamed_data renaming x
  same_data i x w at e = sym (data_renamed renaming r.names agrees x w e)

  -- ---- imports

  abbrev order : List ℕ
  order = import_numbers p

  bare : AreBare before
  bare = are_bare p r.matched

  index : (q : ℕ) → renaming.imports q ≡ import_index p q
  index q = refl

  numbered : (s : Space) (k i : ℕ) → slice_get (filter_map (import_number before s) order) k ≡ Some i → renaming.numbers s i ≡ k
  numbered s = brought_numbered r.names r.plan before r.numbered r.is_plan s order (r.own s) (r.parted s)

  pub behind_imports : (s : Space) (things : List (Thing s)) → ((j : ℕ) → look after s j ≡ slice_get (brought s r.imports ++ things) j)
      → AllZip (StandsFor (SameThing renaming s) (look before s)) (r.own s) things → IsWrittenAlong renaming before after r.plan s
  behind_imports s things = λ reads stand.
      written_both renaming before after r.plan s order (r.own s) r.imports things (r.parted s) reads
      (entries_brought r.names renaming agrees before bare order r.imports (index_is p) r.imports_are) stand

  live : ImportsAreLive before
  live i x at = entries_live r.names before order r.imports r.imports_are i x at ((imports_ordered p).all i (live_by (before.imports i) x at))

  -- ---- all spaces

  pub written_along : (s : Space) → IsWrittenAlong renaming before after r.plan s
  written_along Types = record { written = types_from 0 r.types; reads = λ j. refl; stand = types_stand }
  written_along Functions = behind_imports Functions (new_functions r) (λ j. refl) (functions_stand r)
  written_along Tables = behind_imports Tables (map table_of r.tables) (λ j. refl)
      (subst (λ (ws : List Table). AllZip (StandsFor (SameThing renaming Tables) before.tables) (r.own Tables) ws) (map-itself (λ (w : Table). w) (map table_of r.tables) (λ w. refl))
      (stand_among (SameThing renaming Tables) before.tables (named_table r.names) (λ (w : Table). w) (r.own Tables) same_table (map table_of r.tables) r.tables_are))
  written_along Memories = behind_imports Memories (map memory_of r.memories) (λ j. refl)
      (stand_among (SameThing renaming Memories) before.memories (λ (m : Memory). Some (memory_limits m)) memory_of (r.own Memories) same_memory r.memories r.memories_are)
  written_along Tags = behind_imports Tags (map tag_of r.tags) (λ j. refl)
      (stand_among (SameThing renaming Tags) before.tags (tag_index r.names) tag_of (r.own Tags) same_tag r.tags r.tags_are)
  written_along Globals = behind_imports Globals (map global_of r.globals) (λ j. refl)
      (subst (λ (ws : List Global). AllZip (StandsFor (SameThing renaming Globals) before.globals) (r.own Globals) ws) (map-itself (λ (w : Global). w) (map global_of r.globals) (λ w. refl))
      (stand_among (SameThing renaming Globals) before.globals (named_global r.names) (λ (w : Global). w) (r.own Globals) same_global (map global_of r.globals) r.globals_are))
  written_along Elements = record {
    written = map element_of r.elements;
    reads = λ j. refl;
    stand =
        subst (λ (ws : List Element). AllZip (StandsFor (SameThing renaming Elements) before.elements) (r.plan Elements) ws) (map-itself (λ (w : Element). w) (map element_of r.elements) (λ w. refl))
        (stand_along (SameThing renaming Elements) before.elements (named_element r.names) (λ (w : Element). w) same_element (r.plan Elements) (map element_of r.elements) r.elements_are);
  }
  written_along DataSegments = record {
    written = map data_of r.data_segments;
    reads = λ j. refl;
    stand =
        subst (λ (ws : List DataSegment). AllZip (StandsFor (SameThing renaming DataSegments) before.data_segments) (r.plan DataSegments) ws) (map-itself (λ (w : DataSegment). w) (map data_of r.data_segments) (λ w. refl))
        (stand_along (SameThing renaming DataSegments) before.data_segments (named_data r.names) (λ (w : DataSegment). w) same_data (r.plan DataSegments) (map data_of r.data_segments) r.data_segments_are);
  }

  pub carried_over : Carried (IsLive before) (IsTheSegment None) renaming before after
  carried_over =
      carried_from (IsLive before) (IsTheSegment None) renaming before after
      (λ s. planned_carries r.names r.plan r.numbered before after r.is_plan renaming (λ t i. refl) (IsTheSegment None) s (written_along s))
      (imports_carried p r.names renaming agrees bare live index numbered r.imports r.imports_are)
      (imports_apart p r.names renaming agrees bare live index numbered r.imports r.imports_are)
      (λ s no_type. planned_apart r.names r.plan r.numbered before after r.is_plan renaming (λ t i. refl) s)
      (same_exports r.names renaming (number_is r) r.exports before.exports r.exports_are)
      (later_none r.start ∙ same_start r.names renaming (number_is r) r.start before.start r.start_is)

  -- ---- bodies: what one says, what it is made of, and the order of its locals

  pub record Came (b : Body) : Type 0 where
    pub i : ℕ
    pub new : Function
    pub row : IsRow r i new
    pub is : b ≡ body_with (params_of (types_of (laid_of r) row.t)) (said (text_in r row.has))

  came_from : (f : ℕ) (b : Body) → body_of after f ≡ Some b → Came b
  came_from f b e =
      let behind = body_behind (brought Functions r.imports) (new_functions r) (functions_brought r.imports) f b e in
      let at : body_of_function (slice_get (new_functions r) behind.0) ≡ Some b = ap body_of_function behind.1 ∙ e in
      let g = some_function (slice_get (new_functions r) behind.0) b at in
      let z = zip_left (IsRow r) (r.own Functions) (new_functions r) behind.0 g.0 (all_rows r) g.1 in
      record { i = z.0; new = g.0; row = z.2; is = some_inj b _ (sym at ∙ ap body_of_function (g.1 ∙ ap (λ (h : Function). Some h) z.2.new_is)) }

  -- each declared local is used
  pub used : (f : ℕ) (b : Body) → body_of after f ≡ Some b → UsesAll b
  used f b e = let c = came_from f b e in subst UsesAll (sym c.is) (uses_all r c.i c.row.t c.row.bytes c.row.has c.row.typed c.row.locals_at)

  -- a body in memory
  pub record Held (f : ℕ) (b : Body) : Type 0 where
    pub new : Function
    pub row : IsRow r f new
    pub is : b ≡ body p.locals.now row.has.local

  held_at : (f : ℕ) (b : Body) → body_of before f ≡ Some b → Held f b
  held_at f b e =
      let z = zip_right (IsRow r) (r.own Functions) (new_functions r) _ f (all_rows r) (got_where (r.own Functions) f (body_among r f b e)) in
      record { new = z.0; row = z.2; is = some_inj b (body p.locals.now z.2.has.local) (sym e ∙ ap body_of_function z.2.has.is) }

  -- declared locals get rising numbers in their order
  locals_rise_of : (f : ℕ) (new : Function) (w : IsRow r f new) (x y : ℕ) → DeclaresLocal (body p.locals.now w.has.local) x → DeclaresLocal (body p.locals.now w.has.local) y → LocalGoesBefore (body p.locals.now w.has.local) x y → renaming.locals f x < renaming.locals f y
  locals_rise_of f new w x y dx dy g =
      let as_declared : (z : ℕ) (t : ValType ℕ) → DeclaresLocal (body p.locals.now w.has.local) z → LocalHasType (body p.locals.now w.has.local) z t → declared.IsDeclared (slots_of p) (locals_of (ops_in w.has.local)) (args_of w.has.local) z =
      (λ z t d h. record { is_used = d.0; no_parameter = d.1; ty = t; typed = h }) in
      let begins : LocalTypeBeginsBefore (body p.locals.now w.has.local) g.0 g.1.0 → declared.BeginsBefore (slots_of p) (locals_of (ops_in w.has.local)) (args_of w.has.local) g.0 g.1.0 =
      (λ b. (b.0, (as_declared b.0 g.0 b.1.0 b.1.1, b.1.1, λ z d h. b.1.2 z (d.is_used, d.no_parameter) h))) in
      locals_rise r f w.t w.bytes w.has w.typed w.locals_at x y (as_declared x g.0 dx g.1.1.0) (as_declared y g.1.0 dy g.1.1.1) (
        g.0,
        (
          g.1.0,
          (
            g.1.1.0,
            g.1.1.1,
            ⊎_elim (λ before. inl (⊎_elim (λ (low : rank g.0 < rank g.1.0). inl low) (λ same. inr (same.0, begins same.1)) before)) (λ same. inr same) g.1.1.2,
          ),
        ),
      )

  pub pinned_locals : (f : ℕ) (b : Body) (x y : ℕ) → body_of before f ≡ Some b → DeclaresLocal b x → DeclaresLocal b y → LocalGoesBefore b x y → renaming.locals f x < renaming.locals f y
  pinned_locals f b x y e dx dy g =
      let h = held_at f b e in
      locals_rise_of f h.new h.row x y (subst (λ (z : Body). DeclaresLocal z x) h.is dx) (subst (λ (z : Body). DeclaresLocal z y) h.is dy) (subst (λ (z : Body). LocalGoesBefore z x y) h.is g)
