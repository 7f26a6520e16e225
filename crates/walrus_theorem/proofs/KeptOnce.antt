-- What gc keeps of two modules that are parsed of one.
use Rattle.std.proofs.Common.{◌≡◌, ℕ, List, refl, sym, ap, ◌∙◌, subst, inl, inr}
use Rattle.std.specs.Prelude.{Option, Contains}
use Rattle.walrus_base.specs.Operators.{Types, Functions, Tables, Memories, Tags, Globals, Elements, DataSegments, Item}
use Rattle.walrus_model.specs.Abstract.{Abstract, Name, Subject, Function}
use Rattle.walrus_model.specs.Carried.{In}
use Rattle.walrus_model.specs.Config.{Config}
use Rattle.walrus_model.specs.Kept.{Kept, IsImportOf}
use Rattle.walrus_model.specs.Pipeline.{KeepsOnly, Collected}
use Rattle.walrus_model.specs.Reached.{Reached, root, step}
use Rattle.walrus_model.specs.Refers.{named_by, function_names, written_in, KeepsToo, Refers}
use Rattle.walrus_model.specs.Roots.{IsRoot, exported, start, data_segment, element_segment, asked_for}
use Rattle.walrus_theorem.specs.Chain.{ParsedAs}
use Rattle.walrus_base.proofs.Agree.{same_looks}
use Rattle.walrus_theorem.proofs.OneModule.{same_fields}
use Rattle.walrus_theorem.proofs.Straight.{imports_same, tables_same, memories_same, tags_same, globals_same, elements_same, data_same, exports_same, start_same, types_same, handlers_same, table_segments_same, memory_segments_same, functions_name}

-- v with other functions and names
abbrev pub with_functions : Abstract → (ℕ → Option Function) → (Subject → List Name) → Abstract
with_functions v fs ns = record v { functions = fs; named = ns }

-- ---- functions that name the same reach the same

module _ (v : Abstract) (fs : ℕ → Option Function) (ns : Subject → List Name) (same : (i : ℕ) → named_by function_names (v.functions i) ≡ named_by function_names (fs i)) where
  abbrev w : Abstract
  w = with_functions v fs ns

  written : (x y : Item) → Contains (written_in v x) y → Contains (written_in w x) y
  written (Types, i) y at = at
  written (Functions, i) y at = subst (λ l. Contains l y) (same i) at
  written (Tables, i) y at = at
  written (Memories, i) y at = at
  written (Tags, i) y at = at
  written (Globals, i) y at = at
  written (Elements, i) y at = at
  written (DataSegments, i) y at = at

  keeps : (x y : Item) → KeepsToo v x y → KeepsToo w x y
  keeps (Types, i) y at = at
  keeps (Functions, i) y at = at
  keeps (Tables, i) y at = at
  keeps (Memories, i) y at = at
  keeps (Tags, i) y at = at
  keeps (Globals, i) y at = at
  keeps (Elements, i) y at = at
  keeps (DataSegments, i) y at = at

  refers : (x y : Item) → Refers v x y → Refers w x y
  refers x y (inl h) = inl (written x y h)
  refers x y (inr h) = inr (keeps x y h)

  roots : (x : Item) → IsRoot v x → IsRoot w x
  roots x (exported e at is) = exported e at is
  roots x (start f at is) = start f at is
  roots x (data_segment i d at k is) = data_segment i d at k is
  roots x (element_segment i e at k is) = element_segment i e at k is
  roots x (asked_for at) = asked_for at

  pub reaches : (x : Item) → Reached v x → Reached w x
  reaches _ (root x h) = root x (roots x h)
  reaches _ (step x y h k) = step x y (reaches x h) (refers x y k)

module _ (v : Abstract) (fs : ℕ → Option Function) (ns : Subject → List Name) (same : (i : ℕ) → named_by function_names (v.functions i) ≡ named_by function_names (fs i)) where
  pub reaches_back : (x : Item) → Reached (with_functions v fs ns) x → Reached v x
  reaches_back x h = reaches (with_functions v fs ns) v.functions v.named (λ i. sym (same i)) x h

  pub kept_there : (x : Item) → Kept v x → Kept (with_functions v fs ns) x
  kept_there x (inl h) = inl (reaches v fs ns same x h)
  kept_there x (inr h) = inr (record {
    segment = h.segment;
    data_is_reached = reaches v fs ns same (DataSegments, h.segment) h.data_is_reached;
    no_memory_is = λ j k. h.no_memory_is j (reaches_back (Memories, j) k);
    memory = h.memory;
    is = h.is;
    first = record { live = h.first.live; first = h.first.first };
  })

-- ---- both

module _ (c : Config) (m v w : Abstract) (p : ParsedAs c m v) (q : ParsedAs c m w) where
  -- the other module is this one with its functions and names
  pub same_but : w ≡ with_functions v w.functions w.named
  same_but = sym (same_fields (with_functions v w.functions w.named) w
      (types_same c m v w p q)
      (imports_same c m v w p q)
      refl
      (tables_same c m v w p q)
      (memories_same c m v w p q)
      (tags_same c m v w p q)
      (globals_same c m v w p q)
      (elements_same c m v w p q)
      (data_same c m v w p q)
      (exports_same c m v w p q)
      (start_same c m v w p q)
      (p.customs ∙ sym q.customs)
      (p.producers ∙ sym q.producers)
      refl
      (table_segments_same c m v w p q)
      (memory_segments_same c m v w p q)
      (handlers_same c m v w p q)
      (p.section_roots ∙ sym q.section_roots))

  pub kept_same : (x : Item) → Kept v x → Kept w x
  kept_same x h = subst (λ z. Kept z x) (sym same_but) (kept_there v w.functions w.named (λ i. functions_name c m v p i ∙ sym (functions_name c m w q i)) x h)

-- ---- what is left

kept_one : {X : Type 0} (K L : ℕ → Type 0) (xs zs ys us : ℕ → Option X) → ((i : ℕ) → K i → L i) → ((i : ℕ) → L i → K i) → xs ≡ zs → KeepsOnly K xs ys → KeepsOnly L zs us → ys ≡ us
kept_one K L xs zs ys us there back same k l = same_looks ys us
    (λ j y e. let h = k.left j y e in l.kept j (there j h.0) ∙ ap (λ f. f j) (sym same) ∙ h.1)
    (λ j y e. let h = l.left j y e in k.kept j (back j h.0) ∙ ap (λ f. f j) same ∙ h.1)

module _ (c : Config) (m v w x y : Abstract) (p : ParsedAs c m v) (q : ParsedAs c m w) (cx : Collected v x) (cy : Collected w y) where
  abbrev there : (z : Item) → Kept v z → Kept w z
  there z h = kept_same c m v w p q z h

  abbrev back : (z : Item) → Kept w z → Kept v z
  back z h = kept_same c m w v q p z h

  imports_there : (i : ℕ) → IsImportOf (Kept v) v i → IsImportOf (Kept w) w i
  imports_there i h = (h.0, ap (λ f. f i) (sym (imports_same c m v w p q)) ∙ h.1, there h.0.item h.2)

  imports_back : (i : ℕ) → IsImportOf (Kept w) w i → IsImportOf (Kept v) v i
  imports_back i h = (h.0, ap (λ f. f i) (imports_same c m v w p q) ∙ h.1, back h.0.item h.2)

  -- all but functions and names, and what isn't written
  pub record CollectedSame : Type 0 where
    pub types : x.types ≡ y.types
    pub imports : x.imports ≡ y.imports
    pub tables : x.tables ≡ y.tables
    pub memories : x.memories ≡ y.memories
    pub tags : x.tags ≡ y.tags
    pub globals : x.globals ≡ y.globals
    pub elements : x.elements ≡ y.elements
    pub data_segments : x.data_segments ≡ y.data_segments
    pub exports : x.exports ≡ y.exports
    pub start : x.start ≡ y.start
    pub customs : x.customs ≡ y.customs
    pub producers : x.producers ≡ y.producers

  pub collected_same : CollectedSame
  collected_same = record {
    types = kept_one (In (Kept v) Types) (In (Kept w) Types) v.types w.types x.types y.types (λ i. there (Types, i)) (λ i. back (Types, i)) (types_same c m v w p q) cx.types cy.types;
    imports = kept_one (IsImportOf (Kept v) v) (IsImportOf (Kept w) w) v.imports w.imports x.imports y.imports imports_there imports_back (imports_same c m v w p q) cx.imports cy.imports;
    tables = kept_one (In (Kept v) Tables) (In (Kept w) Tables) v.tables w.tables x.tables y.tables (λ i. there (Tables, i)) (λ i. back (Tables, i)) (tables_same c m v w p q) cx.tables cy.tables;
    memories = kept_one (In (Kept v) Memories) (In (Kept w) Memories) v.memories w.memories x.memories y.memories (λ i. there (Memories, i)) (λ i. back (Memories, i)) (memories_same c m v w p q) cx.memories cy.memories;
    tags = kept_one (In (Kept v) Tags) (In (Kept w) Tags) v.tags w.tags x.tags y.tags (λ i. there (Tags, i)) (λ i. back (Tags, i)) (tags_same c m v w p q) cx.tags cy.tags;
    globals = kept_one (In (Kept v) Globals) (In (Kept w) Globals) v.globals w.globals x.globals y.globals (λ i. there (Globals, i)) (λ i. back (Globals, i)) (globals_same c m v w p q) cx.globals cy.globals;
    elements = kept_one (In (Kept v) Elements) (In (Kept w) Elements) v.elements w.elements x.elements y.elements (λ i. there (Elements, i)) (λ i. back (Elements, i)) (elements_same c m v w p q) cx.elements cy.elements;
    data_segments = kept_one (In (Kept v) DataSegments) (In (Kept w) DataSegments) v.data_segments w.data_segments x.data_segments y.data_segments (λ i. there (DataSegments, i)) (λ i. back (DataSegments, i)) (data_same c m v w p q) cx.data_segments cy.data_segments;
    exports = cx.exports ∙ exports_same c m v w p q ∙ sym cy.exports;
    start = cx.start ∙ start_same c m v w p q ∙ sym cy.start;
    customs = cx.customs ∙ (p.customs ∙ sym q.customs) ∙ sym cy.customs;
    producers = cx.producers ∙ (p.producers ∙ sym q.producers) ∙ sym cy.producers;
  }
