-- Gc and the declared segment keep a module well made.
use Rattle.std.proofs.Common.{◌≡◌, ℕ, Bool, true, List, [], ◌∷◌, ◌++◌, map, refl, sym, ap, ◌∙◌, subst, ⊎_elim}
use Rattle.std.specs.Prelude.{Option, Some, None, IsSome, Contains, flat_map, slice_get}
use Rattle.std.specs.Cmp.Derive.{both_true}
use Rattle.walrus_base.specs.Types.{HeapType, ValType}
use Rattle.walrus_code.specs.Names.{Lookup}
use Rattle.walrus_bodies.specs.declared.features.Features.{Features}
use Rattle.walrus_bodies.specs.Body.{context, BodyReads}
use Rattle.walrus_theorem.specs.Features.{features_of}
use Rattle.walrus_base.specs.Operators.{Types, Functions, Tables, Memories, Tags, Globals, Elements, DataSegments, Item, type_item, OfType, NoResult, OneResult, Arg, Block, Index, Access, Value, Heap, Label, Local, Number, Count, Byte, S32, S64, Bits32, Bits64, Op, names_of, op_names, arg_names}
use Rattle.walrus_bodies.specs.Blocks.{block_holds, args_hold, blocks_hold}
use Rattle.walrus_bodies.specs.FunctionTypes.{is_function_def}
use Rattle.walrus_model.specs.BlockHandlers.{params_of}
use Rattle.walrus_model.specs.Abstract.{Abstract, TypeDef, Body, Function, FunctionKind, LocalFunction, Element, Import}
use Rattle.walrus_model.specs.Config.{Config}
use Rattle.walrus_model.specs.Declared.{AreUndeclared, NothingUndeclared}
use Rattle.walrus_model.specs.Kept.{Kept}
use Rattle.walrus_model.specs.Live.{IsLive}
use Rattle.walrus_model.specs.Names.{body_of, body_of_function}
use Rattle.walrus_model.specs.Pipeline.{Collected}
use Rattle.walrus_model.specs.Refers.{named_by, function_names, kind_names, local_names, used_locals, written_in}
use Rattle.walrus_model.specs.WellMade.{ImportsMatch, IsWritable, import_in, import_of, kind_import, origin_import, heaps_by, heaps_in, consts_by, consts_in, element_item_heaps, element_kind_consts, element_item_consts}
use Rattle.walrus_theorem.specs.WellMade.{IsWellFormed, IsWellMade}
use Rattle.walrus_theorem.specs.WellMadeLaws.{CollectedWell, LeavesWell}
use Rattle.walrus_base.proofs.Lists.{Contains-none, Contains-head, Contains-tail, Contains-append_1, Contains-append_2}
use Rattle.walrus_theorem.proofs.NoCause.{import_live, well_lives}
use Rattle.walrus_model.proofs.OffsetRules.{rules_carried}
use Rattle.walrus_model.proofs.PipelineCollected.{left_is_kept}
use Rattle.walrus_theorem.proofs.RulesSteps.{collected_taken}
use Rattle.walrus_theorem.proofs.SegmentStep.{segment_taken, the_segment}
use Rattle.walrus_theorem.proofs.StepLeaves.{Between, between, is_segment, nothing_undeclared}
use Rattle.std.proofs.lemmas.Bool.{and_parts as and_both}
use Rattle.walrus_model.proofs.RulesSteps.{kept_named as kept_closed}

-- ---- a body stays well formed where the types that it names stay

module _ (p q : ℕ → Bool) where
  abbrev pub Same : List Item → Type 0
  Same xs = (t : ℕ) → Contains xs (type_item t) → q t ≡ p t

  block_stays : (a : Arg) → Same (arg_names a) → block_holds p a ≡ true → block_holds q a ≡ true
  block_stays (Block (OfType t)) s h = s t (Contains-head (type_item t) []) ∙ h
  block_stays (Block NoResult) s h = h
  block_stays (Block (OneResult v)) s h = h
  block_stays (Index x) s h = h
  block_stays (Access flags memory offset) s h = h
  block_stays (Value v) s h = h
  block_stays (Heap k) s h = h
  block_stays (Label k) s h = h
  block_stays (Local k) s h = h
  block_stays (Number k) s h = h
  block_stays (Count k) s h = h
  block_stays (Byte k) s h = h
  block_stays (S32 k) s h = h
  block_stays (S64 k) s h = h
  block_stays (Bits32 k) s h = h
  block_stays (Bits64 k) s h = h

  args_stay : (args : List Arg) → Same (flat_map arg_names args) → args_hold p args ≡ true → args_hold q args ≡ true
  args_stay [] s h = h
  args_stay (a ∷ args) s h =
      let both = and_both (block_holds p a) (args_hold p args) h in
      both_true
      (block_stays a (λ t at. s t (Contains-append_1 (type_item t) (arg_names a) (flat_map arg_names args) at)) both.0)
      (args_stay args (λ t at. s t (Contains-append_2 (type_item t) (arg_names a) (flat_map arg_names args) at)) both.1)

  pub blocks_stay : (ops : List Op) → Same (names_of ops) → blocks_hold p ops ≡ true → blocks_hold q ops ≡ true
  blocks_stay [] s h = h
  blocks_stay (o ∷ ops) s h =
      let both = and_both (args_hold p o.args) (blocks_hold p ops) h in
      both_true
      (args_stay o.args (λ t at. s t (Contains-append_1 (type_item t) (op_names o) (names_of ops) at)) both.0)
      (blocks_stay ops (λ t at. s t (Contains-append_2 (type_item t) (op_names o) (names_of ops) at)) both.1)

pub reads_in : (names : Lookup) (p q : ℕ → Bool) (f : Features) (locals : ℕ → Option ℕ) (text : List ℕ) (types : List (ValType ℕ)) (ops : List Op) → Same p q (names_of ops) → BodyReads (context names p f) locals text types ops → BodyReads (context names q f) locals text types ops
reads_in names p q f locals text types ops same h = record {
  front = h.front;
  back = h.back;
  parts = h.parts;
  declared = h.declared;
  declares = h.declares;
  typed = h.typed;
  operators = record {
    texts = h.operators.texts;
    spelled = h.operators.spelled;
    named = h.operators.named;
    nested = h.operators.nested;
    allowed = h.operators.allowed;
    blocks = blocks_stay p q ops same h.operators.blocks;
  };
}

pub well_formed_in : (c : Config) (v w : Abstract) (ty : ℕ) (b : Body) → w.types ty ≡ v.types ty → ((t : ℕ) → Contains (names_of b.operators) (type_item t) → w.types t ≡ v.types t) → IsWellFormed c v ty b → IsWellFormed c w ty b
well_formed_in c v w ty b same named h = record {
  function_type = (h.function_type.0, same ∙ h.function_type.1, h.function_type.2);
  distinct = h.distinct;
  typed = h.typed ∙ ap (λ (o : Option TypeDef). map Some (params_of o)) (sym same);
  names = h.names;
  further = h.further;
  types = h.types;
  further_typed = h.further_typed;
  text = h.text;
  read = reads_in h.names (λ t. is_function_def (v.types t)) (λ t. is_function_def (w.types t)) (features_of c) (slice_get (b.parameters ++ h.further)) h.text h.types b.operators (λ t at. ap is_function_def (named t at)) h.read;
}

-- ---- what is written for an item that isn't there

heap_there : {X : Type 0} (get : X → List (HeapType ℕ)) (o : Option X) (h : HeapType ℕ) → Contains (heaps_by get o) h → IsSome o
heap_there get (Some x) h at = refl
heap_there get None h at = absurd (Contains-none h at)

heaps_live : (m : Abstract) (x : Item) (h : HeapType ℕ) → Contains (heaps_in m x) h → IsLive m x
heaps_live m (Types, i) h at = heap_there _ (m.types i) h at
heaps_live m (Functions, i) h at = heap_there _ (m.functions i) h at
heaps_live m (Tables, i) h at = heap_there _ (m.tables i) h at
heaps_live m (Globals, i) h at = heap_there _ (m.globals i) h at
heaps_live m (Elements, i) h at = heap_there _ (m.elements i) h at
heaps_live m (Memories, i) h at = absurd (Contains-none h at)
heaps_live m (Tags, i) h at = absurd (Contains-none h at)
heaps_live m (DataSegments, i) h at = absurd (Contains-none h at)

const_there : {X : Type 0} (get : X → List (List Op)) (o : Option X) (ops : List Op) → Contains (consts_by get o) ops → IsSome o
const_there get (Some x) h at = refl
const_there get None h at = absurd (Contains-none h at)

consts_live : (m : Abstract) (x : Item) (ops : List Op) → Contains (consts_in m x) ops → IsLive m x
consts_live m (Tables, i) h at = const_there _ (m.tables i) h at
consts_live m (Globals, i) h at = const_there _ (m.globals i) h at
consts_live m (Elements, i) h at = const_there _ (m.elements i) h at
consts_live m (DataSegments, i) h at = const_there _ (m.data_segments i) h at
consts_live m (Types, i) h at = absurd (Contains-none h at)
consts_live m (Functions, i) h at = absurd (Contains-none h at)
consts_live m (Memories, i) h at = absurd (Contains-none h at)
consts_live m (Tags, i) h at = absurd (Contains-none h at)

-- ---- gc

module _ (v w : Abstract) (c : Collected v w) where
  import_kept : (x : Item) → Kept v x → import_of w x ≡ import_of v x
  import_kept (Functions, i) k = ap (import_in (λ f. kind_import f.kind)) (c.functions.kept i k)
  import_kept (Tables, i) k = ap (import_in (λ t. origin_import t.origin)) (c.tables.kept i k)
  import_kept (Memories, i) k = ap (import_in (λ t. origin_import t.origin)) (c.memories.kept i k)
  import_kept (Tags, i) k = ap (import_in (λ t. origin_import t.origin)) (c.tags.kept i k)
  import_kept (Globals, i) k = ap (import_in (λ t. origin_import t.origin)) (c.globals.kept i k)
  import_kept (Types, i) k = refl
  import_kept (Elements, i) k = refl
  import_kept (DataSegments, i) k = refl

  heaps_kept : (x : Item) → Kept v x → heaps_in w x ≡ heaps_in v x
  heaps_kept (Types, i) k = ap (heaps_by _) (c.types.kept i k)
  heaps_kept (Functions, i) k = ap (heaps_by _) (c.functions.kept i k)
  heaps_kept (Tables, i) k = ap (heaps_by _) (c.tables.kept i k)
  heaps_kept (Globals, i) k = ap (heaps_by _) (c.globals.kept i k)
  heaps_kept (Elements, i) k = ap (heaps_by _) (c.elements.kept i k)
  heaps_kept (Memories, i) k = refl
  heaps_kept (Tags, i) k = refl
  heaps_kept (DataSegments, i) k = refl

  consts_kept : (x : Item) → Kept v x → consts_in w x ≡ consts_in v x
  consts_kept (Tables, i) k = ap (consts_by _) (c.tables.kept i k)
  consts_kept (Globals, i) k = ap (consts_by _) (c.globals.kept i k)
  consts_kept (Elements, i) k = ap (consts_by _) (c.elements.kept i k)
  consts_kept (DataSegments, i) k = ap (consts_by _) (c.data_segments.kept i k)
  consts_kept (Types, i) k = refl
  consts_kept (Functions, i) k = refl
  consts_kept (Memories, i) k = refl
  consts_kept (Tags, i) k = refl

  imports_kept : ImportsMatch v → ImportsMatch w
  imports_kept match = record {
    items = λ x i e.
        let k = left_is_kept v w c x (import_live w x i e) in
        let found = match.items x i (sym (import_kept x k) ∙ e) in
        (found.0, c.imports.kept i (found.0, found.1, subst (Kept v) (sym found.2) k) ∙ found.1, found.2);
    imports = λ i y e.
        let left = c.imports.left i y e in
        let same : Some left.0.0 ≡ Some y = sym left.0.1 ∙ left.1 in
        let is : left.0.0 ≡ y = cc in
        import_kept y.item (subst (λ (z : Import). Kept v z.item) is left.0.2) ∙ match.imports i y left.1;
  }

  writable_kept : IsWritable v → IsWritable w
  writable_kept fine = record {
    heaps = λ x h at. fine.heaps x h (subst (λ l. Contains l h) (heaps_kept x (left_is_kept v w c x (heaps_live w x h at))) at);
    const_heaps = λ x ops h at has. fine.const_heaps x ops h (subst (λ l. Contains l ops) (consts_kept x (left_is_kept v w c x (consts_live w x ops at))) at) has;
    consts = λ x ops at. fine.consts x ops (subst (λ l. Contains l ops) (consts_kept x (left_is_kept v w c x (consts_live w x ops at))) at);
    initialised = λ i f at. fine.initialised i f (c.functions.left i f at).1;
  }

  body_stays : (f : ℕ) (b : Body) (o : Option Function) → w.functions f ≡ o → body_of_function o ≡ Some b → body_of v f ≡ Some b
  body_stays f b None at e = absurd (cc)
  body_stays f b (Some g) at e = ap body_of_function (c.functions.left f g at).1 ∙ e

pub function_has : (m : Abstract) (i : ℕ) (f : Function) (b : Body) (y : Item) → m.functions i ≡ Some f → f.kind ≡ LocalFunction b → Contains (names_of b.operators) y → Contains (written_in m (Functions, i)) y
function_has m i f b y at is has =
    let in_body : Contains (kind_names (LocalFunction b)) y = Contains-append_1 y (names_of b.operators) (flat_map (local_names b) (used_locals b)) has in
    subst (λ (o : Option Function). Contains (named_by function_names o) y) (sym at)
    (Contains-tail (type_item f.ty) y (kind_names f.kind) (subst (λ (k : FunctionKind). Contains (kind_names k) y) (sym is) in_body))

has_type : (m : Abstract) (i : ℕ) (f : Function) → m.functions i ≡ Some f → Contains (written_in m (Functions, i)) (type_item f.ty)
has_type m i f at = subst (λ (o : Option Function). Contains (named_by function_names o) (type_item f.ty)) (sym at) (Contains-head (type_item f.ty) (kind_names f.kind))

pub collected_well : CollectedWell
collected_well config v w made live c = record {
  imports = imports_kept v w c made.imports;
  writable = writable_kept v w c made.writable;
  bodies = λ i f b at is.
      let left = c.functions.left i f at in
      well_formed_in config v w f.ty b
      (c.types.kept f.ty (kept_closed v (Functions, i) (type_item f.ty) left.0 (has_type v i f left.1)))
      (λ t has. c.types.kept t (kept_closed v (Functions, i) (type_item t) left.0 (function_has v i f b (type_item t) left.1 is has)))
      (made.bodies i f b left.1 is);
  rules = rules_carried (collected_taken v w c live (λ i f at un. made.writable.initialised i f at un)) (λ f b at. made.rules.locals f b (body_stays v w c f b (w.functions f) refl at)) made.rules;
  customs = λ s at. made.customs s (subst (λ l. Contains l s) c.customs at);
  counted = λ f b at. made.counted f b (body_stays v w c f b (w.functions f) refl at);
}

-- ---- the declared segment

module _ (c : Config) (w : Abstract) (fs : List ℕ) (are : AreUndeclared (IsLive w) w fs) (made : IsWellMade c w) (elements : ℕ → Option Element) (b : Between w (record w { elements = elements }) fs) where
  abbrev u : Abstract
  u = record w { elements = elements }

  import_same : (x : Item) → import_of u x ≡ import_of w x
  import_same (Functions, i) = refl
  import_same (Tables, i) = refl
  import_same (Memories, i) = refl
  import_same (Tags, i) = refl
  import_same (Globals, i) = refl
  import_same (Types, i) = refl
  import_same (Elements, i) = refl
  import_same (DataSegments, i) = refl

  heaps_same : (x : Item) (h : HeapType ℕ) → Contains (heaps_in u x) h → Contains (heaps_in w x) h
  heaps_same (Elements, i) h at = ⊎_elim
      (λ here. absurd (Contains-none h (subst (λ (o : Option Element). Contains (heaps_by (λ e. element_item_heaps e.items) o) h) (the_segment w elements fs b are i here) at)))
      (λ other. subst (λ (o : Option Element). Contains (heaps_by (λ e. element_item_heaps e.items) o) h) (b.others i other) at)
      (is_segment b.segment i)
  heaps_same (Types, i) h at = at
  heaps_same (Functions, i) h at = at
  heaps_same (Tables, i) h at = at
  heaps_same (Globals, i) h at = at
  heaps_same (Memories, i) h at = at
  heaps_same (Tags, i) h at = at
  heaps_same (DataSegments, i) h at = at

  consts_same : (x : Item) (ops : List Op) → Contains (consts_in u x) ops → Contains (consts_in w x) ops
  consts_same (Elements, i) ops at = ⊎_elim
      (λ here. absurd (Contains-none ops (subst (λ (o : Option Element). Contains (consts_by (λ e. element_kind_consts e.kind ++ element_item_consts e.items) o) ops) (the_segment w elements fs b are i here) at)))
      (λ other. subst (λ (o : Option Element). Contains (consts_by (λ e. element_kind_consts e.kind ++ element_item_consts e.items) o) ops) (b.others i other) at)
      (is_segment b.segment i)
  consts_same (Types, i) ops at = at
  consts_same (Functions, i) ops at = at
  consts_same (Tables, i) ops at = at
  consts_same (Globals, i) ops at = at
  consts_same (Memories, i) ops at = at
  consts_same (Tags, i) ops at = at
  consts_same (DataSegments, i) ops at = at

  segment_well : IsWellMade c u
  segment_well =
      let lives = well_lives c w made in
      record {
        imports = record {
          items = λ x i e. made.imports.items x i (sym (import_same x) ∙ e);
          imports = λ i y e. import_same y.item ∙ made.imports.imports i y e;
        };
        writable = record {
          heaps = λ x h at. made.writable.heaps x h (heaps_same x h at);
          const_heaps = λ x ops h at has. made.writable.const_heaps x ops h (consts_same x ops at) has;
          consts = λ x ops at. made.writable.consts x ops (consts_same x ops at);
          initialised = made.writable.initialised;
        };
        bodies = λ i f body at is. well_formed_in c w u f.ty body refl (λ t has. refl) (made.bodies i f body at is);
        rules = rules_carried (segment_taken w elements fs b are made.rules.indices lives.made lives.imports) made.rules.locals made.rules;
        customs = made.customs;
        counted = made.counted;
      }

  both : IsWellMade c u × NothingUndeclared u
  both = (segment_well, nothing_undeclared w elements fs b are)

pub leaves_well : LeavesWell
leaves_well c w u made leaves =
    let b = between w u leaves in
    subst (λ x. IsWellMade c x × NothingUndeclared x) (sym b.same) (both c w leaves.functions leaves.undeclared made u.elements (subst (λ (x : Abstract). Between w x leaves.functions) b.same b))
