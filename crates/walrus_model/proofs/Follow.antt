-- What is written in an item follows the renaming.
use Rattle.std.proofs.Common.{◌≡◌, ℕ, List, ◌∷◌, map, refl, sym, ap, ap₂, ◌∙◌}
use Rattle.std.specs.Prelude.{flat_map, Option, Some, None, option_map, Contains}
use Rattle.walrus_base.specs.Types.{ValType, val_names, heap_names, map_val, map_heap, sub_names}
use Rattle.walrus_base.specs.Operators.{Types, Functions, Tables, Memories, Tags, Globals, Elements, DataSegments, Item, type_item, function_item, names_of, locals_of}
use Rattle.walrus_model.specs.Abstract.{Abstract, TypeDef, Body, FunctionKind, ImportedFunction, LocalFunction, Uninitialised, Function, Table, Global, ElementKind, PassiveElements, DeclaredElements, ActiveElements, ElementItems, ListedFunctions, Expressions, Element, DataKind, PassiveData, ActiveData}
use Rattle.walrus_model.specs.Refers.{named_by, used_locals, local_names, body_names, kind_names, type_names, function_names, table_names, memory_names, tag_names, global_names, element_kind_names, element_item_names, element_names, data_kind_names, data_names}
use Rattle.walrus_model.specs.Renaming.{Renaming, renamed, renamed_table, renamed_global, renamed_const, renamed_element_kind, renamed_element_items, renamed_element, renamed_data_kind, renamed_data}
use Rattle.walrus_model.specs.Same.{SameType, SameBody, SameKind, SameFunction, BothAnd}
use Rattle.walrus_model.specs.Carried.{Carried}
use Rattle.walrus_model.specs.Laws.{NamesFollow}
use Rattle.walrus_base.proofs.Lists.{map-map, flat_map-follows, append-follows}
use Rattle.walrus_base.proofs.TypeMaps.{sub-names}
use Rattle.walrus_model.proofs.OpsFollow.{type_items, heap_items, val_items, ops_follow, ops_locals_follow, const_follows, consts_follow, initialiser_follows}
use Rattle.walrus_model.proofs.Seen.{same_sub}

-- the locals that a body uses, under the map of locals
pub used_follow : (r : Renaming) (i : ℕ) (a b : Body) → SameBody r i a b → used_locals b ≡ map (r.locals i) (used_locals a)
used_follow r i a b s = ap locals_of s.operators ∙ ops_locals_follow r (r.locals i) a.operators

module _ (r : Renaming) where
  type_follows : (i : ℕ) (x y : TypeDef) → SameType (r.numbers Types) i x y → type_names y ≡ map (renamed r) (type_names x)
  type_follows i x y s =
      append-follows (renamed r) (map type_item x.group) (map type_item (sub_names x.sub)) (map type_item y.group) (map type_item (sub_names y.sub))
      (type_items r x.group y.group s.group)
      (type_items r (sub_names x.sub) (sub_names y.sub) (ap sub_names (same_sub (r.numbers Types) i x y s) ∙ sub-names (r.numbers Types) x.sub))

  local_type_follows : (o : Option (ValType ℕ)) → named_by (λ v. map type_item (val_names v)) (option_map (map_val (r.numbers Types)) o) ≡ map (renamed r) (named_by (λ v. map type_item (val_names v)) o)
  local_type_follows None = refl
  local_type_follows (Some v) = val_items r v

  local_follows : (i : ℕ) (a b : Body) → SameBody r i a b → (x : ℕ) → Contains (used_locals a) x → local_names b (r.locals i x) ≡ map (renamed r) (local_names a x)
  local_follows i a b s x at = ap (named_by (λ v. map type_item (val_names v))) (s.types x at) ∙ local_type_follows (a.local_type x)

  body_follows : (i : ℕ) (a b : Body) → SameBody r i a b → body_names b ≡ map (renamed r) (body_names a)
  body_follows i a b s =
      append-follows (renamed r) (names_of a.operators) (flat_map (local_names a) (used_locals a)) (names_of b.operators) (flat_map (local_names b) (used_locals b))
      (ap names_of s.operators ∙ ops_follow r (r.locals i) a.operators)
      (ap (flat_map (local_names b)) (used_follow r i a b s) ∙ flat_map-follows (local_names b) (local_names a) (r.locals i) (renamed r) (used_locals a) (local_follows i a b s))

  kind_follows : (i : ℕ) (a b : FunctionKind) → SameKind r i a b → kind_names b ≡ map (renamed r) (kind_names a)
  kind_follows i (ImportedFunction p) (ImportedFunction q) s = refl
  kind_follows i (ImportedFunction p) (LocalFunction b) s = absurd s
  kind_follows i (ImportedFunction p) Uninitialised s = absurd s
  kind_follows i (LocalFunction a) (LocalFunction b) s = body_follows i a b s
  kind_follows i (LocalFunction a) (ImportedFunction q) s = absurd s
  kind_follows i (LocalFunction a) Uninitialised s = absurd s
  kind_follows i Uninitialised b s = absurd s

  function_follows : (i : ℕ) (f g : Function) → SameFunction r i f g → function_names g ≡ map (renamed r) (function_names f)
  function_follows i f g s = ap₂ (λ t names. type_item t ∷ names) s.ty (kind_follows i f.kind g.kind s.kind)

  table_follows : (t : Table) → table_names (renamed_table r t) ≡ map (renamed r) (table_names t)
  table_follows t =
      append-follows (renamed r) (map type_item (heap_names t.ty.element.heap)) (named_by names_of t.initialiser) (map type_item (heap_names (renamed_table r t).ty.element.heap)) (named_by names_of (renamed_table r t).initialiser)
      (heap_items r t.ty.element.heap) (initialiser_follows r t.initialiser)

  global_follows : (g : Global) → global_names (renamed_global r g) ≡ map (renamed r) (global_names g)
  global_follows g =
      append-follows (renamed r) (map type_item (val_names g.ty.value)) (named_by names_of g.initialiser) (map type_item (val_names (renamed_global r g).ty.value)) (named_by names_of (renamed_global r g).initialiser)
      (val_items r g.ty.value) (initialiser_follows r g.initialiser)

  element_kind_follows : (k : ElementKind) → element_kind_names (renamed_element_kind r k) ≡ map (renamed r) (element_kind_names k)
  element_kind_follows PassiveElements = refl
  element_kind_follows DeclaredElements = refl
  element_kind_follows (ActiveElements table offset) = ap (λ l. (Tables, r.numbers Tables table) ∷ l) (const_follows r offset)

  element_items_follow : (x : ElementItems) → element_item_names (renamed_element_items r x) ≡ map (renamed r) (element_item_names x)
  element_items_follow (ListedFunctions fs) = map-map function_item (r.numbers Functions) fs ∙ sym (map-map (renamed r) function_item fs)
  element_items_follow (Expressions ty es) =
      append-follows (renamed r) (map type_item (heap_names ty.heap)) (flat_map names_of es) (map type_item (heap_names (map_heap (r.numbers Types) ty.heap))) (flat_map names_of (map (renamed_const r) es))
      (heap_items r ty.heap) (consts_follow r es)

  element_follows : (e : Element) → element_names (renamed_element r e) ≡ map (renamed r) (element_names e)
  element_follows e =
      append-follows (renamed r) (element_kind_names e.kind) (element_item_names e.items) (element_kind_names (renamed_element_kind r e.kind)) (element_item_names (renamed_element_items r e.items))
      (element_kind_follows e.kind) (element_items_follow e.items)

  data_follows : (d : DataKind) → data_kind_names (renamed_data_kind r d) ≡ map (renamed r) (data_kind_names d)
  data_follows PassiveData = refl
  data_follows (ActiveData memory offset) = ap (λ l. (Memories, r.numbers Memories memory) ∷ l) (const_follows r offset)

-- what stands at the new number names what stood at the old one, renamed
follows : {X : Type 0} (h : Item → Item) (names : X → List Item) (S : X → X → Type 0) → ((x y : X) → S x y → names y ≡ map h (names x)) → (a b : Option X) → BothAnd S a b → named_by names b ≡ map h (named_by names a)
follows h names S law (Some x) (Some y) s = law x y s
follows h names S law (Some x) None s = absurd s
follows h names S law None b s = absurd s

-- where S says that the new one is the old one put through f
follows_made : {X : Type 0} (h : Item → Item) (names : X → List Item) (f : X → X) → ((x : X) → names (f x) ≡ map h (names x)) → (a b : Option X) → BothAnd (λ x y. y ≡ f x) a b → named_by names b ≡ map h (named_by names a)
follows_made h names f law a b s = follows h names (λ x y. y ≡ f x) (λ x y e. ap names e ∙ law x) a b s

pub names_follow_lem : (K A : Item → Type 0) (r : Renaming) (m n : Abstract) → Carried K A r m n → NamesFollow K r m n
names_follow_lem K A r m n c Types i k = follows (renamed r) type_names (SameType (r.numbers Types) i) (type_follows r i) (m.types i) (n.types (r.numbers Types i)) (c.types.same i k)
names_follow_lem K A r m n c Functions i k = follows (renamed r) function_names (SameFunction r i) (function_follows r i) (m.functions i) (n.functions (r.numbers Functions i)) (c.functions.same i k)
names_follow_lem K A r m n c Tables i k = follows_made (renamed r) table_names (renamed_table r) (table_follows r) (m.tables i) (n.tables (r.numbers Tables i)) (c.tables.same i k)
names_follow_lem K A r m n c Memories i k = follows (renamed r) memory_names _ (λ x y s. refl) (m.memories i) (n.memories (r.numbers Memories i)) (c.memories.same i k)
names_follow_lem K A r m n c Tags i k = follows (renamed r) tag_names _ (λ x y s. ap tag_names s) (m.tags i) (n.tags (r.numbers Tags i)) (c.tags.same i k)
names_follow_lem K A r m n c Globals i k = follows_made (renamed r) global_names (renamed_global r) (global_follows r) (m.globals i) (n.globals (r.numbers Globals i)) (c.globals.same i k)
names_follow_lem K A r m n c Elements i k = follows_made (renamed r) element_names (renamed_element r) (element_follows r) (m.elements i) (n.elements (r.numbers Elements i)) (c.elements.same i k)
names_follow_lem K A r m n c DataSegments i k = follows_made (renamed r) data_names (renamed_data r) (λ d. data_follows r d.kind) (m.data_segments i) (n.data_segments (r.numbers DataSegments i)) (c.data_segments.same i k)
