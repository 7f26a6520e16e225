-- Where all that is written in items has an index, so has all that imported items name.
use Rattle.std.proofs.Common.{◌≡◌, ℕ, List, [], refl, sym, subst, Some, None}
use Rattle.std.specs.Prelude.{Option, IsSome, Contains, option_map}
use Rattle.std.proofs.lemmas.List.{append-nil}
use Rattle.wasm_forms.specs.Reading.{◌>>=◌}
use Rattle.walrus_base.specs.Types.{HeapType, OfHeap, Concrete, Exact, RefType, ValType, I32, I64, F32, F64, V128, Ref, heap_names, val_names}
use Rattle.walrus_base.specs.Operators.{Space, Types, Functions, Tables, Memories, Tags, Globals, Elements, DataSegments, Item, names_of, type_item}
use Rattle.walrus_code.specs.Names.{Lookup, named_heap, named_val}
use Rattle.walrus_constants.specs.Named.{named_ref}
use Rattle.walrus_model.specs.Abstract.{Abstract, Function, Global, Import, ImportedBy, ImportedFunction, Table, Tag}
use Rattle.walrus_model.specs.Dead.{HasDead, DeadName}
use Rattle.walrus_model.specs.Live.{IsLive}
use Rattle.walrus_model.specs.Plan.{AreNumbered, IsPlan, Plan}
use Rattle.walrus_model.specs.Refers.{function_names, global_names, kind_names, named_by, table_names, tag_names, written_in}
use Rattle.walrus_model.specs.Spaces.{Thing, look}
use Rattle.walrus_model.proofs.Indices.{planned_named}
use Rattle.walrus_base.proofs.Lists.{Contains-append_1, Contains-head, Contains-map}
use Rattle.walrus_base.proofs.Standing.{some_inj}
use Rattle.walrus_base.specs.Arena.{item_at}
use Rattle.walrus_items.specs.Kinds.{imported}
use Rattle.walrus_items.specs.Imports.{ImportValue, imports}
use Rattle.walrus_items.specs.declared.kinds.ImportKind.{ImportKind}
use Rattle.walrus_items.specs.declared.kinds.ImportKind.TheVariants as kinds
use Rattle.walrus_contents.specs.View.{import_of, parts_view}
use Rattle.walrus_contents.specs.declared.parts.Parts.{Parts}
use Rattle.walrus_writing.specs.Imported.{ImportsIndexed, as_brought, named_thing}
use Rattle.walrus_model.proofs.KeptFollow.{not_none as some_none}
use Rattle.walrus_model.proofs.Living.{living as live_stable}

then_there : {A B : Type 0} (o : Option A) (f : A → B) → IsSome o → IsSome (o >>= λ y. Some (f y))
then_there (Some y) f h = refl
then_there None f h = h

map_there : {A B : Type 0} (o : Option A) (f : A → B) → IsSome o → IsSome (option_map f o)
map_there (Some y) f h = refl
map_there None f h = h

-- an import can name an item of the space
abbrev IsImportable : Space → Type 0
IsImportable s = (s ≡ Types → ⊥) × (s ≡ Elements → ⊥) × (s ≡ DataSegments → ⊥)

-- all that is written in items has an index
abbrev pub WrittenIndexed : Lookup → Abstract → Type 0
WrittenIndexed names v = (x y : Item) → Contains (written_in v x) y → IsSome (names y.0 y.1)

-- it has where no name is dead, and the indices are those of a plan
pub written_indexed : (names : Lookup) (plan : Plan) (v : Abstract) → AreNumbered names plan → IsPlan v plan → (HasDead v → ⊥) → WrittenIndexed names v
written_indexed names plan v numbered is_plan there x y at =
    let live : IsLive v y = live_stable v y (λ dead. there (DeadName x y at dead)) in
    subst (λ (o : Option ℕ). IsSome o) (sym (planned_named numbered is_plan y.0 y.1 live)) refl

module _ (names : Lookup) where
  abbrev TypesIndexed : List ℕ → Type 0
  TypesIndexed ts = (t : ℕ) → Contains ts t → IsSome (names Types t)

  heap_indexed : (h : HeapType ℕ) → TypesIndexed (heap_names h) → IsSome (named_heap names h)
  heap_indexed (OfHeap h) all = refl
  heap_indexed (Concrete t) all = then_there (names Types t) (λ k. Concrete k) (all t (Contains-head t []))
  heap_indexed (Exact t) all = then_there (names Types t) (λ k. Exact k) (all t (Contains-head t []))

  ref_indexed : (r : RefType ℕ) → TypesIndexed (heap_names r.heap) → IsSome (named_ref names r)
  ref_indexed r all = then_there (named_heap names r.heap) (λ heap. let made : RefType ℕ = record { nullable = r.nullable; heap = heap } in made) (heap_indexed r.heap all)

  val_indexed : (w : ValType ℕ) → TypesIndexed (val_names w) → IsSome (named_val names w)
  val_indexed (Ref r) all = then_there (named_heap names r.heap) (λ heap. Ref (record { nullable = r.nullable; heap = heap }))
      (heap_indexed r.heap (λ t at. all t (subst (λ (ts : List ℕ). Contains ts t) (sym (append-nil (heap_names r.heap))) at)))
  val_indexed I32 all = refl
  val_indexed I64 all = refl
  val_indexed F32 all = refl
  val_indexed F64 all = refl
  val_indexed V128 all = refl

  module _ (v : Abstract) (all : WrittenIndexed names v) where
    -- what is written in a thing is written in its item
    written_at : {X : Type 0} (what : X → List Item) (o : Option X) (x : X) → o ≡ Some x → (y : Item) → Contains (what x) y → Contains (named_by what o) y
    written_at {X} what o x at y c = subst (λ (p : Option X). Contains (named_by what p) y) (sym at) c

    thing_indexed : (s : Space) (i : ℕ) (x : Thing s) → look v s i ≡ Some x → named_thing names s (as_brought s 0 x) ≡ None → IsImportable s → ⊥
    thing_indexed Functions i f at none other =
        some_none (option_map (λ ty. let g : Function = record { ty = ty; kind = ImportedFunction 0 } in g) (names Types f.ty))
        (map_there (names Types f.ty) (λ ty. let g : Function = record { ty = ty; kind = ImportedFunction 0 } in g)
        (all (Functions, i) (Types, f.ty) (written_at function_names (v.functions i) f at (Types, f.ty) (Contains-head (Types, f.ty) (kind_names f.kind))))) none
    thing_indexed Tags i t at none other =
        some_none (option_map (λ ty. let g : Tag = record { origin = ImportedBy 0; ty = ty } in g) (names Types t.ty))
        (map_there (names Types t.ty) (λ ty. let g : Tag = record { origin = ImportedBy 0; ty = ty } in g)
        (all (Tags, i) (Types, t.ty) (written_at tag_names (v.tags i) t at (Types, t.ty) (Contains-head (Types, t.ty) [])))) none
    thing_indexed Memories i m at none other = some_none (Some (as_brought Memories 0 m)) refl none
    thing_indexed Tables i t at none other =
        some_none (named_ref names t.ty.element >>= λ e. Some (let made : Table = record { origin = ImportedBy 0; ty = record { limits = t.ty.limits; element = e }; initialiser = None } in made))
        (then_there (named_ref names t.ty.element) (λ e. let made : Table = record { origin = ImportedBy 0; ty = record { limits = t.ty.limits; element = e }; initialiser = None } in made)
        (ref_indexed t.ty.element (λ u c. all (Tables, i) (Types, u) (written_at table_names (v.tables i) t at (Types, u)
        (Contains-append_1 (Types, u) _ (named_by names_of t.initialiser) (Contains-map type_item u (heap_names t.ty.element.heap) c)))))) none
    thing_indexed Globals i g at none other =
        some_none (named_val names g.ty.value >>= λ e. Some (let made : Global = record { origin = ImportedBy 0; ty = record { value = e; mutable = g.ty.mutable; shared = g.ty.shared }; initialiser = None } in made))
        (then_there (named_val names g.ty.value) (λ e. let made : Global = record { origin = ImportedBy 0; ty = record { value = e; mutable = g.ty.mutable; shared = g.ty.shared }; initialiser = None } in made)
        (val_indexed g.ty.value (λ u c. all (Globals, i) (Types, u) (written_at global_names (v.globals i) g at (Types, u)
        (Contains-append_1 (Types, u) _ (named_by names_of g.initialiser) (Contains-map type_item u (val_names g.ty.value) c)))))) none
    thing_indexed Types i x at none other = other.0 refl
    thing_indexed Elements i x at none other = other.1 refl
    thing_indexed DataSegments i x at none other = other.2 refl

-- ---- the imports of the parts, which name neither types nor segments

kind_importable : (k : ImportKind) → IsImportable (imported k).0
kind_importable (kinds.Function f) = (λ e. cc, λ e. cc, λ e. cc)
kind_importable (kinds.Table t) = (λ e. cc, λ e. cc, λ e. cc)
kind_importable (kinds.Memory m) = (λ e. cc, λ e. cc, λ e. cc)
kind_importable (kinds.Global g) = (λ e. cc, λ e. cc, λ e. cc)
kind_importable (kinds.Tag t) = (λ e. cc, λ e. cc, λ e. cc)

importable : (o : Option ImportValue) (x : Import) → option_map import_of o ≡ Some x → IsImportable x.item.0
importable (Some e) x at = subst (λ (y : Import). IsImportable y.item.0) (some_inj (import_of e) x at) (kind_importable e.kind)
importable None x at = absurd (cc)

pub imports_indexed : (names : Lookup) (p : Parts) → WrittenIndexed names (parts_view p) → ImportsIndexed names (parts_view p)
imports_indexed names p all i x at lacks =
    thing_indexed names (parts_view p) all x.item.0 x.item.1 lacks.0 lacks.1 (lacks.2 0) (importable (item_at (imports p.imports.now) i) x at)
