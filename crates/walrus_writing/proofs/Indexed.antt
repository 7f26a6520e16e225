-- Where all that is named is there, and each function has a body, all that is written has an index.
use Rattle.wasm_entries.specs.Record as entries
use Rattle.wasm_entries.specs.declared.record.RawExportKind.TheVariants as kinds
use Rattle.std.proofs.Common.{inl, inr, ◌≡◌, ℕ, suc, ◌<◌, Bool, true, false, ⊎_elim, List, [], ◌∷◌, ◌++◌, map, length, get_or, refl, sym, ap, ◌∙◌, subst, arith, Some, None}
use Rattle.std.specs.Prelude.{Option, IsSome, All, Err, Contains, flat_map, option_map, option_and_then, ◌==◌, if◌then◌else◌}
use Rattle.std.proofs.lemmas.List.{get_or-map, length-map}
use Rattle.std.proofs.lemmas.List.Elements.{All-cons, All-contains_itself}
use Rattle.walrus_base.specs.Arena.{item_at, items}
use Rattle.walrus_base.specs.Id.{place}
use Rattle.walrus_base.specs.Types.{ValType, val_names, sub_names}
use Rattle.walrus_base.specs.declared.id.Id.{Id}
use Rattle.walrus_base.specs.declared.keys.FunctionKey.{FunctionKey}
use Rattle.walrus_items.specs.Function.{function_type, body_of, args_of}
use Rattle.walrus_code.specs.Names.{Lookup, named_val, named_ops}
use Rattle.walrus_code.specs.declared.error.IrError.{IrError}
use Rattle.walrus_code.specs.declared.error.IrError.TheVariants as Ir
use Rattle.walrus_items.specs.LocalFunction.{LocalFunction}
use Rattle.walrus_base.specs.Operators.{Item, Types, Functions, Tables, Memories, Globals, Tags, Elements, DataSegments, Op, type_item, names_of, locals_of}
use Rattle.walrus_base.specs.Shape.{place_in}
use Rattle.walrus_bodies.specs.declared.features.Features.{Features}
use Rattle.walrus_functions.specs.DeclaredLocals.{AreDeclared}
use Rattle.walrus_functions.specs.EmittedBody.{EmitsBody, LacksAnIndex, index_in}
use Rattle.walrus_items.specs.Kinds.{exported}
use Rattle.walrus_items.specs.Exports.{ExportValue, exports}
use Rattle.walrus_items.specs.FunctionKinds.{kind_type}
use Rattle.walrus_items.specs.Functions.{FunctionValue, functions, local_at}
use Rattle.walrus_items.specs.declared.kinds.ExportItem.{ExportItem}
use Rattle.walrus_items.specs.declared.kinds.ExportItem.TheVariants as exports_as
use Rattle.walrus_constants.specs.Named.{named_global, named_table}
use Rattle.walrus_constants.specs.Segments.{named_data, named_element}
use Rattle.walrus_constants.proofs.SegmentsNamed.{data_named, element_named}
use Rattle.walrus_items.specs.Data.{DataValue, data_segments}
use Rattle.walrus_items.specs.Elements.{ElementValue, elements}
use Rattle.walrus_items.specs.Globals.{GlobalValue, globals}
use Rattle.walrus_items.specs.Tables.{TableValue, tables}
use Rattle.walrus_items.specs.Tags.{TagValue, tags}
use Rattle.walrus_base.specs.ModuleTypes.{type_slots}
use Rattle.walrus_base.specs.TypeDef.{TypeDef}
use Rattle.walrus_model.specs.Abstract as abstract
use Rattle.walrus_model.specs.Abstract.{Abstract}
use Rattle.walrus_model.specs.Dead.{HasDead}
use Rattle.walrus_model.specs.Live.{IsLive}
use Rattle.walrus_model.specs.Names.{body_of_function}
use Rattle.walrus_model.specs.Refers.{named_by, type_names, function_names, local_names, table_names, tag_names, global_names, element_names, data_names}
use Rattle.walrus_contents.specs.There.{AreLive}
use Rattle.walrus_contents.specs.View.{body, data_of, element_of, export_of, function, global_of, kind_of, parts_view, table_of, tag_of}
use Rattle.walrus_contents.specs.declared.parts.Parts.{Parts}
use Rattle.walrus_base.proofs.Lookups.{still_some}
use Rattle.walrus_model.proofs.Slots.{item_seen}
use Rattle.walrus_items.specs.declared.function_kind.FunctionKind.{FunctionKind}
use Rattle.walrus_items.specs.declared.function_kind.FunctionKind.TheVariants as kind
use Rattle.walrus_groups.specs.Indexed.{LacksAnIndex as TypesLackAnIndex}
use Rattle.walrus_items.specs.Errors.{error_of_ir}
use Rattle.walrus_model.proofs.Indices.{planned_named}
use Rattle.walrus_model.proofs.TypeRules.{Contains-flat_map}
use Rattle.walrus_model.proofs.Living.{AllLive, all_live}
use Rattle.walrus_base.proofs.Lists.{Contains-head, Contains-tail, Contains-map, Contains-uncons, Contains-none, Contains-append_1, Contains-append_2}
use Rattle.walrus_base.proofs.Standing.{none_there, some_inj, some_of, self_eq}
use Rattle.walrus_model.specs.Plan.{AreNumbered, IsPlan, Plan}
use Rattle.walrus_writing.specs.Refusals.{RefusesBodies}
use Rattle.walrus_writing.specs.Parts.{IsIndexed, export_with_index, function_seen, local_in, slots_of, source, source_of, tag_index, type_index, type_index_of}
use Rattle.walrus_plan.specs.Sizes.{IsOrder}
use Rattle.walrus_plan.proofs.BySize.{body_at, body_there, ordered_by_size, own_body}
use Rattle.walrus_constants.proofs.NamedAll.{global_named, val_named, ops_named, table_named}

-- ---- places

placed_step : (b : Bool) (o : Option ℕ) → IsSome o → IsSome (if b then Some 0 else option_map suc o)
placed_step true o h = refl
placed_step false o h = still_some suc o h

contains_placed : (xs : List ℕ) (n : ℕ) → Contains xs n → IsSome (place_in xs n)
contains_placed [] n c = absurd (Contains-none n c)
contains_placed (x ∷ xs) n c =
    ⊎_elim (λ (e : x ≡ n). subst (λ m. IsSome (place_in (x ∷ xs) m)) e (rw (self_eq x) refl))
    (λ (d : Contains xs n). placed_step (x == n) (place_in xs n) (contains_placed xs n d))
    (Contains-uncons x n xs c)

-- ---- the locals of a function

front_step : (b : Bool) (o q : Option ℕ) → (IsSome o → IsSome q) → IsSome (if b then Some 0 else option_map suc o) → IsSome (if b then Some 0 else option_map suc q)
front_step true o q k h = refl
front_step false None q k h = absurd (none_there h)
front_step false (Some n) q k h = still_some suc q (k refl)

placed_front : (xs ys : List ℕ) (x : ℕ) → IsSome (place_in xs x) → IsSome (place_in (xs ++ ys) x)
placed_front [] ys x h = absurd (none_there h)
placed_front (y ∷ xs) ys x h = front_step (y == x) (place_in xs x) (place_in (xs ++ ys) x) (placed_front xs ys x) h

-- a used local that is there is a parameter, or is declared
local_numbered : (slots : List (Option (ValType ℕ))) (used parameters order : List ℕ) → AreDeclared slots used parameters order → (x : ℕ) (v : ValType ℕ) → Contains used x → item_at slots x ≡ Some v
    → (o : Option ℕ) → place_in parameters x ≡ o → IsSome (place_in (parameters ++ order) x)
local_numbered slots used parameters order declared x v c is (Some k) e = placed_front parameters order x (rw e refl)
local_numbered slots used parameters order declared x v c is None e =
    contains_placed (parameters ++ order) x
    (Contains-append_2 x parameters order
    ((declared.which x).1 (record { is_used = c; no_parameter = λ p. none_there (subst (λ (o : Option ℕ). IsSome o) e (contains_placed parameters x p)); ty = v; typed = is })))

-- what is made of each is there
each_there : {X Y : Type 0} (f : X → Option Y) (xs : List X) → ((x : X) → Contains xs x → IsSome (f x)) → All (λ o. IsSome o) (map f xs)
each_there f [] h = λ k d low. absurd (omega (arith, low))
each_there {X} {Y} f (x ∷ xs) h = All-cons (λ (o : Option Y). IsSome o) (f x) (map f xs) (h x (Contains-head x xs)) (each_there f xs (λ y at. h y (Contains-tail x y xs at)))

-- ---- the functions with a body, in the order of their sizes

kind_seen : (p : Parts) (k : FunctionKind) (f : LocalFunction) → own_body k ≡ Some f → (let g : abstract.Function = record { ty = place (kind_type k); kind = kind_of p.locals.now k } in g) ≡ function_seen p f
kind_seen p (kind.Local g) f e = ap (function_seen p) (some_inj g f e)
kind_seen p (kind.Import i) f e = absurd (cc)
kind_seen p (kind.Uninitialized ty) f e = absurd (cc)

value_seen : (p : Parts) (o : Option FunctionValue) (f : LocalFunction) → body_at o ≡ Some f → option_map (function p.locals.now) o ≡ Some (function_seen p f)
value_seen p None f e = absurd (cc)
value_seen p (Some v) f e = ap (λ (g : abstract.Function). Some g) (kind_seen p v.kind f e)

-- a function with a body, as it is seen
pub record HasOwn (p : Parts) (n : ℕ) : Type 0 where
  pub own : LocalFunction
  pub is : (parts_view p).functions n ≡ Some (function_seen p own)

own_at : (p : Parts) (order : List ℕ) → IsOrder (functions p.funcs.now) order → (n : ℕ) → Contains order n → HasOwn p n
own_at p order h n c =
    let funcs = functions p.funcs.now in
    let there : IsSome (body_at (item_at funcs n)) = subst (λ (o : Option LocalFunction). IsSome o) (body_there funcs n) ((ordered_by_size funcs order h).chosen n c) in
    let f = some_of (body_at (item_at funcs n)) there in
    record { own = f.0; is = value_seen p (item_at funcs n) f.0 f.1 }

-- ---- what is there, and numbered

module _ (p : Parts) (none_dead : HasDead (parts_view p) → ⊥) (names : Lookup) (plan : Plan) (is_plan : IsPlan (parts_view p) plan) (numbered : AreNumbered names plan) where
  abbrev V : Abstract
  V = parts_view p

  there : AllLive V
  there = all_live V none_dead

  abbrev types : List (Option TypeDef)
  types = type_slots p.types.now

  abbrev slots : List (Option (ValType ℕ))
  slots = slots_of p

  -- an item that is there has an index
  item_named : (x : Item) → IsLive V x → IsSome (names x.0 x.1)
  item_named x live = subst (λ (o : Option ℕ). IsSome o) (sym (planned_named numbered is_plan x.0 x.1 live)) refl

  -- each type that a type names has an index
  pub no_type_lacks : TypesLackAnIndex names (items types) → ⊥
  no_type_lacks (x, (t, (has, named, none))) =
      let at = item_seen types x has in
      let inside : Contains (type_names x) (Types, t) = Contains-append_2 (Types, t) (map type_item x.group) (map type_item (sub_names x.sub)) (Contains-map type_item t (sub_names x.sub) named) in
      let live : IsLive V (Types, t) = there.written (Types, at.0) (Types, t) (subst (λ (o : Option TypeDef). Contains (named_by type_names o) (Types, t)) (sym at.1) inside) in
      none_there (subst (λ (o : Option ℕ). IsSome o) none (item_named (Types, t) live))

  -- a function's type is there, and so are the items and the locals that its body names, and the types of these
  record IsWhole (f : LocalFunction) : Type 0 where
    typed : IsLive V (Types, place (function_type f))
    named : AreLive V (names_of (body_of f))
    used : (x : ℕ) → Contains (locals_of (body_of f)) x → IsSome (item_at slots x)
    local_types : AreLive V (flat_map (local_names (body p.locals.now f)) (locals_of (body_of f)))

  whole_is : (n : ℕ) (a : HasOwn p n) → IsWhole a.own
  whole_is n a =
      let first = type_item (place (function_type a.own)) in
      let inner = names_of (body_of a.own) in
      let outer = flat_map (local_names (body p.locals.now a.own)) (locals_of (body_of a.own)) in
      let live : (y : Item) → Contains (first ∷ inner ++ outer) y → IsLive V y = (λ y c. there.written (Functions, n) y (subst (λ (o : Option abstract.Function). Contains (named_by function_names o) y) (sym a.is) c)) in
      record {
        typed = live first (Contains-head first (inner ++ outer));
        named = λ y c. live y (Contains-tail first y (inner ++ outer) (Contains-append_1 y inner outer c));
        used = λ x c. there.locals n (body p.locals.now a.own) x (ap body_of_function a.is) c;
        local_types = λ y c. live y (Contains-tail first y (inner ++ outer) (Contains-append_2 y inner outer c));
      }

  -- a local that is used has a type, whose types are there
  local_whole : (f : LocalFunction) → IsWhole f → (x : ℕ) → Contains (locals_of (body_of f)) x → (v : ValType ℕ) × ((item_at slots x ≡ Some v) × AreLive V (map type_item (val_names v)))
  local_whole f w x c =
      let v = some_of (item_at slots x) (w.used x c) in (
        v.0,
        (
          v.1,
          λ y d. w.local_types y (Contains-flat_map (local_names (body p.locals.now f)) (locals_of (body_of f)) x y c
              (subst (λ (o : Option (ValType ℕ)). Contains (named_by (λ u. map type_item (val_names u)) o) y) (sym v.1) d)),
        ),
      )

  module _ (features : Features) (f : LocalFunction) (w : IsWhole f) where
    operators_indexed : (declared : List ℕ) → AreDeclared slots (locals_of (body_of f)) (args_of f) declared → IsSome (named_ops names (index_in (source p names features f) declared) (body_of f))
    operators_indexed declared d =
        ops_named names (index_in (source p names features f) declared) (body_of f) (λ y d. item_named y (w.named y d))
        (λ x c. let v = local_whole f w x c in local_numbered slots (locals_of (body_of f)) (args_of f) declared d x v.0 c v.1.0 (place_in (args_of f) x) refl)

    type_indexed : (x : ℕ) (v : ValType ℕ) → Contains (locals_of (body_of f)) x → item_at slots x ≡ Some v → IsSome (named_val names v)
    type_indexed x v c is =
        let u = local_whole f w x c in
        let same : u.0 ≡ v = some_inj u.0 v (sym u.1.0 ∙ is) in
        let live : AreLive V (map type_item (val_names v)) = subst (λ (z : ValType ℕ). AreLive V (map type_item (val_names z))) same u.1.1 in
        val_named names v (λ t d. item_named (Types, t) (live (Types, t) (Contains-map type_item t (val_names v) d)))

    none_lacks : LacksAnIndex (source p names features f) → ⊥
    none_lacks (inl l) = none_there (subst (λ (o : Option (List Op)). IsSome o) l.1.1 (operators_indexed l.0 l.1.0))
    none_lacks (inr l) = none_there (subst (λ (o : Option (ValType ℕ)). IsSome o) l.1.1.2 (type_indexed l.0 l.1.0 l.1.1.0.is_used l.1.1.1))

  -- each function in the order
  module _ (order : List ℕ) (h : IsOrder (functions p.funcs.now) order) where
    here : (k d : ℕ) → k < length order → HasOwn p (get_or order k d)
    here k d low = own_at p order h (get_or order k d) (All-contains_itself order k d low)

    order_indexed : (features : Features) → All (IsIndexed p names features) order
    order_indexed features = λ k d lt. (let a = here k d lt in record { local = a.own; is = a.is; indexed = none_lacks features a.own (whole_is (get_or order k d) a) })

    -- so has its type
    order_typed : All (λ n. IsSome (option_and_then (type_index names) (V.functions n))) order
    order_typed = λ k d lt. (
        let a = here k d lt in
        subst (λ (o : Option abstract.Function). IsSome (option_and_then (type_index names) o)) (sym a.is) (item_named (Types, place (function_type a.own)) (whole_is (get_or order k d) a).typed)
        )

  -- the type of each tag has an index
  pub tags_indexed : All (λ o. IsSome o) (map (λ t. tag_index names (tag_of t)) (items (tags p.tags.now)))
  tags_indexed =
      each_there (λ t. tag_index names (tag_of t)) (items (tags p.tags.now))
      (λ t has.
      let at = item_seen (tags p.tags.now) t has in
      item_named (Types, t.ty) (there.written (Tags, at.0) (Types, t.ty) (subst (λ (o : Option TagValue). Contains (named_by tag_names (option_map tag_of o)) (Types, t.ty)) (sym at.1) (Contains-head (Types, t.ty) []))))

  -- so have all items that a table names, and a global
  pub tables_indexed : All (λ o. IsSome o) (map (λ t. named_table names (table_of t)) (items (tables p.tables.now)))
  tables_indexed =
      each_there (λ t. named_table names (table_of t)) (items (tables p.tables.now))
      (λ t has.
      let at = item_seen (tables p.tables.now) t has in
      table_named names (table_of t) (λ y c. item_named y (there.written (Tables, at.0) y (subst (λ (o : Option TableValue). Contains (named_by table_names (option_map table_of o)) y) (sym at.1) c))))

  pub globals_indexed : All (λ o. IsSome o) (map (λ g. named_global names (global_of g)) (items (globals p.globals.now)))
  globals_indexed =
      each_there (λ g. named_global names (global_of g)) (items (globals p.globals.now))
      (λ g has.
      let at = item_seen (globals p.globals.now) g has in
      global_named names (global_of g) (λ y c. item_named y (there.written (Globals, at.0) y (subst (λ (o : Option GlobalValue). Contains (named_by global_names (option_map global_of o)) y) (sym at.1) c))))

  pub elements_indexed : All (λ o. IsSome o) (map (λ e. named_element names (element_of e)) (items (elements p.elements.now)))
  elements_indexed =
      each_there (λ e. named_element names (element_of e)) (items (elements p.elements.now))
      (λ e has.
      let at = item_seen (elements p.elements.now) e has in
      element_named names (element_of e) (λ y c. item_named y (there.written (Elements, at.0) y (subst (λ (o : Option ElementValue). Contains (named_by element_names (option_map element_of o)) y) (sym at.1) c))))

  pub data_indexed : All (λ o. IsSome o) (map (λ d. named_data names (data_of d)) (items (data_segments p.data_.now)))
  data_indexed =
      each_there (λ d. named_data names (data_of d)) (items (data_segments p.data_.now))
      (λ d has.
      let at = item_seen (data_segments p.data_.now) d has in
      data_named names (data_of d) (λ y c. item_named y (there.written (DataSegments, at.0) y (subst (λ (o : Option DataValue). Contains (named_by data_names (option_map data_of o)) y) (sym at.1) c))))

  export_named : (x : ExportItem) (name : List ℕ) → IsSome (names (exported x).0 (exported x).1) → IsSome (export_with_index names (record { name = name; item = exported x }))
  export_named (exports_as.Function f) name h = still_some (λ index. record { name = name; kind = kinds.Function; index = index }) (names Functions (place f)) h
  export_named (exports_as.Table i) name h = still_some (λ index. record { name = name; kind = kinds.Table; index = index }) (names Tables (place i)) h
  export_named (exports_as.Memory i) name h = still_some (λ index. record { name = name; kind = kinds.Memory; index = index }) (names Memories (place i)) h
  export_named (exports_as.Global i) name h = still_some (λ index. record { name = name; kind = kinds.Global; index = index }) (names Globals (place i)) h
  export_named (exports_as.Tag i) name h = still_some (λ index. record { name = name; kind = kinds.Tag; index = index }) (names Tags (place i)) h

  exports_named : (vs : List ExportValue) → ((e : abstract.Export) → Contains (map export_of vs) e → IsLive V e.item) → All (λ e. IsSome e) (map (λ v. export_with_index names (export_of v)) vs)
  exports_named [] l = λ k d lt. absurd (omega (arith, lt))
  exports_named (e ∷ vs) l =
      All-cons (λ (x : Option entries.Export). IsSome x) (export_with_index names (export_of e)) (map (λ v. export_with_index names (export_of v)) vs)
      (export_named e.item e.name (item_named (exported e.item) (l (export_of e) (Contains-head (export_of e) (map export_of vs)))))
      (exports_named vs (λ x c. l x (Contains-tail (export_of e) x (map export_of vs) c)))

  -- and what each export names
  pub exports_indexed : All (λ e. IsSome e) (map (λ v. export_with_index names (export_of v)) (items (exports p.exports.now)))
  exports_indexed = exports_named (items (exports p.exports.now)) there.exports

  start_by : (o : Option ℕ) → ((f : ℕ) → o ≡ Some f → IsSome (names Functions f)) → option_map (λ (i : ℕ). Some i) (option_and_then (names Functions) o) ≡ option_map (names Functions) o
  start_by None h = refl
  start_by (Some f) h = kept (names Functions f) (h f refl)
    where
      kept : (o : Option ℕ) → IsSome o → option_map (λ (i : ℕ). Some i) o ≡ Some o
      kept (Some i) some = refl
      kept None some = absurd (none_there some)

  -- so has the start function
  pub start_indexed : option_map (λ (i : ℕ). Some i) (option_and_then (names Functions) V.start) ≡ option_map (names Functions) V.start
  start_indexed = start_by V.start (λ f is. item_named (Functions, f) (there.start f is))

-- ---- the ids of the functions, wherever they are lent

lent_all : (P : ℕ → Type 0) (ids lent : List (Id FunctionKey)) → All P (map place ids) → lent ≡ ids → All (λ id. P (place id)) lent
lent_all P ids lent h same =
    subst (λ (l : List (Id FunctionKey)). All (λ id. P (place id)) l) (sym same)
    (λ k d lt. subst P (get_or-map place ids k d (place d) lt) (h k (place d) (omega (arith, lt, length-map ids place))))

-- those of the functions with a body
module _ (p : Parts) (none_dead : HasDead (parts_view p) → ⊥) (names : Lookup) (plan : Plan) (is_plan : IsPlan (parts_view p) plan) (numbered : AreNumbered names plan)
    (ids lent : List (Id FunctionKey)) (sized : IsOrder (functions p.funcs.now) (map place ids)) (same : lent ≡ ids) where
  pub ids_indexed : (features : Features) → All (λ id. IsIndexed p names features (place id)) lent
  ids_indexed features = lent_all (IsIndexed p names features) ids lent (order_indexed p none_dead names plan is_plan numbered (map place ids) sized features) same

  pub ids_typed : All (λ id. IsSome (option_and_then (type_index names) ((parts_view p).functions (place id)))) lent
  ids_typed =
      lent_all (λ n. IsSome (option_and_then (type_index names) ((parts_view p).functions n))) ids lent
      (order_typed p none_dead names plan is_plan numbered (map place ids) sized) same

-- ---- a function with a body, as it is looked up

kind_owned : (n : ℕ) (k : FunctionKind) (f : LocalFunction) → local_at n k ≡ Some (n, f) → own_body k ≡ Some f
kind_owned n (kind.Local g) f e = ap (λ (x : ℕ × LocalFunction). Some x.1) (some_inj (n, g) (n, f) e)
kind_owned n (kind.Import i) f e = absurd (cc)
kind_owned n (kind.Uninitialized ty) f e = absurd (cc)

value_owned : (n : ℕ) (o : Option FunctionValue) (f : LocalFunction) → option_and_then (λ (v : FunctionValue). local_at n v.kind) o ≡ Some (n, f) → body_at o ≡ Some f
value_owned n None f e = absurd (cc)
value_owned n (Some v) f e = kind_owned n v.kind f e

pub local_seen : (p : Parts) (n : ℕ) (f : LocalFunction) → local_in (functions p.funcs.now) n ≡ Some (n, f) → (parts_view p).functions n ≡ Some (function_seen p f)
local_seen p n f e = value_seen p (item_at (functions p.funcs.now) n) f (value_owned n (item_at (functions p.funcs.now) n) f e)

-- the index of its type
kind_index : (p : Parts) (names : Lookup) (n : ℕ) (k : FunctionKind) → option_and_then (λ (f : ℕ × LocalFunction). names Types (place (function_type f.1))) (local_at n k) ≡ type_index_of names (place (kind_type k)) (kind_of p.locals.now k)
kind_index p names n (kind.Local g) = refl
kind_index p names n (kind.Import i) = refl
kind_index p names n (kind.Uninitialized ty) = refl

value_index : (p : Parts) (names : Lookup) (n : ℕ) (o : Option FunctionValue) → option_and_then (λ (f : ℕ × LocalFunction). names Types (place (function_type f.1))) (option_and_then (λ (v : FunctionValue). local_at n v.kind) o) ≡ option_and_then (type_index names) (option_map (function p.locals.now) o)
value_index p names n None = refl
value_index p names n (Some v) = kind_index p names n v.kind

pub index_seen : (p : Parts) (names : Lookup) (n : ℕ) → option_and_then (λ (f : ℕ × LocalFunction). names Types (place (function_type f.1))) (local_in (functions p.funcs.now) n) ≡ option_and_then (type_index names) ((parts_view p).functions n)
index_seen p names n = value_index p names n (item_at (functions p.funcs.now) n)

-- ---- why a body is refused

same_body : (a b : abstract.Body) → abstract.LocalFunction a ≡ abstract.LocalFunction b → a ≡ b
same_body a b e = cc

-- what is said of a body to be written turns on what is seen of it alone
module _ (p : Parts) (names : Lookup) (features : Features) where
  lacks_same : (f g : LocalFunction) → function_seen p f ≡ function_seen p g → LacksAnIndex (source p names features f) → LacksAnIndex (source p names features g)
  lacks_same f g e l =
      subst (λ (b : abstract.Body). LacksAnIndex (source_of p names features (place (function_type g)) b)) (same_body (body p.locals.now f) (body p.locals.now g) (ap (λ (x : abstract.Function). x.kind) e))
      (subst (λ (ty : ℕ). LacksAnIndex (source_of p names features ty (body p.locals.now f))) (ap (λ (x : abstract.Function). x.ty) e) l)

  pub body_refused : {X : Type 0} (n : ℕ) (f : LocalFunction) (bytes places : X → List ℕ) (numbers : X → ℕ → Option ℕ) (ids : X → List ℕ) (used : X → List Bool) (e : IrError) → IsIndexed p names features n → local_in (functions p.funcs.now) n ≡ Some (n, f)
      → EmitsBody (source p names features f) bytes places numbers ids used (Err e) → RefusesBodies p features (error_of_ir e)
  body_refused n f bytes places numbers ids used Ir.NoIndex i is lacks = absurd (i.indexed (lacks_same f i.local (some_inj (function_seen p f) (function_seen p i.local) (sym (local_seen p n f is) ∙ i.is)) lacks))
  body_refused n f bytes places numbers ids used Ir.NotWritable i is cant = (names, (n, (f, (local_seen p n f is, cant))))
  body_refused n f bytes places numbers ids used Ir.TooLarge i is many = (names, (n, (f, (local_seen p n f is, many))))
  body_refused n f bytes places numbers ids used (Ir.Memory m) i is u = tt
  body_refused n f bytes places numbers ids used Ir.Malformed i is u = absurd u
