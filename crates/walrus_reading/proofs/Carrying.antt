-- A module in memory that took in the sections is made of the module that was read.
use Rattle.std.proofs.Common.{◌≡◌, ℕ, zero, suc, ◌+◌, ◌<◌, ◌≤◌, Bool, true, false, List, [], ◌∷◌, ◌++◌, length, length-append, map, refl, sym, ap, ap₂, subst, ◌∙◌, arith, inl, inr, ◌⊎◌, eqb-true}
use Rattle.std.proofs.lemmas.Bool.{eqb-false}
use borrow.Author.Tests.{ltb-true, ltb-false}
use Rattle.std.specs.Prelude.{Option, Some, None, IsSome, Contains, slice_get, option_map, nat_lt, zip, ◌==◌, if◌then◌else◌}
use Rattle.std.specs.List.{AllZip, range_with_len}
use Rattle.walrus_base.specs.Arena.{item_at}
use Rattle.walrus_base.specs.Id.{place}
use Rattle.walrus_base.specs.Types.{ValType}
use Rattle.walrus_base.specs.Locals.{locals, local_type}
use Rattle.walrus_base.specs.Value.{val_type}
use Rattle.walrus_items.specs.Function.{body_of as body_of_local}
use Rattle.walrus_groups.specs.Groups.{types_from}
use Rattle.std.proofs.lemmas.List.{length-map}
use Rattle.walrus_base.specs.Operators.{Types, Item, NoResult, OneResult, OfType, Arg, Index, Label, Local as LocalArg, Number, Count, Byte, S32, S64, Bits32, Bits64, Value, Heap, Block, Access, Op, locals_of}
use Rattle.walrus_base.specs.declared.locals.ModuleLocals.{ModuleLocals}
use Rattle.walrus_items.specs.LocalFunction.{LocalFunction}
use Rattle.walrus_functions.specs.EmittedBody.{types_of as local_types}
use Rattle.walrus_functions.specs.Handlers.{params_of}
use Rattle.walrus_functions.specs.Laws.{moved_arg, moved_op}
use Rattle.walrus_items.specs.FunctionKinds.{kind_type}
use Rattle.walrus_items.specs.Functions.{FunctionValue, functions}
use Rattle.walrus_items.specs.declared.function_kind.FunctionKind.{FunctionKind}
use Rattle.walrus_items.specs.declared.function_kind.FunctionKind.TheVariants.{Local}
use Rattle.walrus_model.specs.Abstract as abstract
use Rattle.walrus_model.specs.Abstract.{Abstract, Name, Custom, ProducerField, TypeDef, Function, Import, Body, Subject, TheModule, AnItem, ALocal}
use Rattle.walrus_model.specs.Carried.{Carries}
use Rattle.walrus_bodies.specs.declared.features.Features.{Features}
use Rattle.walrus_theorem.specs.Chain.{AddsHandlers, IsBehind, IsWholeBody, ParsedAs}
use Rattle.walrus_theorem.specs.Namings.{is_in_range}
use Rattle.walrus_theorem.specs.Sections.{items_of, module_of}
use Rattle.walrus_reading.proofs.DeclaredLocals.{counts}
use Rattle.walrus_model.specs.Reads.{arity, ReadsBodyWith}
use Rattle.walrus_model.specs.Sections.{Said, customs_of, function_with, functions_of, body_with, imported, imported_function, imports_after, types_of, globals_of, memories_of, tables_of, tags_of, elements_of, data_segments_of}
use Rattle.walrus_model.specs.Kept.{IsImportOf}
use Rattle.walrus_model.specs.Live.{IsLive}
use Rattle.walrus_model.specs.WellMade.{import_of}
use Rattle.walrus_theorem.proofs.TextImports.{imports_match}
use Rattle.walrus_model.specs.Config.{Config}
use Rattle.walrus_model.specs.Names.{body_of, body_of_function, body_of_kind, name_of, own_name, names_that_count, synthetic_name, last_name, or_else}
use Rattle.walrus_model.specs.Producers.{produced}
use Rattle.walrus_model.proofs.Follow.{used_follow}
use Rattle.walrus_model.proofs.Reach.{Contains-unmap}
use Rattle.walrus_model.specs.Renaming.{Renaming, renamed_arg, renamed_import, renamed_op, renamed_ops, renamed_export}
use Rattle.walrus_model.specs.Same.{SameType, SameBody, SameFunction, SameKind, BothAnd}
use Rattle.walrus_base.specs.Shape.{in_its_group, others_through, place_in}
use Rattle.walrus_base.proofs.Lists.{map-itself, map-same}
use Rattle.walrus_base.proofs.TypeMaps.{sub-itself, val-itself, heap-itself}
use Rattle.walrus_reading.specs.Taken.{HasTaken, tag_types_of}
use Rattle.walrus_reading.proofs.AllHeld.{Fits, all_fit, all_imported}
use Rattle.walrus_reading.proofs.ChainHandlers.{HasHandlers, by_numbers, imported_turn, own_turn}
use Rattle.walrus_reading.proofs.FoundTypes.{all_grown}
use Rattle.walrus_reading.proofs.Held.{HeldBody, HeldFunction, exported, in_front, starts_taken}
use Rattle.walrus_reading.proofs.Rows.{in_turn_append}
use Rattle.walrus_contents.specs.View.{body, kind_of, handlers_at, function, contents_view, data_of, element_of, global_of, import_of as import_of_value, memory_of, table_of, tag_of}
use Rattle.walrus_model.proofs.PipelineSame.{data_stays, element_stays, global_stays, import_stays, memory_stays, start_stays, table_stays, tag_stays, local_type_stays as types_stay}
use Rattle.walrus_reading.specs.Held.{HoldsData, HoldsElement, HoldsGlobal, HoldsImport, HoldsMemory, HoldsTable, HoldsTag, memory_keeps, table_keeps}
use Rattle.walrus_reading.specs.Placed.{AllPlaced, InTurn}
use Rattle.walrus_reading.proofs.KeptSegments.{kept_seen, tables_seen}
use Rattle.walrus_reading.proofs.Unnamed.{nothing_named}
use Rattle.walrus_items.specs.Imports.{imports}
use Rattle.walrus_items.specs.Globals.{globals}
use Rattle.walrus_items.specs.Data.{data_segments}
use Rattle.walrus_items.specs.Elements.{elements}
use Rattle.walrus_items.specs.Memories.{memories}
use Rattle.walrus_items.specs.Tables.{tables}
use Rattle.walrus_items.specs.Tags.{tags}
use Rattle.walrus_contents.specs.declared.parts.Contents.{Contents}
use Rattle.walrus_base.proofs.Lookups.{there}
use Rattle.walrus_model.proofs.Parsing.{used_below}
use Rattle.walrus_model.proofs.PlacedTypes.{item_there, zip_length}
use Rattle.wasm_frames.specs.Record as wire
use Rattle.walrus_base.proofs.Standing.{none_there, some_inj, some_of, got_in, was_some}
use Rattle.walrus_functions.proofs.LawMoves.{range_moved}
use Rattle.walrus_model.proofs.Seen.{others-id as others_same}
use Rattle.walrus_theorem.proofs.NoCause.{import_live as named_live}
use Rattle.walrus_theorem.proofs.ReadFits.{some_there as got_within}
use Rattle.walrus_theorem.proofs.ReadBody.{body_from as function_by}

-- ---- types

same_type : (i : ℕ) (x : TypeDef) → SameType (λ k. k) i x x
same_type i x = record {
  group = sym (map-itself (λ (k : ℕ). k) x.group (λ k. refl));
  position = refl;
  sub = sym (sub-itself (others_through (λ k. k)) others_same (in_its_group x));
}

both_types : (i : ℕ) (o : Option TypeDef) → IsSome o → BothAnd (SameType (λ k. k) i) o o
both_types i (Some x) h = same_type i x
both_types i None h = absurd (none_there h)

-- ---- a range of numbers further on

same_test : (by n x : ℕ) (b c : Bool) → (by + n == by + x) ≡ b → (n == x) ≡ c → b ≡ c
same_test by n x true true p q = refl
same_test by n x false false p q = refl
same_test by n x true false p q = absurd (eqb-false n x q (let e : by + n ≡ by + x = eqb-true (by + n) (by + x) p in omega (arith, e)))
same_test by n x false true p q = absurd (eqb-false (by + n) (by + x) p (ap (λ (k : ℕ). by + k) (eqb-true n x q)))

place_moved : (by : ℕ) (ns : List ℕ) (x : ℕ) → place_in (map (λ (n : ℕ). by + n) ns) (by + x) ≡ place_in ns x
place_moved by [] x = refl
place_moved by (n ∷ ns) x =
    ap₂ (λ (t : Bool) (o : Option ℕ). if t then Some 0 else option_map suc o) (same_test by n x (by + n == by + x) (n == x) refl refl) (place_moved by ns x)

parameter_places : (first count x : ℕ) → place_in (range_with_len first count) (first + x) ≡ place_in (range_with_len 0 count) x
parameter_places first count x =
    let start : first ≡ first + 0 = omega arith in
    ap (λ (n : ℕ). place_in (range_with_len n count) (first + x)) start ∙ ap (λ (ns : List ℕ). place_in ns (first + x)) (range_moved first 0 count) ∙ place_moved first (range_with_len 0 count) x

abbrev of_kind : ModuleLocals → FunctionKind → Function
of_kind all k = record { ty = place (kind_type k); kind = kind_of all k }

-- ---- where every number stays, and a local moves

module _ (moved : ℕ → ℕ → ℕ) where
  abbrev pub moving : Renaming
  moving = record { numbers = λ space i. i; imports = λ i. i; locals = moved }

  arg_moved : (by : ℕ) (x : Arg) → moved_arg by x ≡ renamed_arg moving (λ n. by + n) x
  arg_moved by (Index x) = refl
  arg_moved by (LocalArg n) = refl
  arg_moved by (Value v) = ap Value (sym (val-itself (λ (i : ℕ). i) (λ i. refl) v))
  arg_moved by (Heap h) = ap Heap (sym (heap-itself (λ (i : ℕ). i) (λ i. refl) h))
  arg_moved by (Block NoResult) = refl
  arg_moved by (Block (OneResult v)) = ap (λ (w : ValType ℕ). Block (OneResult w)) (sym (val-itself (λ (i : ℕ). i) (λ i. refl) v))
  arg_moved by (Block (OfType t)) = refl
  arg_moved by (Access flags memory offset) = refl
  arg_moved by (Label n) = refl
  arg_moved by (Number n) = refl
  arg_moved by (Count n) = refl
  arg_moved by (Byte n) = refl
  arg_moved by (S32 n) = refl
  arg_moved by (S64 n) = refl
  arg_moved by (Bits32 n) = refl
  arg_moved by (Bits64 n) = refl

  op_moved : (by : ℕ) (o : Op) → moved_op by o ≡ renamed_op moving (λ n. by + n) o
  op_moved by o = ap (λ (args : List Arg). record { op = o.op; args = args }) (map-same (moved_arg by) (renamed_arg moving (λ n. by + n)) o.args (arg_moved by))

  ops_moved : (by : ℕ) (ops : List Op) → map (moved_op by) ops ≡ renamed_ops moving (λ n. by + n) ops
  ops_moved by ops = map-same (moved_op by) (renamed_op moving (λ n. by + n)) ops (op_moved by)

  module _ (all : ModuleLocals) (c : Features) (r : wire.Module) (i : ℕ) where
    same_body : (p : ℕ × Said) (b : wire.Body) (f : LocalFunction) (h : HeldBody (local_types (locals all)) p.0 (params_of (types_of r p.0)) p.1 f) → ReadsBodyWith c r (p.0, b) p.1 → moved i ≡ (λ n. h.first + n)
        → SameBody moving i (body_with (params_of (types_of r p.0)) p.1) (body all f)
    same_body p b f h read at =
        let params = params_of (types_of r p.0) in
        let by : (x : ℕ) → moved i x ≡ h.first + x = λ x. ap (λ (g : ℕ → ℕ). g x) at in
        record {
          operators = h.operators ∙ ops_moved h.first p.1.1 ∙ ap (λ (g : ℕ → ℕ). renamed_ops moving g p.1.1) (sym at);
          apart = λ x y u v e. let e' : h.first + x ≡ h.first + y = sym (by x) ∙ e ∙ by y in omega (arith, e');
          types = λ x u.
              let small : x < arity r p.0 + length p.1.0 = used_below c r (p.0, b) p.1 x read u in
              ap (item_at (local_types (locals all))) (by x) ∙ h.local_types x (within params p.1.0 x small) ∙ sym (types_stay (slice_get (params ++ p.1.0) x));
          parameters = λ x u. ap₂ place_in h.parameters (by x) ∙ parameter_places h.first (length params) x;
        }
      where
        within : (xs ys : List (ValType ℕ)) (x : ℕ) → x < length xs + length ys → x < length (xs ++ ys)
        within xs ys x lt = omega (arith, lt, length-append xs ys)

    same_held : (starts : List ℕ) (p : ℕ × Said) (b : wire.Body) (slot : Option FunctionValue) (h : HeldFunction (types_of r) starts (local_types (locals all)) p slot) → ReadsBodyWith c r (p.0, b) p.1 → moved i ≡ (λ n. h.body.first + n)
        → BothAnd (SameFunction moving i) (Some (function_with r p)) (option_map (function all) slot)
    same_held starts p b slot h read at =
        let same : SameFunction moving i (function_with r p) (of_kind all (Local h.local)) = record { ty = h.body.typed; kind = same_body p b h.local h.body read at } in
        let known : option_map (function all) slot ≡ Some (of_kind all (Local h.local)) = ap (option_map (function all)) h.is ∙ ap (λ (k : FunctionKind). Some (of_kind all k)) h.kind in
        subst (λ (o : Option Function). BothAnd (SameFunction moving i) (Some (function_with r p)) o) (sym known) same

-- ---- slot by slot

module _ (c : Features) (r : wire.Module) (starts : List ℕ) (all : ModuleLocals) where
  abbrev Fit : Function → Option FunctionValue → Type 0
  Fit g slot = Fits c r starts all g slot

  -- the first local of a function: of one that an import brings it doesn't matter
  abbrev pub first_of : (g : Function) (slot : Option FunctionValue) → Fit g slot → ℕ
  first_of g slot (inl b) = 0
  first_of g slot (inr o) = o.holds.body.first

  pub first_at : (gs : List Function) (slots : List (Option FunctionValue)) → AllZip Fit gs slots → ℕ → ℕ
  first_at [] [] h i = 0
  first_at [] (s ∷ slots) h i = absurd h
  first_at (g ∷ gs) [] h i = absurd h
  first_at (g ∷ gs) (s ∷ slots) h zero = first_of g s h.0
  first_at (g ∷ gs) (s ∷ slots) h (suc i) = first_at gs slots h.1 i

  -- function i is held
  pub record HeldAt (gs : List Function) (slots : List (Option FunctionValue)) (first : ℕ) (i : ℕ) : Type 0 where
    pub said : Function
    pub got : slice_get gs i ≡ Some said
    pub slot : Option FunctionValue
    pub at : item_at slots i ≡ slot
    pub fits : Fit said slot
    pub same : first ≡ first_of said slot fits

  pub held_at : (gs : List Function) (slots : List (Option FunctionValue)) (h : AllZip Fit gs slots) (i : ℕ) → i < length gs → HeldAt gs slots (first_at gs slots h i) i
  unfolding first_at
  held_at [] slots h i lt = absurd (omega arith)
  held_at (g ∷ gs) [] h i lt = absurd h
  held_at (g ∷ gs) (s ∷ slots) h zero lt = record { said = g; got = refl; slot = s; at = refl; fits = h.0; same = refl }
  held_at (g ∷ gs) (s ∷ slots) h (suc i) lt =
      let found = held_at gs slots h.1 i (omega arith) in
      record { said = found.said; got = found.got; slot = found.slot; at = found.at; fits = found.fits; same = found.same }

  past_handled : (gs : List Function) (slots : List (Option FunctionValue)) (i : ℕ) → AllZip Fit gs slots → length gs ≤ i → handlers_at (item_at slots i) ≡ []
  past_handled [] [] i h le = refl
  past_handled [] (s ∷ slots) i h le = absurd h
  past_handled (g ∷ gs) [] i h le = absurd h
  past_handled (g ∷ gs) (s ∷ slots) zero h le = absurd (omega (arith, le))
  past_handled (g ∷ gs) (s ∷ slots) (suc i) h le = past_handled gs slots i h.1 (omega (arith, le))

  carried : (moved : ℕ → ℕ → ℕ) (i : ℕ) (g : Function) (slot : Option FunctionValue) (fits : Fit g slot) → moved i ≡ (λ n. first_of g slot fits + n) → BothAnd (SameFunction (moving moved) i) (Some g) (option_map (function all) slot)
  carried moved i g slot (inl b) at =
      let known : option_map (function all) slot ≡ Some g = ap (option_map (function all)) b.is ∙ ap Some b.read in
      let same : SameFunction (moving moved) i g g = record { ty = refl; kind = subst (λ (k : abstract.FunctionKind). SameKind (moving moved) i k k) (sym b.by.1) refl } in
      subst (λ (o : Option Function). BothAnd (SameFunction (moving moved) i) (Some g) o) (sym known) same
  carried moved i g slot (inr o) at =
      subst (λ (f : Function). BothAnd (SameFunction (moving moved) i) (Some f) (option_map (function all) slot)) (sym o.says) (same_held moved all c r i starts o.pair o.text slot o.holds o.read at)

pub item_within : {A : Type 0} (xs : List (Option A)) (i : ℕ) → IsSome (item_at xs i) → i < length xs
item_within [] i h = absurd (none_there h)
item_within (x ∷ xs) zero h = omega arith
item_within (x ∷ xs) (suc i) h = let lt : i < length xs = item_within xs i h in omega (arith, lt)

both_same : {X : Type 0} (S : X → X → Type 0) (o : Option X) → IsSome o → ((x : X) → S x x) → BothAnd S o o
both_same S (Some x) h all = all x
both_same S None h all = absurd (none_there h)

-- the same items under the same numbers
carried_there : {X : Type 0} (A : ℕ → Type 0) (S : ℕ → X → X → Type 0) (xs ys : ℕ → Option X) → ((i : ℕ) → ys i ≡ xs i) → ((i : ℕ) (x : X) → S i x x) → Carries (λ i. IsSome (xs i)) A (λ i. i) S xs ys
carried_there A S xs ys same all = record {
  same = λ i live. subst (λ (o : Option _). BothAnd (S i) (xs i) o) (sym (same i)) (both_same (S i) (xs i) live (all i));
  onto = λ j live. inl (j, subst (λ (o : Option _). IsSome o) (same j) live, refl);
}

-- what is held slot by slot is seen at its place
seen_there : {X T : Type 0} (see : T → X) (R : ℕ → X → Option T → Type 0) → ((n : ℕ) (x : X) (slot : Option T) → R n x slot → (value : T) × ((slot ≡ Some value) × (see value ≡ x)))
    → (k : ℕ) (xs : List X) (slots : List (Option T)) → AllPlaced R k xs slots → (i : ℕ) → option_map see (item_at slots i) ≡ slice_get xs i
seen_there see R give k [] [] h i = refl
seen_there see R give k [] (s ∷ slots) h i = absurd h
seen_there see R give k (x ∷ xs) [] h i = absurd h
seen_there see R give k (x ∷ xs) (s ∷ slots) h zero = let g = give k x s h.0 in ap (option_map see) g.1.0 ∙ ap Some g.1.1
seen_there see R give k (x ∷ xs) (s ∷ slots) h (suc i) = seen_there see R give (k + 1) xs slots h.1 i

-- ---- bodies are whole

module _ (moved : ℕ → ℕ → ℕ) (all : ModuleLocals) (c : Features) (r : wire.Module) (i : ℕ) (p : ℕ × Said) (b : wire.Body) (g : LocalFunction)
    (h : HeldBody (local_types (locals all)) p.0 (params_of (types_of r p.0)) p.1 g) (read : ReadsBodyWith c r (p.0, b) p.1) (at : moved i ≡ (λ n. h.first + n)) where
  abbrev params : List (ValType ℕ)
  params = params_of (types_of r p.0)

  at_place : (x : ℕ) → moved i x ≡ h.first + x
  at_place x = ap (λ (f : ℕ → ℕ). f x) at

  -- a used local is one of those that were added
  used_there : (y : ℕ) → Contains (locals_of (body_of_local g)) y → y < length (locals all)
  used_there y used =
      let same = same_body moved all c r i p b g h read at in
      let u = Contains-unmap (moved i) (locals_of p.1.1) y (subst (λ xs. Contains xs y) (used_follow (moving moved) i (body_with params p.1) (body all g) same) used) in
      let small : u.0 < length params + length p.1.0 = used_below c r (p.0, b) p.1 u.0 read u.1 in
      let within : u.0 < length (params ++ p.1.0) = omega (arith, small, length-append params p.1.0) in
      let typed : item_at (local_types (locals all)) y ≡ slice_get (params ++ p.1.0) u.0 =
      ap (item_at (local_types (locals all))) (sym u.2 ∙ at_place u.0) ∙ h.local_types u.0 within in
      let below : y < length (local_types (locals all)) = item_within (local_types (locals all)) y (subst (λ (o : Option (ValType ℕ)). IsSome o) (sym typed) (there (params ++ p.1.0) u.0 within)) in
      omega (arith, below, length-map (locals all) (option_map (λ l. val_type (local_type l))))

  whole : IsWholeBody (moving moved) i (body_with params p.1) (body all g)
  whole = record {
    parameters =
        h.parameters ∙ ap (λ (n : ℕ). range_with_len n (length params)) (let e : h.first ≡ h.first + 0 = omega arith in e)
        ∙ range_moved h.first 0 (length params) ∙ ap (λ (f : ℕ → ℕ). map f (range_with_len 0 (length params))) (sym at);
    types = λ x v e. ap (item_at (local_types (locals all))) (at_place x) ∙ h.local_types x (got_in (params ++ p.1.0) x v e).0 ∙ e;
    counted = counts g all used_there;
    rise = λ x y is too lt. omega (arith, at_place x, at_place y, lt);
  }

-- ---- the body of each function

held_body : (all : ModuleLocals) (r : wire.Module) (starts : List ℕ) (slot : Option FunctionValue) (p : ℕ × Said) (k : HeldFunction (types_of r) starts (local_types (locals all)) p slot) → body_of_function (option_map (function all) slot) ≡ Some (body all k.local)
held_body all r starts slot p k = ap body_of_function (ap (option_map (function all)) k.is ∙ ap (λ (o : FunctionKind). Some (of_kind all o)) k.kind)

module _ (c : Features) (r : wire.Module) (starts : List ℕ) (all : ModuleLocals) (moved : ℕ → ℕ → ℕ) (f : ℕ) (a b : Body) where
  whole_at : (g : Function) (slot : Option FunctionValue) (fits : Fits c r starts all g slot) → moved f ≡ (λ n. first_of c r starts all g slot fits + n) → body_of_kind g.kind ≡ Some a → body_of_function (option_map (function all) slot) ≡ Some b → IsWholeBody (moving moved) f a b
  whole_at g slot (inl q) at was is = absurd (let no : ◌≡◌ {A = Option Body} None (Some a) = sym (ap body_of_kind q.by.1) ∙ was in cc)
  whole_at g slot (inr o) at was is =
      let params = params_of (types_of r o.pair.0) in
      let old : body_with params o.pair.1 ≡ a = some_inj (body_with params o.pair.1) a (sym (ap (λ (y : Function). body_of_kind y.kind) o.says) ∙ was) in
      let new : body all o.holds.local ≡ b = some_inj (body all o.holds.local) b (sym (held_body all r starts slot o.pair o.holds) ∙ is) in
      subst (λ (y : Body). IsWholeBody (moving moved) f a y) new
      (subst (λ (y : Body). IsWholeBody (moving moved) f y (body all o.holds.local)) old
      (whole moved all c r f o.pair o.text o.holds.local o.holds.body o.read at))

-- ---- the whole, where the tables and memories that segments are active in are there

module _ (c : Features) (r : wire.Module) (x : Contents) (many : length r.bodies ≡ length r.functions) (h : HasTaken c r x) (ps : List ProducerField) where
  abbrev all : ModuleLocals
  all = x.locals

  abbrev slots : List (Option FunctionValue)
  slots = functions x.funcs

  abbrev M : Abstract
  M = module_of r h.bodies ps []

  abbrev v : Abstract
  v = contents_view x

  abbrev said : List Function
  said = functions_of r h.bodies

  abbrev types : List TypeDef
  types = types_from 0 r.types

  abbrev starts : List ℕ
  starts = starts_taken c r x h

  abbrev fit : AllZip (Fits c r starts all) said slots
  fit = all_fit c r x h many

  -- a function's locals begin where its first one stands
  abbrev moved : ℕ → ℕ → ℕ
  moved i n = first_at c r starts all said slots fit i + n

  abbrev further : ℕ → ℕ → ℕ
  further k n = k + n

  function_carried : (i : ℕ) → IsSome (M.functions i) → BothAnd (SameFunction (moving moved) i) (M.functions i) (v.functions i)
  function_carried i live =
      let a = held_at c r starts all said slots fit i (got_within said i live) in
      subst (λ (o : Option Function). BothAnd (SameFunction (moving moved) i) o (v.functions i)) (sym a.got)
      (subst (λ (s : Option FunctionValue). BothAnd (SameFunction (moving moved) i) (Some a.said) (option_map (function all) s)) (sym a.at)
      (carried c r starts all moved i a.said a.slot a.fits (ap further a.same)))

  function_there : (i : ℕ) → IsSome (v.functions i) → IsSome (M.functions i)
  function_there i live =
      let lt : i < length slots = item_within slots i (was_some (function all) (item_at slots i) live) in
      let as_many : length said ≡ length slots = zip_length (Fits c r starts all) said slots fit in
      there said i (omega (arith, lt, as_many))

  -- ---- types: those that were read, and behind them those that were added

  type_at : (i : ℕ) → v.types i ≡ slice_get h.types i
  type_at i = ap (λ (l : List (Option TypeDef)). item_at l i) h.have_types ∙ item_there h.types i

  type_stays : (i : ℕ) → i < length types → v.types i ≡ types_of r i
  type_stays i lt =
      let grown = all_grown (types_of r) (tag_types_of r) (zip r.functions h.bodies) h.functions.own.added types h.types h.handlers in
      type_at i ∙ ap (λ (l : List TypeDef). slice_get l i) grown.1 ∙ in_front types grown.0 i lt

  type_carried : (i : ℕ) → IsSome (M.types i) → BothAnd (SameType (λ k. k) i) (M.types i) (v.types i)
  type_carried i live = subst (λ o. BothAnd (SameType (λ k. k) i) (types_of r i) o) (sym (type_stays i (got_within types i live))) (both_types i (types_of r i) live)

  type_onto : (j : ℕ) (t : Bool) → nat_lt j (length types) ≡ t → IsSome (v.types j) → ((i : ℕ) × IsSome (M.types i) × (i ≡ j)) ⊎ IsBehind (length types) (Types, j)
  type_onto j true lt live = inl (j, subst (λ o. IsSome o) (type_stays j (ltb-true j (length types) lt)) live, refl)
  type_onto j false ge live = inr (refl, ltb-false j (length types) ge)

  -- ---- imports

  import_seen : (i : ℕ) → v.imports i ≡ M.imports i
  import_seen = seen_there import_of_value HoldsImport (λ n y s k. (k.value, (k.is, k.read))) 0 (imports_after [] r.imports) (imports x.imports) h.imports

  import_live : (i : ℕ) → IsSome (M.imports i) → IsImportOf (IsLive M) M i
  import_live i some =
      let y = some_of (M.imports i) some in
      (y.0, y.1, named_live M y.0.item i ((imports_match r h.bodies ps []).imports i y.0 y.1))

  from_zero : (n : ℕ) → 0 + n ≡ n
  from_zero n = omega arith

  -- ---- handlers

  all_handlers : InTurn (HasHandlers M) said slots types h.types
  all_handlers =
      let brought : List Function = imported imported_function 0 r.imports in
      let own : List Function = map (function_with r) (zip r.functions h.bodies) in
      subst (λ (l : List (Option FunctionValue)). InTurn (HasHandlers M) (brought ++ own) l types h.types) (sym h.functions.own.behind)
      (in_turn_append (HasHandlers M) brought h.functions.front own h.functions.own.added types types h.types
      (imported_turn M all 0 brought h.functions.front types (all_imported 0 r.imports) h.functions.brings)
      (own_turn r h.bodies (zip r.functions h.bodies) h.functions.own.added types h.types h.handlers))

  adds : AddsHandlers M v.handler_types (range_with_len 0 (length said)) types h.types
  adds = by_numbers M v.handler_types said slots 0 types h.types (λ i. ap (body_of M) (from_zero i)) (λ i. ap v.handler_types (from_zero i)) all_handlers

  -- ---- bodies

  whole_bodies : (f : ℕ) (a b : Body) → body_of M f ≡ Some a → body_of v f ≡ Some b → IsWholeBody (moving moved) f a b
  whole_bodies f a b was is =
      let s = function_by (slice_get said f) a was in
      let k = held_at c r starts all said slots fit f (got_in said f s.0 s.1).0 in
      let one : k.said ≡ s.0 = some_inj k.said s.0 (sym k.got ∙ s.1) in
      whole_at c r starts all moved f a b k.said k.slot k.fits (ap further k.same) (ap (λ (g : Function). body_of_kind g.kind) one ∙ s.2)
      (sym (ap (λ (o : Option FunctionValue). body_of_function (option_map (function all) o)) k.at) ∙ is)

  -- ---- nothing is named

  either_none : (t : Bool) → ◌≡◌ {A = List Name} (if t then [] else []) []
  either_none true = refl
  either_none false = refl

  unnamed : (y : Subject) → M.named y ≡ []
  unnamed y = either_none (is_in_range (items_of r h.bodies ps) y)

  module _ (config : Config) (own_names : config.synthetic_names ≡ false) where
    nameless : (y z : Subject) → own_name v z ≡ name_of config M y
    nameless y z =
        ap last_name (nothing_named c _ x h z)
        ∙ sym (ap (λ (t : Bool). or_else (last_name (names_that_count t M y)) (if t then synthetic_name M y else None)) own_names
        ∙ ap (λ names. or_else (last_name names) None) (unnamed y))

  -- ---- all of it; the producers and the custom sections of the module in memory are given
  pub parsed : (config : Config) → config.synthetic_names ≡ false → ((table segment : ℕ) → length (tables_of r) ≤ table → table_keeps (elements_of r) table segment ≡ false)
      → ((memory segment : ℕ) → length (memories_of r) ≤ memory → memory_keeps (data_segments_of r) memory segment ≡ false)
      → (cs : List Custom) → cs ≡ customs_of r.customs → v.producers ≡ produced ps → ParsedAs config M (record v { customs = cs })
  parsed config own_names on_tables on_memories cs kept put_in = record {
    types = types;
    functions = length said;
    all_types = h.types;
    types_read = λ i. refl;
    functions_read = λ f. (got_within said f, there said f);
    handlers = adds;
    types_made = type_at;
    no_handlers = λ f past. past_handled c r starts all said slots f fit past;
    renaming = moving moved;
    carried = record {
      types = record { same = type_carried; onto = λ j live. type_onto j (nat_lt j (length types)) refl live };
      imports = record {
        same = λ i live. subst (λ (o : Option Import). BothAnd (λ y z. z ≡ renamed_import (moving moved) y) (M.imports i) o) (sym (import_seen i))
            (both_same (λ y z. z ≡ renamed_import (moving moved) y) (M.imports i) (subst (λ (o : Option Import). IsSome o) (sym live.1) refl) (λ y. sym (import_stays (moving moved) (λ s n. refl) (λ n. refl) y)));
        onto = λ j live. inl (j, import_live j (subst (λ (o : Option Import). IsSome o) (import_seen j) live), refl);
      };
      functions = record { same = function_carried; onto = λ j live. inl (j, function_there j live, refl) };
      tables = carried_there _ _ M.tables v.tables (seen_there table_of (HoldsTable (table_keeps (elements_of r))) (λ n t s k. (k.value, (k.is, k.read))) 0 (tables_of r) (tables x.tables) h.tables) (λ i t. sym (table_stays (moving moved) (λ s n. refl) (λ n. refl) t));
      memories = carried_there _ _ M.memories v.memories (seen_there memory_of (HoldsMemory (memory_keeps (data_segments_of r))) (λ n y s k. (k.value, (k.is, k.read))) 0 (memories_of r) (memories x.memories) h.memories) (λ i y. sym (memory_stays (moving moved) (λ s n. refl) (λ n. refl) y));
      tags = carried_there _ _ M.tags v.tags (seen_there tag_of HoldsTag (λ n t s k. (k.value, (k.is, k.read))) 0 (tags_of r) (tags x.tags) h.tags) (λ i t. sym (tag_stays (moving moved) (λ s n. refl) (λ n. refl) t));
      globals = carried_there _ _ M.globals v.globals (seen_there global_of HoldsGlobal (λ n g s k. (k.value, (k.is, k.read))) 0 (globals_of r) (globals x.globals) h.globals) (λ i g. sym (global_stays (moving moved) (λ s n. refl) (λ n. refl) g));
      elements = carried_there _ _ M.elements v.elements (seen_there element_of HoldsElement (λ n e s k. (k.value, (k.is, k.read))) 0 (elements_of r) (elements x.elements) h.elements) (λ i e. sym (element_stays (moving moved) (λ s n. refl) (λ n. refl) e));
      data_segments = carried_there _ _ M.data_segments v.data_segments (seen_there data_of HoldsData (λ n d s k. (k.value, (k.is, k.read))) 0 (data_segments_of r) (data_segments x.data_) h.data_segments) (λ i d. sym (data_stays (moving moved) (λ s n. refl) (λ n. refl) d));
      imports_apart = λ i j k l e. e;
      apart = λ space no i j k l e. e;
      exports = exported c r x h ∙ sym (map-itself (renamed_export (moving moved)) _ (λ e. refl));
      start = h.start ∙ sym (start_stays (moving moved) (λ s n. refl) (λ n. refl) r.start);
    };
    bodies = whole_bodies;
    in_place = λ y. refl;
    imports_in_place = λ i. refl;
    table_segments = λ table segment. tables_seen (table_keeps (elements_of r)) 0 (tables_of r) (tables x.tables) h.tables table segment (λ past. ap (λ (n : ℕ). table_keeps (elements_of r) n segment) (from_zero table) ∙ on_tables table segment past) ∙ ap (λ (n : ℕ). table_keeps (elements_of r) n segment) (from_zero table);
    memory_segments = λ memory segment. kept_seen (memory_keeps (data_segments_of r)) 0 (memories_of r) (memories x.memories) h.memories memory segment (λ past. ap (λ (n : ℕ). memory_keeps (data_segments_of r) n segment) (from_zero memory) ∙ on_memories memory segment past) ∙ ap (λ (n : ℕ). memory_keeps (data_segments_of r) n segment) (from_zero memory);
    section_roots = refl;
    customs = kept;
    producers = put_in;
    own = nameless config own_names TheModule TheModule;
    items = λ y live. nameless config own_names (AnItem y) (AnItem y);
    added = λ i past. ap last_name (nothing_named c _ x h (AnItem (Types, i)));
    locals = λ f b y is typed. nameless config own_names (ALocal f y) (ALocal f (moved f y));
  }

  module _ (config : Config) (own_names : config.synthetic_names ≡ false) (on_tables : (table segment : ℕ) → length (tables_of r) ≤ table → table_keeps (elements_of r) table segment ≡ false)
      (on_memories : (memory segment : ℕ) → length (memories_of r) ≤ memory → memory_keeps (data_segments_of r) memory segment ≡ false) (cs : List Custom) (kept : cs ≡ customs_of r.customs) (put_in : v.producers ≡ produced ps) where
    -- the types that were read, and where each local is put
    pub parsed_types : (parsed config own_names on_tables on_memories cs kept put_in).types ≡ types
    unfolding parsed
    parsed_types = refl

    pub parsed_places : (parsed config own_names on_tables on_memories cs kept put_in).renaming ≡ moving moved
    unfolding parsed
    parsed_places = refl
