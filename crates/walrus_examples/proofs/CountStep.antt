-- Counting, step by step: a type, a function with its import, and a call of it in front of each body.
use Rattle.std.proofs.Common.{◌≡◌, ℕ, ◌<◌, ◌≤◌, Bool, true, false, List, [], ◌∷◌, filter, length, append-nil, not, Option, Some, None, IsSome, option_map, refl, sym, ap, ◌∙◌, subst, inl, inr, ⊎_elim, arith}
use Rattle.std.specs.Prelude.{◌⊎◌, ◌&&◌}
use Rattle.std.specs.List.{range_with_len}
use Rattle.std.proofs.lemmas.Bool.{cases_lt}
use Rattle.std.proofs.lemmas.List.{get_or_past}
use Rattle.std.proofs.lemmas.List.Elements.{AllZip-get_or}
use Rattle.std.proofs.lemmas.Slice.Zip.{AllZip-long}
use Rattle.walrus.specs.Base.Arena.{item_at}
use Rattle.walrus.specs.Base.Id.{place}
use Rattle.walrus.specs.Base.Types.{Func}
use Rattle.walrus.specs.Base.IdValue.{Id}
use Rattle.walrus.specs.Base.TypeKey.{TypeKey}
use Rattle.walrus.specs.Base.Composite.{function_of}
use Rattle.walrus.specs.Base.Locals.{locals}
use Rattle.walrus.specs.Base.Operators.{Types, Functions, Tables, Memories, Tags, Globals, Elements, DataSegments, Item, Op, function_item, locals_of}
use Rattle.walrus.specs.Base.PlaceList.{has}
use Rattle.walrus.specs.Base.ModuleLocals.{ModuleLocals}
use Rattle.walrus.specs.Items.Function.{args_of, body_of, function_type}
use Rattle.walrus.specs.Items.LocalFunction.{LocalFunction}
use Rattle.walrus.specs.Ir.Instructions.{call_op}
use Rattle.walrus.specs.Model.Abstract as abstract
use Rattle.walrus.specs.Model.Config.{Config}
use Rattle.walrus.specs.Model.EmittedBody.{types_of as local_types}
use Rattle.walrus.specs.Model.Live.{IsLive}
use Rattle.walrus.specs.Model.Rules.{IsFunctionType}
use Rattle.walrus.specs.Items.FunctionKind.{FunctionKind}
use Rattle.walrus.specs.Items.FunctionKind.TheVariants.{Import, Local, Uninitialized}
use Rattle.walrus.specs.Items.Functions.{FunctionValue, functions}
use Rattle.walrus.specs.Items.Imports.{imports}
use Rattle.walrus.specs.Contents.View.{body, contents_view, function, handlers_at}
use Rattle.walrus.specs.Contents.Contents.{Contents}
use Rattle.walrus.specs.Theorem.Chain.{alone}
use Rattle.walrus.specs.Theorem.EditLaws.{AddsLive, IsWholeModule, LeadsToLive}
use Rattle.walrus.specs.Theorem.Edits.{GainsImported, GainsItem, SwapsBodies}
use Rattle.walrus.specs.Theorem.Sound.{IsSound}
use Rattle.walrus.specs.Theorem.WellMade.{IsWellFormed}
use Rattle.walrus.proofs.Theorem.EditSound.{well_made_is_sound}
use Rattle.walrus.proofs.Base.Standing.{some_of}
use Rattle.walrus.proofs.Theorem.EditKept.{none_isnt, some_is, some_there}
use Rattle.walrus.proofs.Theorem.EditFunctions.{bodies_swapped}
use Rattle.walrus.proofs.Theorem.EditItems.{imported_gained, item_gained}
use Rattle.walrus.proofs.Theorem.EditLeads.{leads_live, leads_to_type}
use Rattle.walrus.specs.Modules.Edits.{BodySet, HasType}
use Rattle.walrus.specs.Modules.Replaced.{with_body}
use Rattle.walrus.specs.Modules.View.{contents_of, held_view}
use Rattle.walrus.specs.Modules.Module.{Module}
use Rattle.walrus.proofs.Modules.CountedBodies.{held_counted}
use Rattle.walrus.proofs.Modules.EditedFunctions.{bodies_written, function_imported}
use Rattle.walrus.proofs.Modules.EditedItems.{type_found}
use Rattle.walrus.proofs.Modules.EditedSlots.{comes_behind}
use Rattle.walrus_examples.proofs.CallBody.{with_call}
use Rattle.walrus_examples.proofs.CallSound.{call_leads, call_sound, imported_refers, imported_sound, type_sound}
use Rattle.walrus_examples.specs.Count.{CallsFirst, ImportsIn, KindCalls, SlotCalls}
use Rattle.walrus_examples.specs.CountAnswers.{Counts}

-- ---- a function whose body begins with a call

module _ (all : ModuleLocals) (n : ℕ) where
  -- the function of this type with these parameters and operators
  abbrev with_ops : Id TypeKey → List ℕ → List Op → abstract.Function
  with_ops ty args ops = record {
    ty = place ty;
    kind = abstract.LocalFunction (record {
      parameters = args;
      local_type = item_at (local_types (locals all));
      declared = length (filter (λ x. has (locals_of ops) x && not (has args x)) (range_with_len 0 (length (locals all))));
      operators = ops;
    });
  }

  local_calls : (f g : LocalFunction) → CallsFirst n f g → with_ops (function_type g) (args_of g) (body_of g) ≡ with_ops (function_type f) (args_of f) (call_op n ∷ body_of f)
  local_calls f g first =
      ap (λ (ty : Id TypeKey). with_ops ty (args_of g) (body_of g)) first.others.head.typed
      ∙ ap (λ (args : List ℕ). with_ops (function_type f) args (body_of g)) first.others.head.args
      ∙ ap (with_ops (function_type f) (args_of f)) first.in_front

-- a function with a body, before and after
record Calling (n : ℕ) (o slot : Option FunctionValue) : Type 0 where
  f : FunctionValue
  old : LocalFunction
  new : LocalFunction
  there : o ≡ Some f
  kind : f.kind ≡ Local old
  now : slot ≡ Some (with_body new f)
  first : CallsFirst n old new

of_kind : (f : FunctionValue) (kind k : FunctionKind) (slot : Option FunctionValue) → slot ≡ Some (record f { kind = kind }) → kind ≡ k → slot ≡ Some (record f { kind = k })
of_kind f kind k slot is same = is ∙ ap (λ (x : FunctionKind). Some (record f { kind = x })) same

turns : (n : ℕ) (o slot : Option FunctionValue) → SlotCalls n o slot → (slot ≡ o) ⊎ Calling n o slot
turns n None slot is = inl is
turns n (Some f) slot (kind, is, calls) = by f.kind refl calls where
  by : (k : FunctionKind) → f.kind ≡ k → KindCalls n k kind → (slot ≡ Some f) ⊎ Calling n (Some f) slot
  by (Local l) e (g, same, first) = inr (record { f = f; old = l; new = g; there = refl; kind = e; now = of_kind f kind (Local g) slot is same; first = first })
  by (Import i) e same = inl (of_kind f kind f.kind slot is (same ∙ sym e))
  by (Uninitialized ty) e same = inl (of_kind f kind f.kind slot is (same ∙ sym e))

abbrev tells : {n : ℕ} {o slot : Option FunctionValue} → (slot ≡ o) ⊎ Calling n o slot → Bool
tells (inl same) = false
tells (inr calling) = true

-- ---- the module

module _ {S : Type 0} (c : Config) (from name : List ℕ) (old new : Module S) (counts : Counts from name old new) (whole : IsWholeModule c (held_view old)) where
  abbrev items : ImportsIn from name old.types (counts.middle).types (functions old.funcs) (functions (counts.middle).funcs) (imports old.imports) (imports (counts.middle).imports) counts.called
  items = counts.imported.items

  abbrev p : ℕ
  p = place items.ty

  abbrev n : ℕ
  n = place counts.called

  abbrev a : ℕ
  a = place items.import_id

  abbrev mid : abstract.Abstract
  mid = held_view counts.middle

  -- ---- the type

  abbrev typed : Contents
  typed = record (contents_of old) { types = (counts.middle).types }

  has_type : HasType p (alone p (Func [] [])) (held_view old) (contents_view typed)
  has_type = type_found (contents_of old) typed (function_of [] []) p refl items.typed []

  typed_whole : IsWholeModule c (contents_view typed)
  typed_whole = ⊎_elim
      (λ (same : contents_view typed ≡ held_view old). subst (IsWholeModule c) (sym same) whole)
      (λ (gains : GainsItem Types p (alone p (Func [] [])) (held_view old) (contents_view typed)).
      let s = item_gained c (held_view old) (contents_view typed) Types p (alone p (Func [] [])) gains whole.made (type_sound c (contents_view typed) p has_type.stands) (held_counted typed) in
      record { made = s.made; reached = s.reached (λ root. (leads_live c (contents_view typed) s.made).types p (some_there ((contents_view typed).types p) has_type.stands)) whole.reached })
      has_type.comes

  -- ---- the function and its import

  gains : GainsImported Functions n a (record { ty = p; kind = abstract.ImportedFunction a }) (record { module_name = from; name = name; item = function_item n }) (contents_view typed) mid
  gains = function_imported typed (contents_of counts.middle) (counts.called, items.import_id) from name items.ty (ap contents_of counts.imported.others) items.imported []

  type : IsFunctionType mid p
  type = (alone p (Func [] []), ap (λ (x : abstract.Abstract). x.types p) gains.others ∙ has_type.stands, tt)

  mid_whole : IsWholeModule c mid
  mid_whole =
      let s = imported_gained c (contents_view typed) mid Functions n a (record { ty = p; kind = abstract.ImportedFunction a }) (record { module_name = from; name = name; item = function_item n }) gains typed_whole.made (imported_sound c mid p n a gains.item.is type) (held_counted (contents_of counts.middle)) in
      record { made = s.made; reached = s.reached tt typed_whole.reached }

  -- ---- the bodies

  abbrev pub after : Contents
  after = record (contents_of counts.middle) { funcs = new.funcs }

  abbrev w : abstract.Abstract
  w = contents_view after

  abbrev was : ℕ → Option FunctionValue
  was i = item_at (functions (counts.middle).funcs) i

  abbrev is : ℕ → Option FunctionValue
  is i = item_at (functions new.funcs) i

  calls_at : (i : ℕ) → SlotCalls n (was i) (is i)
  calls_at i = ⊎_elim
      (λ (lt : i < length (functions (counts.middle).funcs)). AllZip-get_or (SlotCalls n) (functions (counts.middle).funcs) (functions new.funcs) i None None counts.calls lt)
      (λ (le : length (functions (counts.middle).funcs) ≤ i).
      let long : length (functions new.funcs) ≡ length (functions (counts.middle).funcs) = AllZip-long (SlotCalls n) (functions (counts.middle).funcs) (functions new.funcs) counts.calls in
      subst (λ (o : Option FunctionValue). SlotCalls n o (is i)) (sym (get_or_past (functions (counts.middle).funcs) i None le)) (get_or_past (functions new.funcs) i None (omega (arith, le, long))))
      (cases_lt i (length (functions (counts.middle).funcs)))

  abbrev turn : (i : ℕ) → (is i ≡ was i) ⊎ Calling n (was i) (is i)
  turn i = turns n (was i) (is i) (calls_at i)

  swaps : SwapsBodies (λ i. tells (turn i)) mid w
  swaps = bodies_written (λ i. tells (turn i)) (contents_of counts.middle) new.funcs (counts.middle).locals ([], sym (append-nil (locals (counts.middle).locals))) (λ i. by i (turn i)) [] where
    by : (i : ℕ) (d : (is i ≡ was i) ⊎ Calling n (was i) (is i)) → (is i ≡ was i) ⊎ ((tells d ≡ true) × BodySet (was i) (is i))
    by i (inl same) = inl same
    by i (inr k) = inr (refl, record { function = k.f; old = k.old; was = k.there; had = k.kind; new = k.new; is = k.now; typed = k.first.others.head.typed })

  live_on : (y : Item) → IsLive mid y → IsLive w y
  live_on (Functions, i) h = ⊎_elim
      (λ (same : is i ≡ was i). subst (λ (o : Option FunctionValue). IsSome (option_map (function (counts.middle).locals) o)) (sym same) h)
      (λ (k : Calling n (was i) (is i)). subst (λ (o : Option FunctionValue). IsSome (option_map (function (counts.middle).locals) o)) (sym k.now) refl)
      (turn i)
  live_on (Types, i) h = h
  live_on (Tables, i) h = h
  live_on (Memories, i) h = h
  live_on (Tags, i) h = h
  live_on (Globals, i) h = h
  live_on (Elements, i) h = h
  live_on (DataSegments, i) h = h

  keeps : (i : ℕ) → w.handler_types i ≡ mid.handler_types i
  keeps i = ⊎_elim
      (λ (same : is i ≡ was i). ap handlers_at same)
      (λ (k : Calling n (was i) (is i)). ap handlers_at k.now ∙ k.first.others.handlers ∙ sym (ap (λ (x : FunctionKind). handlers_at (Some (record (k.f) { kind = x }))) k.kind) ∙ sym (ap handlers_at k.there))
      (turn i)

  module _ (i : ℕ) (k : Calling n (was i) (is i)) where
    abbrev ty : ℕ
    ty = place (function_type k.old)

    abbrev b : abstract.Body
    b = body (counts.middle).locals k.old

    stood : mid.functions i ≡ Some (record { ty = ty; kind = abstract.LocalFunction b })
    stood = ap (option_map (function (counts.middle).locals)) k.there ∙ ap (λ (x : FunctionKind). Some (function (counts.middle).locals (record (k.f) { kind = x }))) k.kind

    stands : w.functions i ≡ Some (record { ty = ty; kind = abstract.LocalFunction (with_call n b) })
    stands = ap (option_map (function (counts.middle).locals)) k.now ∙ ap (λ (f : abstract.Function). Some f) (local_calls (counts.middle).locals n k.old k.new k.first)

    -- it isn't the imported one, so that it was there before
    before : (held_view old).functions i ≡ Some (record { ty = ty; kind = abstract.LocalFunction b })
    before = sym (gains.item.others i (λ (e : i ≡ n).
        let no_such : ◌≡◌ {A = abstract.FunctionKind} (abstract.LocalFunction b) (abstract.ImportedFunction a) = ap (λ (f : abstract.Function). f.kind) (some_is (sym stood ∙ ap mid.functions e ∙ gains.item.is)) in cc)) ∙ stood

  no_handlers : mid.handler_types n ≡ []
  no_handlers = ap (λ xs. handlers_at (item_at xs n)) items.imported.items ∙ ap handlers_at (comes_behind (functions old.funcs) (record { id = n; kind = Import (record { ty = items.ty; «import» = items.import_id }); name = None }) n items.imported.item_id)

  -- what is called leads to its type alone
  called_is : w.functions n ≡ Some (record { ty = p; kind = abstract.ImportedFunction a })
  called_is = ⊎_elim
      (λ (same : is n ≡ was n). ap (option_map (function (counts.middle).locals)) same ∙ gains.item.is)
      (λ (k : Calling n (was n) (is n)).
      let no_such : ◌≡◌ {A = abstract.FunctionKind} (abstract.LocalFunction (b n k)) (abstract.ImportedFunction a) = ap (λ (f : abstract.Function). f.kind) (some_is (sym (stood n k) ∙ gains.item.is)) in cc)
      (turn n)

  module _ (formed : (i : ℕ) (f : abstract.Function) (b : abstract.Body) → (held_view old).functions i ≡ Some f → f.kind ≡ abstract.LocalFunction b → IsWellFormed c w f.ty (with_call n b)) where
    sound : (i : ℕ) (d : (is i ≡ was i) ⊎ Calling n (was i) (is i)) → tells d ≡ true → IsSound c w (Functions, i)
    sound i (inl same) h = absurd (let no_such : false ≡ true = h in cc)
    sound i (inr k) h = call_sound c mid w i n (ty i k) (b i k) (stood i k) (stands i k) (((well_made_is_sound c mid).0 mid_whole.made).0.items (Functions, i)) live_on (some_there (w.functions n) called_is)
        (formed i (record { ty = ty i k; kind = abstract.LocalFunction (b i k) }) (b i k) (before i k) refl)

    added : LeadsToLive w (function_item n) → (i : ℕ) (d : (is i ≡ was i) ⊎ Calling n (was i) (is i)) → tells d ≡ true → AddsLive mid w (Functions, i)
    added leads i (inl same) h = absurd (let no_such : false ≡ true = h in cc)
    added leads i (inr k) h = call_leads c mid w i n (ty i k) (b i k) (stood i k) (stands i k) (keeps i) leads

    pub after_whole : IsWholeModule c w
    after_whole =
        let s = bodies_swapped c mid w (λ i. tells (turn i)) swaps mid_whole.made (λ i. sound i (turn i)) (held_counted after) in
        let leads : LeadsToLive w (function_item n) = leads_to_type c w s.made (Functions, n) p (some_there (w.functions n) called_is) (some_there (w.types p) type.1) (imported_refers c w p n a called_is (keeps n ∙ no_handlers)) in
        record { made = s.made; reached = s.reached (λ i. added leads i (turn i)) mid_whole.reached }

  -- types that were there are those that are there
  pub types_kept : (i : ℕ) → IsSome ((held_view old).types i) → w.types i ≡ (held_view old).types i
  types_kept i live = ap (λ (x : abstract.Abstract). x.types i) gains.others ∙ ⊎_elim
      (λ (same : contents_view typed ≡ held_view old). ap (λ (x : abstract.Abstract). x.types i) same)
      (λ (g : GainsItem Types p (alone p (Func [] [])) (held_view old) (contents_view typed)).
      g.item.others i (λ (e : i ≡ p). none_isnt (sym g.item.was ∙ ap (held_view old).types (sym e) ∙ (some_of ((held_view old).types i) live).1)))
      has_type.comes
