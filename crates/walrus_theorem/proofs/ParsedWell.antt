-- What is parsed is well made.
use Rattle.std.proofs.Common.{◌≡◌, ℕ, ◌+◌, ◌-◌, ◌<◌, ◌≤◌, true, false, List, ◌++◌, length, get_or, refl, sym, ap, ◌∙◌, subst, arith, length-append, ⊎_elim}
use Rattle.std.specs.Prelude.{Option, Some, None, IsSome, is_some, Contains, slice_get}
use Rattle.std.specs.List.{range_with_len}
use Rattle.std.proofs.lemmas.Bool.{cases_lt}
use Rattle.std.proofs.lemmas.Grind.{get_or_default_zero}
use Rattle.std.proofs.lemmas.Option.{slice_get_within}
use Rattle.std.proofs.lemmas.List.FromFn.{length-range_with_len, get_or-range_with_len}
use Rattle.wasm_forms.proofs.Bind.{some_same}
use Rattle.walrus_base.specs.Types.{ValType}
use Rattle.walrus_base.specs.Operators.{Types, Functions, Tables, Memories, Tags, Globals, Elements, DataSegments, Item, type_item}
use Rattle.walrus_bodies.specs.FunctionTypes.{is_function_def}
use Rattle.walrus_model.specs.BlockHandlers.{params_of}
use Rattle.walrus_model.specs.ReadFunction.{locals_from}
use Rattle.walrus_model.specs.Abstract.{Abstract, Body, Function, FunctionKind, LocalFunction, ImportedFunction, Uninitialised, Import}
use Rattle.walrus_model.specs.Config.{Config}
use Rattle.walrus_model.specs.Kept.{IsImportOf}
use Rattle.walrus_model.specs.Live.{IsLive}
use Rattle.walrus_model.specs.Names.{body_of, body_of_kind, body_of_function}
use Rattle.walrus_model.specs.Order.{ByImport}
use Rattle.walrus_model.specs.Sections.{Said, body_with}
use Rattle.walrus_model.specs.Refers.{IsUsed, used_locals}
use Rattle.walrus_model.specs.Renaming.{Renaming, renamed_import}
use Rattle.walrus_model.specs.Rules.{Holds, LocalsHold, RulesHold}
use Rattle.walrus_model.specs.Same.{BothAnd, SameBody, SameKind, SameFunction}
use Rattle.walrus_model.specs.WellMade.{ImportsMatch, IsWritable, import_in, import_of, kind_import, origin_import}
use Rattle.walrus_theorem.specs.Chain.{IsWholeBody, ParsedAs}
use Rattle.walrus_theorem.specs.Features.{features_of}
use Rattle.walrus_theorem.specs.Pinned.{DeclaresLocal}
use Rattle.walrus_theorem.specs.WellMade.{IsWellFormed, IsWellMade}
use Rattle.walrus_base.proofs.Counting.{one_place, has_room}
use Rattle.walrus_model.proofs.Follow.{used_follow}
use Rattle.walrus_base.proofs.Lists.{Contains-map}
use Rattle.walrus_model.proofs.MovedBody.{ops_are}
use Rattle.walrus_theorem.proofs.NoCause.{import_live}
use Rattle.walrus_model.proofs.OffsetRules.{rules_carried}
use Rattle.walrus_model.proofs.PipelineSame.{import_stays}
use Rattle.walrus_theorem.proofs.ReadBodies.{IsRead, SaidIn}
use Rattle.walrus_bodies.specs.Body.{context, BodyReads}
use Rattle.walrus_theorem.proofs.RulesSteps.{parsed_taken}
use Rattle.walrus_model.proofs.StepPlain.{IsPlain}
use Rattle.walrus_theorem.proofs.StepParsed.{in_place, carried_parsed, tables_stay, memories_stay, tags_stay, globals_stay, types_stay, function_of_v}
use Rattle.walrus_model.proofs.Steps.{given}
use Rattle.walrus_model.proofs.TypeRules.{body_came, body_was}
use Rattle.walrus_theorem.proofs.UsedLocals.{unmap}
use Rattle.walrus_theorem.proofs.WellFormedWhole.{well_formed}
use Rattle.walrus_theorem.proofs.WellStays.{reads_in, function_has}

-- ---- how many locals: those that are used and no parameters are among those that were declared

module _ (r : Renaming) (i : ℕ) (ps : List (ValType ℕ)) (said : Said) (b : Body) (same : SameBody r i (body_with ps said) b) (whole : IsWholeBody r i (body_with ps said) b) (typed : (x : ℕ) → IsUsed (body_with ps said) x → IsSome (slice_get (ps ++ said.0) x)) where
  abbrev l : ℕ → ℕ
  l = r.locals i

  parameter : (x : ℕ) → x < length ps → Contains b.parameters (l x)
  parameter x lt = subst (λ xs. Contains xs (l x)) (sym whole.parameters)
      (Contains-map l x (range_with_len 0 (length ps)) (x, (let n : length (range_with_len 0 (length ps)) ≡ length ps = length-range_with_len 0 (length ps) in omega (arith, lt, n)), (let e : get_or (range_with_len 0 (length ps)) x x ≡ 0 + x = get_or-range_with_len 0 (length ps) x x lt in omega (arith, e))))

  within_by : (o : Option (ValType ℕ)) (x : ℕ) → slice_get (ps ++ said.0) x ≡ o → IsSome o → x < length (ps ++ said.0)
  within_by (Some v) x e h = slice_get_within (ps ++ said.0) x v e
  within_by None x e h = let no : false ≡ true = h in absurd (cc)

  -- where a declared local of the new body comes from
  from_declared : (y : ℕ) → DeclaresLocal b y → (k : ℕ) × (k < length said.0) × (l (length ps + k) ≡ y)
  from_declared y d =
      let u = unmap l (used_locals (body_with ps said)) y (subst (λ xs. Contains xs y) (used_follow r i (body_with ps said) b same) d.0) in
      let high : u.0 < length (ps ++ said.0) = within_by (slice_get (ps ++ said.0) u.0) u.0 refl (typed u.0 u.1) in
      let n : length (ps ++ said.0) ≡ length ps + length said.0 = length-append ps said.0 in
      ⊎_elim
      (λ (low : u.0 < length ps). absurd (d.1 (subst (Contains b.parameters) u.2 (parameter u.0 low))))
      (λ (past : length ps ≤ u.0).
      let is : length ps + (u.0 - length ps) ≡ u.0 = omega (arith, past) in
      (u.0 - length ps, omega (arith, past, high, n), ap l is ∙ u.2))
      (cases_lt u.0 (length ps))

  pub few : b.declared ≤ length said.0
  few =
      let counted = whole.counted in
      let n = length counted.locals in
      let room : length counted.locals ≤ length said.0 = has_room (length said.0) (λ m k. (m < length counted.locals) × (l (length ps + k) ≡ get_or counted.locals m 0)) 0 (length counted.locals)
      (λ m le lt.
      let in_list : m < length counted.locals = omega (arith, lt) in
      let y = get_or counted.locals m 0 in
      let k = from_declared (get_or counted.locals m 0) ((counted.are (get_or counted.locals m 0)).0 (m, in_list, get_or_default_zero counted.locals m (get_or counted.locals m 0) in_list)) in
      (k.0, k.1, (in_list, k.2)))
      (λ m o k p q. one_place counted.locals counted.distinct m o p.0 q.0 (sym p.1 ∙ q.1)) in
      subst (λ d. d ≤ length said.0) (sym counted.count) room

-- ---- parsing

kind_import_stays : (r : Renaming) → ((i : ℕ) → r.imports i ≡ i) → (i : ℕ) (k h : FunctionKind) → SameKind r i k h → kind_import h ≡ kind_import k
kind_import_stays r stay i (ImportedFunction p) (ImportedFunction q) s = ap Some (s ∙ stay p)
kind_import_stays r stay i (LocalFunction a) (LocalFunction b) s = refl
kind_import_stays r stay i (ImportedFunction p) (LocalFunction b) s = absurd s
kind_import_stays r stay i (ImportedFunction p) Uninitialised s = absurd s
kind_import_stays r stay i (LocalFunction a) (ImportedFunction q) s = absurd s
kind_import_stays r stay i (LocalFunction a) Uninitialised s = absurd s
kind_import_stays r stay i Uninitialised k s = absurd s

-- what is carried in place names the import that it named
both_import : (r : Renaming) → ((i : ℕ) → r.imports i ≡ i) → (i : ℕ) (a b : Option Function) → (IsSome a → BothAnd (SameFunction r i) a b) → (IsSome b → IsSome a) → import_in (λ (f : Function). kind_import f.kind) b ≡ import_in (λ (f : Function). kind_import f.kind) a
both_import r stay i (Some x) (Some y) f g = let s : SameFunction r i x y = f refl in kind_import_stays r stay i x.kind y.kind s.kind
both_import r stay i (Some x) None f g = absurd (f refl)
both_import r stay i None (Some y) f g = let no : false ≡ true = g refl in absurd (cc)
both_import r stay i None None f g = refl

module _ (c : Config) (m v : Abstract) (p : ParsedAs c m v) (plain : IsPlain m) (holds : Holds m) (read : IsRead c m) where
  abbrev r : Renaming
  r = in_place c m v p

  pub import_same : (x : Item) → import_of v x ≡ import_of m x
  import_same (Functions, i) = both_import r (λ i. refl) i (m.functions i) (v.functions i) (λ there. (carried_parsed c m v p).functions.same i there)
      (λ there. ⊎_elim
      (λ found. subst (λ j. IsSome (m.functions j)) found.2 found.1)
      (λ added. let no : Functions ≡ Types = added.0 in absurd (cc))
      ((carried_parsed c m v p).functions.onto i there))
  import_same (Tables, i) = ap (import_in (λ t. origin_import t.origin)) (tables_stay c m v p i)
  import_same (Memories, i) = ap (import_in (λ t. origin_import t.origin)) (memories_stay c m v p i)
  import_same (Tags, i) = ap (import_in (λ t. origin_import t.origin)) (tags_stay c m v p i)
  import_same (Globals, i) = ap (import_in (λ t. origin_import t.origin)) (globals_stay c m v p i)
  import_same (Types, i) = refl
  import_same (Elements, i) = refl
  import_same (DataSegments, i) = refl

  stays : (x : Import) → renamed_import r x ≡ x
  stays x = import_stays r (λ s i. refl) (λ i. refl) x

  import_there : (i : ℕ) (x : Import) → m.imports i ≡ Some x → IsLive m x.item → v.imports i ≡ Some x
  import_there i x at live =
      let t = carried_parsed c m v p in
      let there = given (λ x y. y ≡ renamed_import r x) (m.imports i) (v.imports i) x (t.imports.same i (x, at, live)) at in
      there.1 ∙ ap Some (there.2 ∙ stays x)

  import_was : (i : ℕ) (y : Import) → v.imports i ≡ Some y → (j : ℕ) → IsImportOf (IsLive m) m j → j ≡ i → m.imports i ≡ Some y
  import_was i y at j (x, there, live) e =
      let here : m.imports i ≡ Some x = subst (λ k. m.imports k ≡ Some x) e there in
      here ∙ sym (import_there i x here live) ∙ at

  pub matches : ImportsMatch v
  matches = record {
    items = λ x i e.
        let found = read.imports.items x i (sym (import_same x) ∙ e) in
        (found.0, import_there i found.0 found.1 (subst (IsLive m) (sym found.2) (import_live m x i (sym (import_same x) ∙ e))), found.2);
    imports = λ i y e.
        let t = carried_parsed c m v p in
        let was : m.imports i ≡ Some y = ⊎_elim (λ (found : (j : ℕ) × IsImportOf (IsLive m) m j × (j ≡ i)). import_was i y e found.0 found.1 found.2) (λ none. absurd none) (t.imports.onto i (ap is_some e)) in
        import_same y.item ∙ read.imports.imports i y was;
  }

  -- ---- bodies

  whole_in_place : (f : ℕ) (a b : Body) → IsWholeBody p.renaming f a b → IsWholeBody r f a b
  whole_in_place f a b h = record { parameters = h.parameters; types = h.types; counted = h.counted; rise = h.rise }

  -- what a body was in the module that was read, as what was read says it
  pub record Was (i : ℕ) (b : Body) : Type 0 where
    pub index : ℕ
    pub function : Function
    pub at : m.functions index ≡ Some function
    pub said : Said
    pub is : function.kind ≡ LocalFunction (body_with (params_of (m.types function.ty)) said)
    pub whole : IsWholeBody r index (body_with (params_of (m.types function.ty)) said) b
    pub same : SameBody r index (body_with (params_of (m.types function.ty)) said) b
    pub body_at : body_of m index ≡ Some (body_with (params_of (m.types function.ty)) said)
    pub typed : (x : ℕ) → IsUsed (body_with (params_of (m.types function.ty)) said) x → IsSome (slice_get (params_of (m.types function.ty) ++ said.0) x)
    pub text : List ℕ
    pub reads : BodyReads (context read.names (λ t. is_function_def (m.types t)) (features_of c)) (locals_from 0 (length (params_of (m.types function.ty)) + length said.0)) text said.0 said.1
    pub place : index ≡ i

  pub was : (i : ℕ) (b : Body) → body_of v i ≡ Some b → Was i b
  was i b at =
      let w = body_came (parsed_taken c m v p plain holds) i b at in
      let old : body_of m w.from ≡ Some w.body = body_was (parsed_taken c m v p plain holds) i b w in
      let a : SaidIn c m read.names w.function.ty w.body = read.bodies w.from w.function w.body w.is w.has in
      let new : body_of v w.from ≡ Some b = subst (λ k. body_of v k ≡ Some b) (sym w.number) at in
      let whole : IsWholeBody r w.from w.body b = whole_in_place w.from w.body b (p.bodies w.from w.body b old new) in
      let stands : body_of m w.from ≡ Some (body_with (params_of (m.types w.function.ty)) a.said) = old ∙ ap Some a.is in
      record {
        index = w.from;
        function = w.function;
        at = w.is;
        said = a.said;
        is = w.has ∙ ap LocalFunction a.is;
        whole = subst (λ x. IsWholeBody r w.from x b) a.is whole;
        same = subst (λ x. SameBody r w.from x b) a.is w.same;
        body_at = stands;
        typed = λ x used. holds.indices.locals w.from (body_with (params_of (m.types w.function.ty)) a.said) x stands used;
        place = w.number;
        text = a.text;
        reads = a.read;
      }

  locals_hold : LocalsHold v
  locals_hold f b at =
      let w = was f b at in
      let low : b.declared ≤ length w.said.0 = few r w.index (params_of (m.types w.function.ty)) w.said b w.same w.whole w.typed in
      let most : length w.said.0 ≤ 50_000 = holds.locals w.index (body_with (params_of (m.types w.function.ty)) w.said) w.body_at in
      omega (arith, low, most)

  pub rules_parsed : RulesHold (ByImport v) v
  rules_parsed = rules_carried (parsed_taken c m v p plain holds) locals_hold holds

  formed : (i : ℕ) (b : Body) (w : Was i b) → IsWellFormed c v w.function.ty b
  formed i b w =
      let type = holds.function_types.functions w.index w.function w.at in
      let stay : v.types w.function.ty ≡ m.types w.function.ty = types_stay c m v p w.function.ty (ap is_some type.1) in
      well_formed c v w.function.ty (params_of (m.types w.function.ty)) w.said b r w.index w.whole
      (w.same.operators ∙ ops_are r (λ s i. refl) (λ i. refl) (r.locals w.index) w.said.1)
      (ap params_of stay)
      (type.0, stay ∙ type.1, type.2)
      read.names
      w.text
      (reads_in read.names (λ t. is_function_def (m.types t)) (λ t. is_function_def (v.types t)) (features_of c) (locals_from 0 (length (params_of (m.types w.function.ty)) + length w.said.0)) w.text w.said.0 w.said.1
      (λ t has. ap is_function_def (types_stay c m v p t (holds.indices.written (Functions, w.index) (type_item t) (function_has m w.index w.function (body_with (params_of (m.types w.function.ty)) w.said) (type_item t) w.at w.is has))))
      w.reads)

  body_formed : (i : ℕ) (g : Function) (b : Body) → v.functions i ≡ Some g → g.kind ≡ LocalFunction b → IsWellFormed c v g.ty b
  body_formed i g b at is =
      let w = was i b (ap body_of_function at ∙ ap body_of_kind is) in
      let there = function_of_v c m v p w.index w.function w.at in
      let here : v.functions w.index ≡ Some g = subst (λ k. v.functions k ≡ Some g) (sym w.place) at in
      let one : there.0 ≡ g = some_same there.0 g (sym there.1 ∙ here) in
      let same : SameFunction r w.index w.function there.0 = there.2 in
      let ty : g.ty ≡ w.function.ty = ap (λ (f : Function). f.ty) (sym one) ∙ same.ty in
      subst (λ t. IsWellFormed c v t b) (sym ty) (formed i b w)

  pub parsed_well : IsWritable v → IsWellMade c v
  parsed_well writable = record {
    imports = matches;
    writable = writable;
    bodies = body_formed;
    rules = rules_parsed;
    customs = λ s at. read.customs s (subst (λ l. Contains l s) p.customs at);
    counted = λ f b at. let w = was f b at in w.whole.counted;
  }
