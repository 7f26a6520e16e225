-- A module in the form in which modules are written, parsed: it has all of its types already.
use Rattle.std.proofs.Common.{◌≡◌, ℕ, ◌<◌, ◌≤◌, false, true, List, [], ◌∷◌, length, refl, sym, ap, ◌∙◌, subst, arith, inl}
use Rattle.std.proofs.lemmas.Option.{slice_get_past}
use Rattle.std.specs.Prelude.{Option, Some, None, IsSome, is_some, Contains, slice_get}
use Rattle.std.specs.List.{range_with_len}
use Rattle.walrus_base.specs.Types.{ValType, CompType}
use Rattle.walrus_base.specs.Operators.{Types, Functions, Tables, Memories, Tags, Globals, Elements, DataSegments, Item}
use Rattle.walrus_model.specs.BlockHandlers.{params_of}
use Rattle.walrus_model.specs.Abstract.{Abstract, Name, TheModule, AnItem, ALocal, TypeDef, Body, FunctionKind, ImportedFunction, LocalFunction, Uninitialised}
use Rattle.walrus_model.specs.Carried.{Carried}
use Rattle.walrus_model.specs.Config.{Config}
use Rattle.walrus_model.specs.Handlers.{handlers_of}
use Rattle.walrus_model.specs.Live.{IsLive}
use Rattle.walrus_model.specs.Names.{body_of, body_of_function, body_of_kind, name_of, last_name}
use Rattle.walrus_model.specs.Producers.{produced}
use Rattle.walrus_model.specs.Renaming.{unchanged, renamed_table, renamed_memory, renamed_tag, renamed_global, renamed_element, renamed_data, renamed_import}
use Rattle.walrus_model.specs.Same.{BothAnd, SameType, SameFunction}
use Rattle.walrus_model.specs.Sections.{body_with}
use Rattle.walrus_theorem.specs.Chain.{Found, AreFoundOrAdded, NoMore, AndThen, handlers_by, AddsHandlers, NoFunction, AndThose, IsBehind, IsWholeBody, ParsedAs}
use Rattle.walrus_theorem.specs.SettledForm.{IsFirstLoneType, IsWrittenForm}
use Rattle.walrus_base.proofs.Lists.{Contains-head, Contains-tail}
use Rattle.walrus_model.proofs.PipelineSame.{table_stays, memory_stays, tag_stays, global_stays, element_stays, data_stays, import_stays, exports_stay, start_stays, type_itself, function_itself}
use Rattle.walrus_theorem.proofs.AgainRead.{IsReadWell}
use Rattle.walrus_theorem.proofs.NoCause.{import_live}
use Rattle.walrus_theorem.proofs.Plain.{masked, as_list, wanted}
use Rattle.walrus_model.proofs.SettleDeclared.{body_there}
use Rattle.walrus_theorem.proofs.WrittenBodies.{whole_itself}
use Rattle.walrus_base.proofs.Standing.{some_of}

pub last_as_list : (o : Option Name) → last_name (as_list o) ≡ o
last_as_list None = refl
last_as_list (Some name) = refl

masked_there : {X Y : Type 0} (o : Option X) (q : Option Y) → IsSome o → masked o q ≡ q
masked_there (Some x) q h = refl
masked_there None q h = let no : false ≡ true = h in absurd (cc)

masked_not : {X Y : Type 0} (o : Option X) (q : Option Y) → o ≡ None → masked o q ≡ None
masked_not None q h = refl
masked_not (Some x) q h = absurd (cc)

same_by : {X : Type 0} (S : X → X → Type 0) (a : Option X) → IsSome a → ((x : X) → a ≡ Some x → S x x) → BothAnd S a a
same_by S (Some x) h law = law x refl
same_by S None h law = let no : false ≡ true = h in absurd (cc)

kind_local : (k : FunctionKind) (b : Body) → body_of_kind k ≡ Some b → k ≡ LocalFunction b
kind_local (LocalFunction d) b e = let is : d ≡ b = cc in ap LocalFunction is
kind_local (ImportedFunction i) b e = absurd (cc)
kind_local Uninitialised b e = absurd (cc)

-- ---- the types that its handlers need

module _ (n : Abstract) where
  abbrev HaveTypes : List (CompType ℕ) → Type 0
  HaveTypes comps = (comp : CompType ℕ) → Contains comps comp → (j : ℕ) × IsFirstLoneType n comp j

  abbrev rest_have : (comp : CompType ℕ) (comps : List (CompType ℕ)) → HaveTypes (comp ∷ comps) → HaveTypes comps
  rest_have comp comps h d at = h d (Contains-tail comp d comps at)

  abbrev places_for : (comps : List (CompType ℕ)) → HaveTypes comps → List ℕ
  places_for [] h = []
  places_for (comp ∷ comps) h = (h comp (Contains-head comp comps)).0 ∷ places_for comps (rest_have comp comps h)

  module _ (list : List TypeDef) (types : (i : ℕ) → n.types i ≡ slice_get list i) where
    found_for : (comps : List (CompType ℕ)) (h : HaveTypes comps) → AreFoundOrAdded comps list list (places_for comps h)
    found_for [] h = NoMore list
    found_for (comp ∷ comps) h =
        let first = h comp (Contains-head comp comps) in
        AndThen comp comps list list list first.0 (places_for comps (rest_have comp comps h))
        (Found (sym (types first.0) ∙ first.1.0.0, first.1.0.1) (λ p less at. first.1.1 p less (types p ∙ at.0, at.1)) refl)
        (found_for comps (rest_have comp comps h))

module _ (c : Config) (n : Abstract) (form : IsWrittenForm c n) (well : IsReadWell c n) where
  pub has_types : (f : ℕ) (b : Body) → body_of n f ≡ Some b → HaveTypes n (handlers_of n b)
  has_types f b at comp has = form.handlers comp (f, b, ap is_some (body_there (n.functions f) b at).1, at, has)

  abbrev places_by : (f : ℕ) (o : Option Body) → body_of n f ≡ o → List ℕ
  places_by f None at = []
  places_by f (Some b) at = places_for n (handlers_of n b) (has_types f b at)

  abbrev places : ℕ → List ℕ
  places f = places_by f (body_of n f) refl

  found_by : (f : ℕ) (o : Option Body) (at : body_of n f ≡ o) → AreFoundOrAdded (handlers_by n o) well.list well.list (places_by f o at)
  found_by f None at = NoMore well.list
  found_by f (Some b) at = found_for n well.list well.types (handlers_of n b) (has_types f b at)

  adds_none : (fs : List ℕ) → AddsHandlers n places fs well.list well.list
  adds_none [] = NoFunction well.list
  adds_none (f ∷ fs) = AndThose f fs well.list well.list well.list (found_by f (body_of n f) refl) (adds_none fs)

  no_places_by : (f : ℕ) (o : Option Body) (at : body_of n f ≡ o) → well.count ≤ f → places_by f o at ≡ []
  no_places_by f None at le = refl
  no_places_by f (Some b) at le = let lt : f < well.count = (well.functions f).0 (ap is_some (body_there (n.functions f) b at).1) in absurd (omega (arith, lt, le))

  -- ---- carried as it is

  pub carried_by : (K A : Item → Type 0) → ((x : Item) → IsLive n x → K x) → ((x : Item) → K x → IsLive n x) → Carried K A unchanged n n
  carried_by K A in_k out_k = record {
    types = record { same = λ i k. same_by (SameType (λ t. t) i) (n.types i) (out_k (Types, i) k) (λ x at. type_itself unchanged (λ s i. refl) (λ i. refl) i x); onto = λ j h. inl (j, in_k (Types, j) h, refl) };
    imports = record {
      same = λ i k. same_by (λ x y. y ≡ renamed_import unchanged x) (n.imports i) (ap is_some k.1) (λ x at. sym (import_stays unchanged (λ s i. refl) (λ i. refl) x));
      onto = λ j h. let x = some_of (n.imports j) h in inl (j, (x.0, x.1, in_k x.0.item (import_live n x.0.item j (well.read.imports.imports j x.0 x.1))), refl);
    };
    functions = record { same = λ i k. same_by (SameFunction unchanged i) (n.functions i) (out_k (Functions, i) k) (λ x at. function_itself i x (well.made i x at)); onto = λ j h. inl (j, in_k (Functions, j) h, refl) };
    tables = record { same = λ i k. same_by (λ x y. y ≡ renamed_table unchanged x) (n.tables i) (out_k (Tables, i) k) (λ x at. sym (table_stays unchanged (λ s i. refl) (λ i. refl) x)); onto = λ j h. inl (j, in_k (Tables, j) h, refl) };
    memories = record { same = λ i k. same_by (λ x y. y ≡ renamed_memory unchanged x) (n.memories i) (out_k (Memories, i) k) (λ x at. sym (memory_stays unchanged (λ s i. refl) (λ i. refl) x)); onto = λ j h. inl (j, in_k (Memories, j) h, refl) };
    tags = record { same = λ i k. same_by (λ x y. y ≡ renamed_tag unchanged x) (n.tags i) (out_k (Tags, i) k) (λ x at. sym (tag_stays unchanged (λ s i. refl) (λ i. refl) x)); onto = λ j h. inl (j, in_k (Tags, j) h, refl) };
    globals = record { same = λ i k. same_by (λ x y. y ≡ renamed_global unchanged x) (n.globals i) (out_k (Globals, i) k) (λ x at. sym (global_stays unchanged (λ s i. refl) (λ i. refl) x)); onto = λ j h. inl (j, in_k (Globals, j) h, refl) };
    elements = record { same = λ i k. same_by (λ x y. y ≡ renamed_element unchanged x) (n.elements i) (out_k (Elements, i) k) (λ x at. sym (element_stays unchanged (λ s i. refl) (λ i. refl) x)); onto = λ j h. inl (j, in_k (Elements, j) h, refl) };
    data_segments = record { same = λ i k. same_by (λ x y. y ≡ renamed_data unchanged x) (n.data_segments i) (out_k (DataSegments, i) k) (λ x at. sym (data_stays unchanged (λ s i. refl) (λ i. refl) x)); onto = λ j h. inl (j, in_k (DataSegments, j) h, refl) };
    imports_apart = λ i j a b e. e;
    apart = λ space h i j a b e. e;
    exports = sym (exports_stay unchanged (λ s i. refl) (λ i. refl) n.exports);
    start = sym (start_stays unchanged (λ s i. refl) (λ i. refl) n.start);
  }

  -- ---- what is parsed of n

  abbrev pub again : Abstract
  again = record n { producers = produced n.producers; named = λ y. as_list (wanted c n y); handler_types = places }

  carried_again : Carried (IsLive n) (IsBehind (length well.list)) unchanged n again
  carried_again = let h = carried_by (IsLive n) (IsBehind (length well.list)) (λ x k. k) (λ x k. k) in record {
    types = h.types;
    imports = h.imports;
    functions = h.functions;
    tables = h.tables;
    memories = h.memories;
    tags = h.tags;
    globals = h.globals;
    elements = h.elements;
    data_segments = h.data_segments;
    imports_apart = h.imports_apart;
    apart = h.apart;
    exports = h.exports;
    start = h.start;
  }

  pub wanted_is : (x : Item) → IsLive n x → wanted c n (AnItem x) ≡ name_of c n (AnItem x)
  wanted_is (Types, i) live = masked_there (n.types i) (name_of c n (AnItem (Types, i))) live
  wanted_is (Functions, i) live = refl
  wanted_is (Tables, i) live = refl
  wanted_is (Memories, i) live = refl
  wanted_is (Tags, i) live = refl
  wanted_is (Globals, i) live = refl
  wanted_is (Elements, i) live = refl
  wanted_is (DataSegments, i) live = refl

  whole_body : (f : ℕ) (a : Body) → body_of n f ≡ Some a → IsWholeBody unchanged f a a
  whole_body f a at =
      let fn = body_there (n.functions f) a at in
      let local : fn.0.kind ≡ LocalFunction a = kind_local fn.0.kind a (sym (ap body_of_function fn.1) ∙ at) in
      let s = well.read.bodies f fn.0 a fn.1 local in
      let ps : List (ValType ℕ) = params_of (n.types fn.0.ty) in
      let here : body_of n f ≡ Some (body_with ps s.said) = at ∙ ap Some s.is in
      subst (λ x. IsWholeBody unchanged f x x) (sym s.is)
      (whole_itself ps s.said (well.uses f (body_with ps s.said) here) (λ x used. well.holds.indices.locals f (body_with ps s.said) x here used) f)

  one_body : (f : ℕ) (a b : Body) → body_of n f ≡ Some a → body_of again f ≡ Some b → IsWholeBody unchanged f a b
  one_body f a b at to =
      let both : Some a ≡ Some b = sym at ∙ to in
      let is : a ≡ b = cc in
      subst (λ x. IsWholeBody unchanged f a x) is (whole_body f a at)

  pub parsed_again : ParsedAs c n again
  parsed_again = record {
    types = well.list;
    functions = well.count;
    all_types = well.list;
    types_read = well.types;
    functions_read = well.functions;
    handlers = adds_none (range_with_len 0 well.count);
    types_made = well.types;
    no_handlers = λ f le. no_places_by f (body_of n f) refl le;
    renaming = unchanged;
    carried = carried_again;
    bodies = one_body;
    in_place = λ x. refl;
    imports_in_place = λ i. refl;
    table_segments = λ t e. refl;
    memory_segments = λ i d. refl;
    section_roots = well.plain.section_roots;
    customs = refl;
    producers = refl;
    own = last_as_list (wanted c n TheModule);
    items = λ x live. last_as_list (wanted c n (AnItem x)) ∙ wanted_is x live;
    added = λ i le. last_as_list (wanted c n (AnItem (Types, i))) ∙ masked_not (n.types i) (name_of c n (AnItem (Types, i))) (well.types i ∙ slice_get_past well.list i le);
    locals = λ f b x at there. last_as_list (wanted c n (ALocal f x));
  }
