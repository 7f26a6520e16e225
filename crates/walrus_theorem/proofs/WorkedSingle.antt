-- A module of one function with neither parameters, results nor locals: all of it stays under its own numbers in each step.
use Rattle.std.proofs.Common.{◌≡◌, ℕ, zero, suc, ◌<◌, ◌≤◌, false, List, [], ◌∷◌, length, refl, sym, ap, ◌∙◌, subst, arith, inl, ⊎_elim}
use Rattle.std.specs.Prelude.{Option, Some, None, IsSome, is_some, Contains, slice_get, ◌↔◌}
use Rattle.walrus_base.specs.Operators as items
use Rattle.walrus_base.specs.Operators.{Space, Types, Functions, Tables, Memories, Globals, Elements, DataSegments, Item, Op, locals_of}
use Rattle.walrus_model.specs.Abstract.{Abstract, Name, Subject, AnItem, Body, LocalFunction, Uninitialised, Function, Element, Export, Custom, ProducerField}
use Rattle.walrus_model.specs.Carried.{Carried}
use Rattle.walrus_model.specs.Config.{Config}
use Rattle.walrus_model.specs.Handlers.{handlers_of}
use Rattle.walrus_model.specs.Kept.{Kept, IsImportOf}
use Rattle.walrus_model.specs.Live.{IsLive}
use Rattle.walrus_model.specs.Names.{body_of, last_name, name_of}
use Rattle.walrus_model.specs.Order.{Rises, ByImport}
use Rattle.walrus_model.specs.Pipeline.{Collected, KeepsOnly}
use Rattle.walrus_model.specs.Producers.{produced}
use Rattle.walrus_model.specs.Reached.{Reached, step}
use Rattle.walrus_model.specs.Renaming.{unchanged}
use Rattle.walrus_model.specs.Sections.{body_with, passes, is_on_table}
use Rattle.walrus_base.proofs.Lists.{Contains-head, Contains-none}
use Rattle.walrus_theorem.specs.Chain.{ParsedAs, AndThose, NoFunction, NoMore, AreFoundOrAdded, IsWholeBody, IsBehind}
use Rattle.walrus_theorem.proofs.NeedsBase.{no_item, one_item}
use Rattle.walrus_theorem.proofs.SegmentStep.{carried_itself}
use Rattle.walrus_theorem.proofs.WorkedWritten.{the_type}

pub name_list : Option Name → List Name
name_list None = []
name_list (Some name) = name ∷ []

pub last_of_list : (o : Option Name) → last_name (name_list o) ≡ o
unfolding name_list
last_of_list None = refl
last_of_list (Some name) = refl

pub nothing_there : {X : Type 0} (x : X) → ◌≡◌ {A = Option X} None (Some x) → ⊥
nothing_there x e = cc

-- all of a space is kept
pub all_of : {X : Type 0} (K : ℕ → Type 0) (xs : ℕ → Option X) → ((i : ℕ) → IsSome (xs i) → K i) → KeepsOnly K xs xs
all_of K xs h = record { kept = λ i k. refl; left = λ i x at. (h i (ap is_some at), at) }

module _ (ops : List Op) (exports : List Export) (start : Option ℕ) where
  abbrev pub the_body : Body
  the_body = body_with [] ([], ops)

  abbrev pub the_function : Function
  the_function = record { ty = 0; kind = LocalFunction the_body }

  -- the module with these element segments, of which those of tables are these
  abbrev pub single : (elements on_tables : List Element) → List Custom → List ProducerField → (Subject → List Name) → Abstract
  single elements on_tables customs producers named = record {
    types = slice_get (the_type ∷ []);
    imports = slice_get [];
    functions = slice_get (the_function ∷ []);
    tables = slice_get [];
    memories = slice_get [];
    tags = slice_get [];
    globals = slice_get [];
    elements = slice_get elements;
    data_segments = slice_get [];
    exports = exports;
    start = start;
    customs = customs;
    producers = producers;
    named = named;
    table_segments = λ t e. passes (λ y. is_on_table t y.kind) (slice_get on_tables e);
    memory_segments = λ t d. false;
    handler_types = λ f. [];
    section_roots = [];
  }

  module _ (elements on_tables : List Element) (customs : List Custom) (producers : List ProducerField) (named : Subject → List Name) where
    abbrev m : Abstract
    m = single elements on_tables customs producers named

    pub function_at : (f : ℕ) (g : Function) → m.functions f ≡ Some g → the_function ≡ g
    function_at zero g e = cc
    function_at (suc f) g e = absurd (nothing_there g e)

    pub body_at : (f : ℕ) (b : Body) → body_of m f ≡ Some b → the_body ≡ b
    body_at zero b e = cc
    body_at (suc f) b e = absurd (nothing_there b e)

    itself : Carried (IsLive m) (λ x. ⊥) unchanged m m
    itself = carried_itself m
        (λ i f at un. let e : LocalFunction the_body ≡ Uninitialised = ap (λ (g : Function). g.kind) (function_at i f at) ∙ un in absurd (cc))
        (λ i x at. absurd (nothing_there x at))

    -- and in a module that differs in what isn't carried, whatever may be added
    module _ (Added : Item → Type 0) (tables_too : List Element) (other_customs : List Custom) (other_producers : List ProducerField) (other_names : Subject → List Name) where
      pub all_carried : Carried (IsLive m) Added unchanged m (single elements tables_too other_customs other_producers other_names)
      all_carried = record {
        types = record { same = itself.types.same; onto = λ j h. ⊎_elim (λ k. inl k) (λ none. absurd none) (itself.types.onto j h) };
        imports = itself.imports;
        functions = record { same = itself.functions.same; onto = λ j h. ⊎_elim (λ k. inl k) (λ none. absurd none) (itself.functions.onto j h) };
        tables = record { same = itself.tables.same; onto = λ j h. ⊎_elim (λ k. inl k) (λ none. absurd none) (itself.tables.onto j h) };
        memories = record { same = itself.memories.same; onto = λ j h. ⊎_elim (λ k. inl k) (λ none. absurd none) (itself.memories.onto j h) };
        tags = record { same = itself.tags.same; onto = λ j h. ⊎_elim (λ k. inl k) (λ none. absurd none) (itself.tags.onto j h) };
        globals = record { same = itself.globals.same; onto = λ j h. ⊎_elim (λ k. inl k) (λ none. absurd none) (itself.globals.onto j h) };
        elements = record { same = itself.elements.same; onto = λ j h. ⊎_elim (λ k. inl k) (λ none. absurd none) (itself.elements.onto j h) };
        data_segments = record { same = itself.data_segments.same; onto = λ j h. ⊎_elim (λ k. inl k) (λ none. absurd none) (itself.data_segments.onto j h) };
        imports_apart = itself.imports_apart;
        apart = itself.apart;
        exports = itself.exports;
        start = itself.start;
      }

    still : (space : Space) → (space ≡ Types → ⊥) → (i j : ℕ) → IsLive m (space, i) → IsLive m (space, j) → ByImport m space i j → i < j
    still Types away i j li lj before = absurd (away refl)
    still Functions away i j li lj before =
        let here : ByImport m Functions 0 0 = subst (λ k. ByImport m Functions 0 k) (one_item the_function j lj) (subst (λ k. ByImport m Functions k j) (one_item the_function i li) before) in
        absurd (⊎_elim (λ less. let l : length ops < length ops = less in omega (arith, l)) (λ same. let l : 0 < 0 = same.1 in omega (arith, l)) here)
    still Tables away i j li lj before = absurd (no_item i li)
    still Memories away i j li lj before = absurd (no_item i li)
    still items.Tags away i j li lj before = absurd (no_item i li)
    still Globals away i j li lj before = absurd (no_item i li)
    still Elements away i j li lj before = before
    still DataSegments away i j li lj before = before

    pub all_rises : Rises (IsLive m) (ByImport m) unchanged (IsImportOf (IsLive m) m)
    all_rises = record { items = still; imports = λ i j li lj less. less }

  -- ---- parsed

  module _ (c : Config) (customs : List Custom) (producers : List ProducerField) (named : Subject → List Name) where
    abbrev read : Abstract
    read = single [] [] customs producers named

    abbrev pub parsed : Abstract
    parsed = single [] [] customs (produced producers) (λ y. name_list (name_of c read y))

    one_there : (f : ℕ) → IsSome (read.functions f) ↔ (f < 1)
    one_there zero = (λ h. omega arith, λ l. refl)
    one_there (suc f) = (λ h. absurd (no_item f h), λ (l : suc f < 1). absurd (omega (arith, l)))

    whole_body : locals_of ops ≡ [] → (f : ℕ) → IsWholeBody unchanged f the_body the_body
    whole_body none f = record {
      parameters = refl;
      types = λ x v e. absurd (nothing_there v e);
      counted = record {
        locals = [];
        distinct = λ i j d less at. absurd (omega arith);
        are = λ x. (λ at. absurd (Contains-none x at), λ d. absurd (Contains-none x (subst (λ l. Contains l x) none d.0)));
        count = refl;
      };
      rise = λ x y hx hy less. less;
    }

    pub single_parsed : handlers_of read the_body ≡ [] → locals_of ops ≡ [] → ((i : ℕ) → 1 ≤ i → name_of c read (AnItem (Types, i)) ≡ None) → ParsedAs c read parsed
    single_parsed handlers uses unnamed = record {
      types = the_type ∷ [];
      functions = 1;
      all_types = the_type ∷ [];
      types_read = λ i. refl;
      functions_read = one_there;
      handlers = AndThose 0 [] _ (the_type ∷ []) _ (subst (λ comps. AreFoundOrAdded comps (the_type ∷ []) (the_type ∷ []) []) (sym handlers) (NoMore _)) (NoFunction _);
      types_made = λ i. refl;
      no_handlers = λ f past. refl;
      renaming = unchanged;
      carried = all_carried [] [] customs producers named (IsBehind 1) [] customs (produced producers) parsed.named;
      bodies = λ f a b is was. subst (λ (d : Body). IsWholeBody unchanged f d b) (body_at [] [] customs producers named f a is) (subst (IsWholeBody unchanged f the_body) (body_at [] [] customs producers named f b was) (whole_body uses f));
      in_place = λ x. refl;
      imports_in_place = λ i. refl;
      table_segments = λ table segment. refl;
      memory_segments = λ memory segment. refl;
      section_roots = refl;
      customs = refl;
      producers = refl;
      own = last_of_list _;
      items = λ x live. last_of_list _;
      added = λ i past. last_of_list _ ∙ unnamed i past;
      locals = λ f b x is there. last_of_list _;
    }

    -- ---- kept: all of it, where the function is reached

    module _ (reached : Reached parsed (Functions, 0)) where
      function_kept : (i : ℕ) → IsSome (parsed.functions i) → Kept parsed (Functions, i)
      function_kept i h = inl (subst (λ k. Reached parsed (Functions, k)) (sym (one_item the_function i h)) reached)

      type_kept : (i : ℕ) → IsSome (parsed.types i) → Kept parsed (Types, i)
      type_kept i h = inl (subst (λ k. Reached parsed (Types, k)) (sym (one_item the_type i h)) (step (Functions, 0) (Types, 0) reached (inl (Contains-head (Types, 0) _))))

      pub single_collected : Collected parsed parsed
      single_collected = record {
        types = all_of _ _ type_kept;
        imports = record { kept = λ i k. refl; left = λ i x at. absurd (nothing_there x at) };
        functions = all_of _ _ function_kept;
        tables = all_of _ _ (λ i h. absurd (no_item i h));
        memories = all_of _ _ (λ i h. absurd (no_item i h));
        tags = all_of _ _ (λ i h. absurd (no_item i h));
        globals = all_of _ _ (λ i h. absurd (no_item i h));
        elements = all_of _ _ (λ i h. absurd (no_item i h));
        data_segments = all_of _ _ (λ i h. absurd (no_item i h));
        exports = refl;
        start = refl;
        customs = refl;
        producers = refl;
        named = λ y h. refl;
        table_segments = λ table k segment. refl;
        memory_segments = λ memory k segment. refl;
        handler_types = λ f k. refl;
        section_roots = refl;
      }
