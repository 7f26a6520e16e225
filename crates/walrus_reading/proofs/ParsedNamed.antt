-- A module that was parsed, once its names are there.
use Rattle.std.proofs.Common.{◌≡◌, ℕ, zero, suc, ◌+◌, ◌<◌, ◌≤◌, Bool, true, false, List, [], ◌∷◌, length, map, refl, sym, ap, ap₂, subst, ◌∙◌, arith}
use Rattle.std.specs.Prelude.{Option, Some, None, IsSome, nat_lt, option_map, if◌then◌else◌, codes, decimal, ◌++◌}
use Rattle.std.specs.List.{range_with_len}
use Rattle.std.proofs.lemmas.Bool.{lt-ltb, ltb-false, ltb-true}
use Rattle.std.proofs.lemmas.List.{length-map}
use Rattle.wasm_payloads.specs.Names.{Named}
use Rattle.walrus_base.specs.Arena.{item_at}
use Rattle.walrus_base.specs.Locals.{local_type, locals}
use Rattle.walrus_base.specs.Operators.{Types, Functions, Tables, Memories, Tags, Globals, Elements, DataSegments, Item}
use Rattle.walrus_base.specs.Shape.{place_in}
use Rattle.walrus_base.specs.Value.{val_type}
use Rattle.walrus_base.specs.declared.locals.Local.{Local}
use Rattle.walrus_items.specs.declared.function_kind.FunctionKind.TheVariants as kind
use Rattle.walrus_items.specs.declared.function_kind.FunctionKind.{FunctionKind}
use Rattle.walrus_items.specs.Functions.{FunctionValue, functions}
use Rattle.walrus_model.specs.Abstract as abstract
use Rattle.walrus_model.specs.Abstract.{Abstract, Body, Function, Name, Subject, TheModule, AnItem, ALocal}
use Rattle.walrus_model.specs.Config.{Config}
use Rattle.walrus_model.specs.Live.{IsLive}
use Rattle.walrus_model.specs.Names.{body_of, body_of_function, body_of_kind, function_text, last_name, local_text, local_text_in, name_of, names_that_count, or_else, own_name, synthetic_name}
use Rattle.walrus_model.specs.Renaming.{Renaming, renamed_data, renamed_element, renamed_global, renamed_memory, renamed_table, renamed_tag}
use Rattle.walrus_model.specs.Same.{BothAnd, SameFunction, SameKind, SameType}
use Rattle.walrus_theorem.specs.Chain.{IsWholeBody, ParsedAs}
use Rattle.walrus_theorem.specs.Namings.{has, has_local, is_in_range, names_given, names_in_range}
use Rattle.walrus_base.proofs.Lookups.{place_past, place_range}
use Rattle.walrus_contents.specs.View as view
use Rattle.walrus_contents.specs.View.{contents_view, kind_of, named_of}
use Rattle.walrus_contents.specs.declared.parts.Contents.{Contents}
use Rattle.walrus_reading.specs.Laws.{IsUnnamed}
use Rattle.walrus_reading.specs.Shown.{IsRenamed, shown}
use Rattle.walrus_reading.specs.Synthetic.{named_by, parameters_at, parameters_by, text_of_local}
use Rattle.walrus_reading.specs.TakenNames.{Bounds, that_count}
use Rattle.walrus_theorem.proofs.Aside.{other, parsed_aside}
use Rattle.walrus_reading.proofs.OwnNames.{added_uncalled, item_called, local_called, module_called}
use Rattle.walrus_reading.proofs.View.{same_but_named}
use Rattle.walrus_reading.proofs.Whole.{is_renamed}
use Rattle.walrus_base.proofs.Standing.{some_of as some_is}
use Rattle.walrus_theorem.proofs.NeedsBase.{has_live as has_is}

-- ---- what is in range

in_range_given : (m : Abstract) (namings : List Named) (x : Subject) → is_in_range m x ≡ true → names_in_range m namings x ≡ names_given namings x
in_range_given m namings x e = ap (λ (t : Bool). if t then names_given namings x else []) e

-- ---- the words of both sides

item_words : (on : Bool) (m : Abstract) (x : Item) → names_that_count on m (AnItem x) ≡ m.named (AnItem x)
item_words true m x = refl
item_words false m x = refl

module_words : (on : Bool) (m : Abstract) → names_that_count on m TheModule ≡ m.named TheModule
module_words true m = refl
module_words false m = refl

local_words : (on : Bool) (m : Abstract) (f x : ℕ) → names_that_count on m (ALocal f x) ≡ that_count on (m.named (ALocal f x))
local_words true m f x = refl
local_words false m f x = refl

or_none : (on : Bool) (o : Option Name) → or_else o (if on then None else None) ≡ o
or_none true None = refl
or_none true (Some name) = refl
or_none false None = refl
or_none false (Some name) = refl

text_words : (n x : ℕ) → local_text x (place_in (range_with_len 0 n) x) ≡ text_of_local n x
text_words n x = by_test (nat_lt x n) refl where
  by_test : (t : Bool) → nat_lt x n ≡ t → local_text x (place_in (range_with_len 0 n) x) ≡ (if t then codes "arg" ++ decimal x else codes "l" ++ decimal x)
  by_test true e = ap (local_text x) (place_range 0 n x x (omega arith) (ltb-true x n e))
  by_test false e = let le : n ≤ x = ltb-false x n e in ap (local_text x) (place_past 0 n x (omega (arith, le)))

-- ---- the same functions have bodies

kinds_alike : (r : Renaming) (i : ℕ) (j k : abstract.FunctionKind) → SameKind r i j k → function_text i (body_of_kind k) ≡ function_text i (body_of_kind j)
kinds_alike r i (abstract.ImportedFunction p) (abstract.ImportedFunction q) h = refl
kinds_alike r i (abstract.ImportedFunction p) (abstract.LocalFunction b) h = absurd h
kinds_alike r i (abstract.ImportedFunction p) abstract.Uninitialised h = absurd h
kinds_alike r i (abstract.LocalFunction a) (abstract.LocalFunction b) h = refl
kinds_alike r i (abstract.LocalFunction a) (abstract.ImportedFunction q) h = absurd h
kinds_alike r i (abstract.LocalFunction a) abstract.Uninitialised h = absurd h
kinds_alike r i abstract.Uninitialised k h = absurd h

texts_alike : (r : Renaming) (i : ℕ) (f g : Option Function) → BothAnd (SameFunction r i) f g → function_text i (body_of_function g) ≡ function_text i (body_of_function f)
texts_alike r i None g h = absurd h
texts_alike r i (Some f) None h = absurd h
texts_alike r i (Some f) (Some g) h = kinds_alike r i f.kind g.kind h.kind

kind_has_body : (r : Renaming) (i : ℕ) (j k : abstract.FunctionKind) (a : Body) → SameKind r i j k → body_of_kind j ≡ Some a → (b : Body) × (body_of_kind k ≡ Some b)
kind_has_body r i (abstract.ImportedFunction p) k a h e = absurd (none_some a e) where
  none_some : (a : Body) → ◌≡◌ {A = Option Body} None (Some a) → ⊥
  none_some a e = cc
kind_has_body r i (abstract.LocalFunction c) (abstract.LocalFunction b) a h e = (b, refl)
kind_has_body r i (abstract.LocalFunction c) (abstract.ImportedFunction q) a h e = absurd h
kind_has_body r i (abstract.LocalFunction c) abstract.Uninitialised a h e = absurd h
kind_has_body r i abstract.Uninitialised k a h e = absurd h

has_body : (r : Renaming) (i : ℕ) (f g : Option Function) (a : Body) → BothAnd (SameFunction r i) f g → body_of_function f ≡ Some a → (b : Body) × (body_of_function g ≡ Some b)
has_body r i None g a h e = absurd h
has_body r i (Some f) None a h e = absurd h
has_body r i (Some f) (Some g) a h e = kind_has_body r i f.kind g.kind a h.kind e

-- a function that has a body is there
there_with_body : (o : Option Function) (a : Body) → body_of_function o ≡ Some a → IsSome o
there_with_body None a e = absurd (let no : ◌≡◌ {A = Option Body} None (Some a) = e in cc)
there_with_body (Some f) a e = refl

-- how many parameters a function in memory has
parameters_in : (all : _) (o : Option FunctionValue) (b : Body) → body_of_function (option_map (view.function all) o) ≡ Some b → parameters_at o ≡ Some (length b.parameters)
parameters_in all None b e = absurd (let no : ◌≡◌ {A = Option Body} None (Some b) = e in cc)
parameters_in all (Some f) b e = by_kind f.kind e where
  by_kind : (k : FunctionKind) → body_of_kind (kind_of all k) ≡ Some b → parameters_by k ≡ Some (length b.parameters)
  by_kind (kind.Import i) e = absurd (let no : ◌≡◌ {A = Option Body} None (Some b) = e in cc)
  by_kind (kind.Local f) e = ap (λ (o : Option Body). option_map (λ (c : Body). length c.parameters) o) e
  by_kind (kind.Uninitialized ty) e = absurd (let no : ◌≡◌ {A = Option Body} None (Some b) = e in cc)

-- a local whose type is seen is there
typed_there : (slots : List (Option Local)) (p : ℕ) → IsSome (item_at (map (option_map (λ (l : Local). val_type (local_type l))) slots) p) → IsSome (item_at slots p)
typed_there [] p h = absurd cc
typed_there (None ∷ slots) zero h = absurd cc
typed_there (Some l ∷ slots) zero h = refl
typed_there (s ∷ slots) (suc p) h = typed_there slots p h

-- ---- the module

module _ (before c : Config) (m : Abstract) (b : Bounds) (namings : List Named) (old new : Contents) (r : IsUnnamed before m b old) (asked : b.synthetic ≡ c.synthetic_names) (are : shown new ≡ named_by b namings (shown old)) where
  abbrev h : ParsedAs before m (contents_view old)
  h = r.parsed

  abbrev n : Subject → List Name
  n = names_in_range m namings

  abbrev on : Bool
  on = c.synthetic_names

  -- the name that is wanted
  own : own_name (contents_view new) TheModule ≡ name_of c (other m n m.customs) TheModule
  own =
      module_called b namings old new are (r.nothing TheModule)
      ∙ sym (or_none on (last_name (names_given namings TheModule)))
      ∙ ap (λ (l : List Name). or_else (last_name l) (if on then None else None)) (sym (module_words on (other m n m.customs)))

  live_in_memory : (x : Item) → IsLive m x → IsLive (contents_view old) x
  live_in_memory x live = by_space x live where
    there : {X : Type 0} (S : X → X → Type 0) (f g : Option X) → BothAnd S f g → IsSome g
    there S (Some f) (Some g) h = refl
    there S (Some f) None h = absurd h
    there S None g h = absurd h

    by_space : (x : Item) → IsLive m x → IsLive (contents_view old) x
    by_space (Types, i) live = subst (λ (j : ℕ). IsSome ((contents_view old).types j)) (h.in_place (Types, i)) (there (SameType (h.renaming.numbers Types) i) (m.types i) ((contents_view old).types (h.renaming.numbers Types i)) (h.carried.types.same i live))
    by_space (Functions, i) live = subst (λ (j : ℕ). IsSome ((contents_view old).functions j)) (h.in_place (Functions, i)) (there (SameFunction h.renaming i) (m.functions i) ((contents_view old).functions (h.renaming.numbers Functions i)) (h.carried.functions.same i live))
    by_space (Tables, i) live = subst (λ (j : ℕ). IsSome ((contents_view old).tables j)) (h.in_place (Tables, i)) (there (λ x y. y ≡ renamed_table h.renaming x) (m.tables i) ((contents_view old).tables (h.renaming.numbers Tables i)) (h.carried.tables.same i live))
    by_space (Memories, i) live = subst (λ (j : ℕ). IsSome ((contents_view old).memories j)) (h.in_place (Memories, i)) (there (λ x y. y ≡ renamed_memory h.renaming x) (m.memories i) ((contents_view old).memories (h.renaming.numbers Memories i)) (h.carried.memories.same i live))
    by_space (Tags, i) live = subst (λ (j : ℕ). IsSome ((contents_view old).tags j)) (h.in_place (Tags, i)) (there (λ x y. y ≡ renamed_tag h.renaming x) (m.tags i) ((contents_view old).tags (h.renaming.numbers Tags i)) (h.carried.tags.same i live))
    by_space (Globals, i) live = subst (λ (j : ℕ). IsSome ((contents_view old).globals j)) (h.in_place (Globals, i)) (there (λ x y. y ≡ renamed_global h.renaming x) (m.globals i) ((contents_view old).globals (h.renaming.numbers Globals i)) (h.carried.globals.same i live))
    by_space (Elements, i) live = subst (λ (j : ℕ). IsSome ((contents_view old).elements j)) (h.in_place (Elements, i)) (there (λ x y. y ≡ renamed_element h.renaming x) (m.elements i) ((contents_view old).elements (h.renaming.numbers Elements i)) (h.carried.elements.same i live))
    by_space (DataSegments, i) live = subst (λ (j : ℕ). IsSome ((contents_view old).data_segments j)) (h.in_place (DataSegments, i)) (there (λ x y. y ≡ renamed_data h.renaming x) (m.data_segments i) ((contents_view old).data_segments (h.renaming.numbers DataSegments i)) (h.carried.data_segments.same i live))

  same_texts : (x : Item) → IsLive m x → synthetic_name (contents_view old) (AnItem x) ≡ synthetic_name (other m n m.customs) (AnItem x)
  same_texts (Types, i) live = refl
  same_texts (Functions, i) live =
      ap (λ (j : ℕ). function_text i (body_of (contents_view old) j)) (sym (h.in_place (Functions, i)))
      ∙ texts_alike h.renaming i (m.functions i) ((contents_view old).functions (h.renaming.numbers Functions i)) (h.carried.functions.same i live)
  same_texts (Tables, i) live = refl
  same_texts (Memories, i) live = refl
  same_texts (Tags, i) live = refl
  same_texts (Globals, i) live = refl
  same_texts (Elements, i) live = refl
  same_texts (DataSegments, i) live = refl

  read_type : (x : Item) → IsLive m x → x.0 ≡ Types → x.1 < b.types
  read_type (Types, i) live e = let lt : i < length h.types = r.read_types i live in omega (arith, lt, r.types)
  read_type (Functions, i) live e = absurd cc
  read_type (Tables, i) live e = absurd cc
  read_type (Memories, i) live e = absurd cc
  read_type (Tags, i) live e = absurd cc
  read_type (Globals, i) live e = absurd cc
  read_type (Elements, i) live e = absurd cc
  read_type (DataSegments, i) live e = absurd cc

  items : (x : Item) → IsLive m x → own_name (contents_view new) (AnItem x) ≡ name_of c (other m n m.customs) (AnItem x)
  items x live =
      item_called b namings old new are x (live_in_memory x live) (read_type x live) (r.nothing (AnItem x))
      ∙ ap₂ (λ (l : List Name) (o : Option Name). or_else (last_name l) (if b.synthetic then o else None)) (sym (in_range_given m namings (AnItem x) (has_is m x live)) ∙ sym (item_words on (other m n m.customs) x)) (same_texts x live)
      ∙ ap (λ (t : Bool). or_else (last_name (names_that_count on (other m n m.customs) (AnItem x))) (if t then synthetic_name (other m n m.customs) (AnItem x) else None)) asked

  added : (i : ℕ) → length h.types ≤ i → own_name (contents_view new) (AnItem (Types, i)) ≡ None
  added i le = added_uncalled b namings old new are i (omega (arith, le, r.types)) (r.nothing (AnItem (Types, i)))

  local_named : (f : ℕ) (a : Body) (x : ℕ) → body_of m f ≡ Some a → IsSome (a.local_type x) → own_name (contents_view new) (ALocal f (h.renaming.locals f x)) ≡ name_of c (other m n m.customs) (ALocal f x)
  local_named f a x is typed =
      let p : ℕ = h.renaming.locals f x in
      let same = h.carried.functions.same f (there_with_body (m.functions f) a is) in
      let found = has_body h.renaming f (m.functions f) ((contents_view old).functions (h.renaming.numbers Functions f)) a same is in
      let body_there : body_of (contents_view old) f ≡ Some found.0 = ap (body_of (contents_view old)) (sym (h.in_place (Functions, f))) ∙ found.1 in
      let bodies : IsWholeBody h.renaming f a found.0 = h.bodies f a found.0 is body_there in
      let as_many : length found.0.parameters ≡ length a.parameters = ap length bodies.parameters ∙ length-map a.parameters (h.renaming.locals f) in
      let has_parameters : parameters_at (item_at (functions old.funcs) f) ≡ Some (length a.parameters) = parameters_in old.locals (item_at (functions old.funcs) f) found.0 body_there ∙ ap Some as_many in
      let v = some_is (a.local_type x) typed in
      let seen : IsSome (found.0.local_type p) = subst (λ o. IsSome o) (sym (bodies.types x v.0 v.1)) refl in
      let in_old : IsSome (item_at (map (option_map (λ (l : Local). val_type (local_type l))) (locals old.locals)) p) = types_seen (item_at (functions old.funcs) f) found.0 p body_there seen in
      let range : is_in_range m (ALocal f x) ≡ true = ap (has_local x) is ∙ lt-ltb x (length a.parameters + a.declared) (r.within f a x is typed) in
      let text : local_text x (place_in a.parameters x) ≡ text_of_local (length a.parameters) x = ap (λ (ps : List ℕ). local_text x (place_in ps x)) (r.parameters f a is) ∙ text_words (length a.parameters) x in
      local_called b namings old new are r.many f x p f (length a.parameters) r.starts (r.places f a x is typed) has_parameters (typed_there (locals old.locals) p in_old) (r.nothing (ALocal f p))
      ∙ ap (λ (t : Bool). or_else (last_name (that_count t (names_given namings (ALocal f x)))) (if t then Some (text_of_local (length a.parameters) x) else None)) asked
      ∙ ap₂ (λ (l : List Name) (o : Option Name). or_else (last_name l) (if on then o else None))
      (ap (that_count on) (sym (in_range_given m namings (ALocal f x) range)) ∙ sym (local_words on (other m n m.customs) f x))
      (ap Some (sym text) ∙ ap (local_text_in x) (sym is)) where
        types_seen : (o : Option FunctionValue) (b : Body) (p : ℕ) → body_of_function (option_map (view.function old.locals) o) ≡ Some b → IsSome (b.local_type p) → IsSome (item_at (map (option_map (λ (l : Local). val_type (local_type l))) (locals old.locals)) p)
        types_seen None b p e seen = absurd (let no : ◌≡◌ {A = Option Body} None (Some b) = e in cc)
        types_seen (Some f) b p e seen = by_kind f.kind e where
          by_kind : (k : FunctionKind) → body_of_kind (kind_of old.locals k) ≡ Some b → IsSome (item_at (map (option_map (λ (l : Local). val_type (local_type l))) (locals old.locals)) p)
          by_kind (kind.Import i) e = absurd (let no : ◌≡◌ {A = Option Body} None (Some b) = e in cc)
          by_kind (kind.Local g) e = subst (λ (o : Option Body). AllSeen o) (sym e) seen where
            AllSeen : Option Body → Type 0
            AllSeen None = ⊥
            AllSeen (Some c) = IsSome (c.local_type p)
          by_kind (kind.Uninitialized ty) e = absurd (let no : ◌≡◌ {A = Option Body} None (Some b) = e in cc)

  -- the module with its names is what was read with the names that are given to it, and each number stays
  pub parsed_in_place : (p : ParsedAs c (other m n m.customs) (contents_view new)) × (p.renaming ≡ h.renaming)
  parsed_in_place =
      let same : contents_view new ≡ record (contents_view old) { named = named_of new } = same_but_named old new (subst (λ s. IsRenamed (shown old) s) (sym are) (is_renamed b namings (shown old))) in
      subst (λ (v : Abstract). (p : ParsedAs c (other m n m.customs) v) × (p.renaming ≡ h.renaming)) (sym same)
      (parsed_aside before c m (contents_view old) n (named_of new) m.customs (contents_view old).customs h.customs h own items added local_named)

  pub parsed_named : ParsedAs c (record m { named = names_in_range m namings }) (contents_view new)
  parsed_named = parsed_in_place.0
