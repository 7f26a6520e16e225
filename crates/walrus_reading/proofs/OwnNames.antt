-- What each item and local is called once namings are taken, where nothing had a name before.
use Rattle.std.proofs.Common.{◌≡◌, ℕ, zero, suc, ◌+◌, ◌<◌, ◌≤◌, Bool, true, false, List, [], ◌∷◌, map, refl, sym, ap, ◌∙◌, arith}
use Rattle.std.specs.Prelude.{Option, Some, None, IsSome, option_map, option_to_list, if◌then◌else◌}
use Rattle.std.specs.List.{last_or}
use Rattle.wasm_payloads.specs.Names.{Named}
use Rattle.walrus_base.specs.Arena.{item_at}
use Rattle.walrus_base.specs.Locals.{locals}
use Rattle.walrus_base.specs.ModuleTypes.{type_names}
use Rattle.walrus_base.specs.Operators.{Types, Functions, Tables, Memories, Tags, Globals, Elements, DataSegments, Item}
use Rattle.walrus_base.specs.TypeDef.{name_bytes, type_def, type_name}
use Rattle.walrus_base.specs.declared.locals.Local.{Local}
use Rattle.walrus_base.specs.declared.locals.ModuleLocals.{ModuleLocals}
use Rattle.walrus_items.specs.declared.function_kind.FunctionKind.TheVariants as kind
use Rattle.walrus_items.specs.declared.function_kind.FunctionKind.{FunctionKind}
use Rattle.walrus_items.specs.Data.{data_segments}
use Rattle.walrus_items.specs.Elements.{elements}
use Rattle.walrus_items.specs.Functions.{FunctionValue, functions}
use Rattle.walrus_items.specs.Globals.{globals}
use Rattle.walrus_items.specs.Memories.{memories}
use Rattle.walrus_items.specs.Tables.{tables}
use Rattle.walrus_items.specs.Tags.{tags}
use Rattle.walrus_model.specs.Abstract.{Name, AnItem, ALocal, TheModule}
use Rattle.walrus_model.specs.Live.{IsLive}
use Rattle.walrus_model.specs.Names.{body_of, body_of_function, body_of_kind, function_text, last_name, or_else, own_name, synthetic_name}
use Rattle.walrus_theorem.specs.Namings.{names_given}
use Rattle.walrus_contents.specs.View as view
use Rattle.walrus_contents.specs.View.{contents_view, named_of, name_at}
use Rattle.walrus_contents.specs.declared.parts.Contents.{Contents}
use Rattle.walrus_reading.specs.Renamed.{last_given, renamed_from}
use Rattle.walrus_reading.specs.Shown.{LocalValue, Shown, local_value, shown, mend_type_name, mend_function, mend_table, mend_memory, mend_tag, mend_global, mend_element, mend_data, mend_local}
use Rattle.walrus_reading.specs.Synthetic.{filled_if, named_by as all_by, parameters_at, parameters_by, text_of_function, text_of_local}
use Rattle.walrus_reading.specs.TakenNames.{Bounds, all_named, place_of, starts_from, that_count, type_in}
use Rattle.walrus_reading.proofs.AfterAll.{by, functions_after, given, module_after, type_names_after, types_given, types_not_given}
use Rattle.walrus_reading.proofs.Becoming.{item_renamed}
use Rattle.walrus_reading.proofs.Locals.{local_given}
use Rattle.walrus_reading.proofs.Put.{both_there}
use Rattle.walrus_reading.proofs.Whole.{Renames, field_stays, finishing, names_become}
use Rattle.walrus_base.proofs.Standing.{was_some as live_below}

-- ---- the name at a place

pub last_of_one : (o : Option Name) → last_or None (option_to_list o) ≡ o
last_of_one None = refl
last_of_one (Some name) = refl

no_name : (o : Option Name) → option_to_list o ≡ [] → o ≡ None
no_name None e = refl
no_name (Some name) e = absurd cc

module _ {X : Type 0} (mend : (Option Name → Option Name) → X → X) (name : X → Option Name) (reads : (g : Option Name → Option Name) (x : X) → name (mend g x) ≡ g (name x)) where
  one_slot : (g : Option Name → Option Name) (o : Option X) → IsSome o → name_at name o ≡ [] → last_name (name_at name (option_map (mend g) o)) ≡ g None
  one_slot g None live none = absurd cc
  one_slot g (Some x) live none = last_of_one (name (mend g x)) ∙ reads g x ∙ ap g (no_name (name x) none)

  still_none : (g : Option Name → Option Name) (o : Option X) → g None ≡ None → name_at name o ≡ [] → last_name (name_at name (option_map (mend g) o)) ≡ None
  still_none g None keeps none = refl
  still_none g (Some x) keeps none = last_of_one (name (mend g x)) ∙ reads g x ∙ ap g (no_name (name x) none) ∙ keeps

  module _ (names : ℕ → Option Name → Option Name) (old new : List (Option X)) (are : new ≡ renamed_from mend names 0 old) (i : ℕ) where
    at_place : last_name (name_at name (item_at new i)) ≡ last_name (name_at name (option_map (mend (names i)) (item_at old i)))
    at_place =
        ap (λ (l : List (Option X)). last_name (name_at name (item_at l i))) are
        ∙ ap (λ (o : Option X). last_name (name_at name o)) (item_renamed mend names 0 old i)
        ∙ ap (λ (n : ℕ). last_name (name_at name (option_map (mend (names n)) (item_at old i)))) (let e : 0 + i ≡ i = omega arith in e)

    named_then : IsSome (item_at old i) → name_at name (item_at old i) ≡ [] → last_name (name_at name (item_at new i)) ≡ names i None
    named_then live none = at_place ∙ one_slot (names i) (item_at old i) live none

    unnamed_then : names i None ≡ None → name_at name (item_at old i) ≡ [] → last_name (name_at name (item_at new i)) ≡ None
    unnamed_then keeps none = at_place ∙ still_none (names i) (item_at old i) keeps none

-- the name of a local is that of its value
pub name_of_value : (slots : List (Option Local)) (p : ℕ) → name_at (λ (l : Local). name_bytes l.name) (item_at slots p) ≡ name_at (λ (l : LocalValue). l.name) (item_at (map (option_map local_value) slots) p)
name_of_value [] p = refl
name_of_value (None ∷ slots) zero = refl
name_of_value (Some l ∷ slots) zero = refl
name_of_value (s ∷ slots) (suc p) = name_of_value slots p

-- ---- names that are given to what has none

or_nothing : (on : Bool) (o : Option Name) → o ≡ or_else o (if on then None else None)
or_nothing true None = refl
or_nothing true (Some name) = refl
or_nothing false None = refl
or_nothing false (Some name) = refl

or_given : (on : Bool) (text : Name) (o : Option Name) → filled_if on text o ≡ or_else o (if on then Some text else None)
or_given true text o = refl
or_given false text None = refl
or_given false text (Some name) = refl

-- the name of a local function
abbrev text_if_local : ℕ → Option ℕ → Option Name
text_if_local i None = None
text_if_local i (Some parameters) = Some (text_of_function i)

text_by_kind : (all : ModuleLocals) (i : ℕ) (k : FunctionKind) → text_if_local i (parameters_by k) ≡ function_text i (body_of_kind (view.kind_of all k))
text_by_kind all i (kind.Import import_of_it) = refl
text_by_kind all i (kind.Local f) = refl
text_by_kind all i (kind.Uninitialized ty) = refl

text_is : (all : ModuleLocals) (i : ℕ) (o : Option FunctionValue) → text_if_local i (parameters_at o) ≡ function_text i (body_of_function (option_map (view.function all) o))
text_is all i None = refl
text_is all i (Some f) = text_by_kind all i f.kind

same_parameters : (g : Option Name → Option Name) (o : Option FunctionValue) → parameters_at (option_map (mend_function g) o) ≡ parameters_at o
same_parameters g None = refl
same_parameters g (Some f) = refl

-- ---- the module

module _ (b : Bounds) (namings : List Named) (old new : Contents) (are : shown new ≡ all_by b namings (shown old)) where
  abbrev s : Shown
  s = shown old

  abbrev made : Renames s (all_by b namings s)
  made = names_become b namings s

  parameters_taken : (i : ℕ) → parameters_at (item_at (all_named b s namings).functions i) ≡ parameters_at (item_at (functions old.funcs) i)
  parameters_taken i =
      ap (λ (l : List (Option FunctionValue)). parameters_at (item_at l i)) (functions_after b namings s)
      ∙ ap parameters_at (item_renamed mend_function (by namings Functions) 0 s.functions i)
      ∙ same_parameters (by namings Functions (0 + i)) (item_at s.functions i)

  -- the name that a function ends with, after the last one that is given to it
  function_then : (i : ℕ) (last : Option Name) → (finishing b namings s).functions_become i last ≡ or_else last (if b.synthetic then function_text i (body_of (contents_view old) i) else None)
  function_then i last = by_parameters (parameters_at (item_at (all_named b s namings).functions i)) refl ∙ ap (λ (o : Option Name). or_else last (if b.synthetic then o else None)) (ap (text_if_local i) (parameters_taken i) ∙ text_is old.locals i (item_at (functions old.funcs) i)) where
    by_parameters : (q : Option ℕ) → parameters_at (item_at (all_named b s namings).functions i) ≡ q → (finishing b namings s).functions_become i last ≡ or_else last (if b.synthetic then text_if_local i (parameters_at (item_at (all_named b s namings).functions i)) else None)
    by_parameters None e = ap (λ (g : Option Name → Option Name). g last) ((finishing b namings s).imported i e) ∙ or_nothing b.synthetic last ∙ ap (λ (o : Option ℕ). or_else last (if b.synthetic then text_if_local i o else None)) (sym e)
    by_parameters (Some parameters) e = ap (λ (g : Option Name → Option Name). g last) ((finishing b namings s).named i parameters e) ∙ or_given b.synthetic (text_of_function i) last ∙ ap (λ (o : Option ℕ). or_else last (if b.synthetic then text_if_local i o else None)) (sym e)

  pub module_called : named_of old TheModule ≡ [] → own_name (contents_view new) TheModule ≡ last_name (names_given namings TheModule)
  module_called none =
      last_of_one (name_bytes new.name)
      ∙ ap (λ (t : Shown). t.name) are
      ∙ field_stays b namings s (λ t. t.name) (λ t fs ls. refl)
      ∙ module_after b namings s
      ∙ ap (last_given (names_given namings TheModule)) (no_name (name_bytes old.name) none)

  type_names_are : type_names new.types ≡ renamed_from mend_type_name (λ i. last_given (given (type_in b) namings i)) 0 s.type_names
  type_names_are = ap (λ (t : Shown). t.type_names) are ∙ field_stays b namings s (λ t. t.type_names) (λ t fs ls. refl) ∙ type_names_after b namings s

  -- an item that was there, and a type that was read
  pub item_called : (x : Item) → IsLive (contents_view old) x → (x.0 ≡ Types → x.1 < b.types) → named_of old (AnItem x) ≡ []
      → own_name (contents_view new) (AnItem x) ≡ or_else (last_name (names_given namings (AnItem x))) (if b.synthetic then synthetic_name (contents_view old) (AnItem x) else None)
  item_called (Types, i) live read none =
      named_then mend_type_name (λ n. n) (λ g x. refl) (λ j. last_given (given (type_in b) namings j)) (type_names old.types) (type_names new.types) type_names_are i
      (both_there type_def type_name old.types.places.items i live) none
      ∙ ap last_name (types_given b namings i (read refl))
      ∙ or_nothing b.synthetic (last_name (names_given namings (AnItem (Types, i))))
  item_called (Functions, i) live read none =
      named_then mend_function (λ f. f.name) (λ g x. refl) made.functions_become (functions old.funcs) (functions new.funcs) (ap (λ (t : Shown). t.functions) are ∙ made.functions) i
      (live_below (view.function old.locals) (item_at (functions old.funcs) i) live) none
      ∙ function_then i (last_name (names_given namings (AnItem (Functions, i))))
  item_called (Tables, i) live read none =
      named_then mend_table (λ x. x.name) (λ g x. refl) made.tables_become (tables old.tables) (tables new.tables) (ap (λ (t : Shown). t.tables) are ∙ made.tables) i (live_below view.table_of (item_at (tables old.tables) i) live) none
      ∙ or_nothing b.synthetic (last_name (names_given namings (AnItem (Tables, i))))
  item_called (Memories, i) live read none =
      named_then mend_memory (λ x. x.name) (λ g x. refl) made.memories_become (memories old.memories) (memories new.memories) (ap (λ (t : Shown). t.memories) are ∙ made.memories) i (live_below view.memory_of (item_at (memories old.memories) i) live) none
      ∙ or_nothing b.synthetic (last_name (names_given namings (AnItem (Memories, i))))
  item_called (Tags, i) live read none =
      named_then mend_tag (λ x. x.name) (λ g x. refl) made.tags_become (tags old.tags) (tags new.tags) (ap (λ (t : Shown). t.tags) are ∙ made.tags) i (live_below view.tag_of (item_at (tags old.tags) i) live) none
      ∙ or_nothing b.synthetic (last_name (names_given namings (AnItem (Tags, i))))
  item_called (Globals, i) live read none =
      named_then mend_global (λ x. x.name) (λ g x. refl) made.globals_become (globals old.globals) (globals new.globals) (ap (λ (t : Shown). t.globals) are ∙ made.globals) i (live_below view.global_of (item_at (globals old.globals) i) live) none
      ∙ or_nothing b.synthetic (last_name (names_given namings (AnItem (Globals, i))))
  item_called (Elements, i) live read none =
      named_then mend_element (λ x. x.name) (λ g x. refl) made.elements_become (elements old.elements) (elements new.elements) (ap (λ (t : Shown). t.elements) are ∙ made.elements) i (live_below view.element_of (item_at (elements old.elements) i) live) none
      ∙ or_nothing b.synthetic (last_name (names_given namings (AnItem (Elements, i))))
  item_called (DataSegments, i) live read none =
      named_then mend_data (λ x. x.name) (λ g x. refl) made.data_become (data_segments old.data_) (data_segments new.data_) (ap (λ (t : Shown). t.data_segments) are ∙ made.data_segments) i (live_below view.data_of (item_at (data_segments old.data_) i) live) none
      ∙ or_nothing b.synthetic (last_name (names_given namings (AnItem (DataSegments, i))))

  -- a type that was added has no index, and so no name
  pub added_uncalled : (i : ℕ) → b.types ≤ i → named_of old (AnItem (Types, i)) ≡ [] → own_name (contents_view new) (AnItem (Types, i)) ≡ None
  added_uncalled i le none =
      unnamed_then mend_type_name (λ n. n) (λ g x. refl) (λ j. last_given (given (type_in b) namings j)) (type_names old.types) (type_names new.types) type_names_are i
      (ap last_name (types_not_given b namings i le)) none

  -- local x of function f, which is at place p; what function it is asked of doesn't matter
  pub local_called : (many : List ℕ) (f x p g parameters : ℕ) → b.starts ≡ starts_from 0 many → place_of b.starts f x ≡ Some p → parameters_at (item_at (functions old.funcs) f) ≡ Some parameters → IsSome (item_at (locals old.locals) p) → named_of old (ALocal g p) ≡ []
      → own_name (contents_view new) (ALocal g p) ≡ or_else (last_name (that_count b.synthetic (names_given namings (ALocal f x)))) (if b.synthetic then Some (text_of_local parameters x) else None)
  local_called many f x p g parameters starts is has live none =
      let names : List Name = that_count b.synthetic (names_given namings (ALocal f x)) in
      ap last_name (name_of_value (locals new.locals) p)
      ∙ named_then mend_local (λ l. l.name) (λ g x. refl) made.locals_become (map (option_map local_value) (locals old.locals)) (map (option_map local_value) (locals new.locals)) (ap (λ (t : Shown). t.locals) are ∙ made.locals) p
      (value_there (locals old.locals) p live) (sym (name_of_value (locals old.locals) p) ∙ none)
      ∙ ap (λ (l : List Name). (finishing b namings s).locals_become p (last_name l)) (local_given b many 0 f x p starts is namings)
      ∙ ap (λ (h : Option Name → Option Name). h (last_name names)) ((finishing b namings s).locals_named many starts f x p parameters (parameters_taken f ∙ has) is)
      ∙ or_given b.synthetic (text_of_local parameters x) (last_name names) where
        value_there : (slots : List (Option Local)) (i : ℕ) → IsSome (item_at slots i) → IsSome (item_at (map (option_map local_value) slots) i)
        value_there [] i h = absurd cc
        value_there (None ∷ slots) zero h = absurd cc
        value_there (Some l ∷ slots) zero h = refl
        value_there (s ∷ slots) (suc i) h = value_there slots i h
