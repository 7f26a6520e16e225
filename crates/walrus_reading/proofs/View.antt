-- A module whose items were named is the same but for their names.
use Rattle.std.proofs.Common.{◌≡◌, ℕ, zero, suc, List, [], ◌∷◌, length, map, filter, refl, sym, ap, ap₂, ◌∙◌}
use Rattle.std.specs.Prelude.{Option, Some, None, option_map}
use Rattle.std.specs.List.{range_with_len}
use Rattle.std.proofs.lemmas.List.{length-map}
use mathlib.Core.Path.{fun_ext}
use Rattle.walrus_base.specs.Arena.{item_at}
use Rattle.walrus_base.specs.Id.{place}
use Rattle.walrus_base.specs.Types as base
use Rattle.walrus_base.specs.Locals.{locals}
use Rattle.walrus_base.specs.ModuleTypes.{type_slots}
use Rattle.walrus_base.specs.Value.{val_type}
use Rattle.walrus_base.specs.declared.locals.Local.{Local}
use Rattle.walrus_base.specs.declared.locals.ModuleLocals.{ModuleLocals}
use Rattle.walrus_items.specs.Function.{body_of, args_of}
use Rattle.walrus_functions.specs.EmittedBody.{types_of as local_types}
use Rattle.walrus_items.specs.declared.function_kind.FunctionKind.TheVariants as kind
use Rattle.walrus_items.specs.declared.function_kind.FunctionKind.{FunctionKind}
use Rattle.walrus_items.specs.Data.{data_segments}
use Rattle.walrus_items.specs.Elements.{elements}
use Rattle.walrus_items.specs.Functions.{FunctionValue, functions}
use Rattle.walrus_items.specs.Globals.{globals}
use Rattle.walrus_items.specs.Memories.{MemoryValue, memories}
use Rattle.walrus_items.specs.Tables.{TableValue, tables}
use Rattle.walrus_items.specs.Tags.{tags}
use Rattle.walrus_producers.specs.Seen.{producers}
use Rattle.walrus_model.specs.Abstract as abstract
use Rattle.walrus_model.specs.Abstract.{Name}
use Rattle.walrus_contents.specs.View as view
use Rattle.walrus_contents.specs.View.{contents_view, is_declared, kept_data, kept_elements, kind_of, handlers_at, named_of}
use Rattle.walrus_contents.specs.declared.parts.Contents.{Contents}
use Rattle.walrus_reading.specs.Renamed.{nameless}
use Rattle.walrus_reading.specs.Shown.{IsRenamed, LocalValue, Shown, local_value, local_values, shown, mend_function, mend_table, mend_memory, mend_tag, mend_global, mend_element, mend_data, mend_local}

abbrev Becomes : Type 0
Becomes = Option Name → Option Name

-- ---- what is seen at a place

module _ {X : Type 0} (mend : Becomes → X → X) where
  abbrev none : X → X
  none x = mend (λ name. None) x

  nameless_at : (slots : List (Option X)) (i : ℕ) → item_at (nameless mend slots) i ≡ option_map none (item_at slots i)
  nameless_at [] i = refl
  nameless_at (s ∷ slots) zero = refl
  nameless_at (s ∷ slots) (suc i) = nameless_at slots i

  seen_slot : {Y : Type 0} (f h : X → Y) → ((x : X) → f (none x) ≡ h x) → (s : Option X) → option_map f (option_map none s) ≡ option_map h s
  seen_slot f h same None = refl
  seen_slot f h same (Some x) = ap Some (same x)

  seen_nameless : {Y : Type 0} (f : X → Y) → ((x : X) → f (none x) ≡ f x) → (slots : List (Option X)) → map (option_map f) (nameless mend slots) ≡ map (option_map f) slots
  seen_nameless f same [] = refl
  seen_nameless {Y} f same (s ∷ slots) = ap₂ (λ (o : Option Y) (l : List (Option Y)). o ∷ l) (seen_slot f f same s) (seen_nameless f same slots)

  module _ (old new : List (Option X)) (are : nameless mend new ≡ nameless mend old) where
    slots_alike : (i : ℕ) → option_map none (item_at new i) ≡ option_map none (item_at old i)
    slots_alike i = sym (nameless_at new i) ∙ ap (λ (l : List (Option X)). item_at l i) are ∙ nameless_at old i

    looked : {Y : Type 0} (f h : X → Y) → ((x : X) → f (none x) ≡ f x) → ((x : X) → f (none x) ≡ h x) → ◌≡◌ {A = ℕ → Option Y} (λ i. option_map f (item_at new i)) (λ i. option_map h (item_at old i))
    looked f h whole same = fun_ext (λ i. sym (seen_slot f f whole (item_at new i)) ∙ ap (option_map f) (slots_alike i) ∙ seen_slot f h same (item_at old i))

    -- the same of something that is told of a place with nothing too
    told : {Y : Type 0} (f : Option X → Y) → ((s : Option X) → f (option_map none s) ≡ f s) → (i : ℕ) → f (item_at new i) ≡ f (item_at old i)
    told f same i = sym (same (item_at new i)) ∙ ap f (slots_alike i) ∙ same (item_at old i)

elements_kept_still : (s : Option TableValue) → kept_elements (option_map (mend_table (λ name. None)) s) ≡ kept_elements s
elements_kept_still None = refl
elements_kept_still (Some t) = refl

data_kept_still : (s : Option MemoryValue) → kept_data (option_map (mend_memory (λ name. None)) s) ≡ kept_data s
data_kept_still None = refl
data_kept_still (Some m) = refl

handlers_still : (s : Option FunctionValue) → handlers_at (option_map (mend_function (λ name. None)) s) ≡ handlers_at s
handlers_still None = refl
handlers_still (Some f) = refl

-- ---- the types of locals

abbrev value_type : LocalValue → base.ValType ℕ
value_type l = val_type l.ty

types_by_values : (slots : List (Option Local)) → local_types slots ≡ map (option_map value_type) (map (option_map local_value) slots)
types_by_values [] = refl
types_by_values (None ∷ slots) = ap (λ (l : List (Option (base.ValType ℕ))). None ∷ l) (types_by_values slots)
types_by_values (Some x ∷ slots) = ap (λ (l : List (Option (base.ValType ℕ))). Some (val_type x.ty) ∷ l) (types_by_values slots)

-- ---- the module

module _ (old new : Contents) (h : IsRenamed (shown old) (shown new)) where
  types_are : type_slots new.types ≡ type_slots old.types
  types_are = ap (λ (t : Shown). t.types) h

  imports_are : new.imports ≡ old.imports
  imports_are = ap (λ (t : Shown). t.imports) h

  exports_are : new.exports ≡ old.exports
  exports_are = ap (λ (t : Shown). t.exports) h

  start_is : new.start ≡ old.start
  start_is = ap (λ (t : Shown). t.start) h

  producers_are : new.producers ≡ old.producers
  producers_are = ap (λ (t : Shown). t.producers) h

  functions_are : nameless mend_function (functions new.funcs) ≡ nameless mend_function (functions old.funcs)
  functions_are = ap (λ (t : Shown). t.functions) h

  tables_are : nameless mend_table (tables new.tables) ≡ nameless mend_table (tables old.tables)
  tables_are = ap (λ (t : Shown). t.tables) h

  memories_are : nameless mend_memory (memories new.memories) ≡ nameless mend_memory (memories old.memories)
  memories_are = ap (λ (t : Shown). t.memories) h

  locals_are : nameless mend_local (local_values new.locals) ≡ nameless mend_local (local_values old.locals)
  locals_are = ap (λ (t : Shown). t.locals) h

  local_types_stay : local_types (locals new.locals) ≡ local_types (locals old.locals)
  local_types_stay =
      types_by_values (locals new.locals)
      ∙ sym (seen_nameless mend_local value_type (λ x. refl) (local_values new.locals))
      ∙ ap (map (option_map value_type)) locals_are
      ∙ seen_nameless mend_local value_type (λ x. refl) (local_values old.locals)
      ∙ sym (types_by_values (locals old.locals))

  count_locals : (all : ModuleLocals) → length (nameless mend_local (local_values all)) ≡ length (locals all)
  count_locals all = length-map (local_values all) (option_map (mend_local (λ name. None))) ∙ length-map (locals all) (option_map local_value)

  pub as_many_locals : length (locals new.locals) ≡ length (locals old.locals)
  as_many_locals = sym (count_locals new.locals) ∙ ap length locals_are ∙ count_locals old.locals

  kinds_stay : (k : FunctionKind) → kind_of new.locals k ≡ kind_of old.locals k
  kinds_stay (kind.Import i) = refl
  kinds_stay (kind.Local f) =
      ap₂ (λ (types : List (Option (base.ValType ℕ))) (n : ℕ). abstract.LocalFunction (record { parameters = args_of f; local_type = item_at types; declared = length (filter (is_declared f) (range_with_len 0 n)); operators = body_of f }))
      local_types_stay as_many_locals
  kinds_stay (kind.Uninitialized ty) = refl

  -- all is the same but for the names
  pub same_but_named : contents_view new ≡ record (contents_view old) { named = named_of new }
  same_but_named = λ j. record {
    types = λ i. item_at (types_are j) i;
    imports = view.imports_of (imports_are j);
    functions = looked mend_function (functions old.funcs) (functions new.funcs) functions_are (view.function new.locals) (view.function old.locals) (λ f. refl) (λ f. ap (λ (k : abstract.FunctionKind). record { ty = (view.function old.locals f).ty; kind = k }) (kinds_stay f.kind)) j;
    tables = looked mend_table (tables old.tables) (tables new.tables) tables_are view.table_of view.table_of (λ x. refl) (λ x. refl) j;
    memories = looked mend_memory (memories old.memories) (memories new.memories) memories_are view.memory_of view.memory_of (λ x. refl) (λ x. refl) j;
    tags = looked mend_tag (tags old.tags) (tags new.tags) (ap (λ (t : Shown). t.tags) h) view.tag_of view.tag_of (λ x. refl) (λ x. refl) j;
    globals = looked mend_global (globals old.globals) (globals new.globals) (ap (λ (t : Shown). t.globals) h) view.global_of view.global_of (λ x. refl) (λ x. refl) j;
    elements = looked mend_element (elements old.elements) (elements new.elements) (ap (λ (t : Shown). t.elements) h) view.element_of view.element_of (λ x. refl) (λ x. refl) j;
    data_segments = looked mend_data (data_segments old.data_) (data_segments new.data_) (ap (λ (t : Shown). t.data_segments) h) view.data_of view.data_of (λ x. refl) (λ x. refl) j;
    exports = view.exports_of (exports_are j);
    start = option_map place (start_is j);
    customs = [];
    producers = producers (producers_are j);
    named = named_of new;
    table_segments = λ t. told mend_table (tables old.tables) (tables new.tables) tables_are kept_elements elements_kept_still t j;
    memory_segments = λ y. told mend_memory (memories old.memories) (memories new.memories) memories_are kept_data data_kept_still y j;
    handler_types = λ f. told mend_function (functions old.funcs) (functions new.funcs) functions_are handlers_at handlers_still f j;
    section_roots = [];
  }
