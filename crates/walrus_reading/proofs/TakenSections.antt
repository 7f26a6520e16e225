-- The fields of a module that took in all sections.
use Rattle.std.proofs.Common.{◌≡◌, ℕ, ◌+◌, true, List, [], length, map, get_or, sym, ap, subst, ◌∙◌}
use Rattle.std.specs.Prelude.{Option, Some, Result, Err, Vec, All, flat_map, option_map, zip}
use Rattle.std.specs.declared.alloc.Global.{Global}
use Rattle.walrus_base.specs.Arena.{item_at}
use Rattle.walrus_base.specs.Id.{place}
use Rattle.walrus_base.specs.ModuleTypes.{type_slots}
use Rattle.walrus_base.specs.TypeDef.{TypeDef}
use Rattle.walrus_base.specs.declared.locals.ModuleLocals.{ModuleLocals}
use Rattle.walrus_base.specs.declared.module_types.ModuleTypes.{ModuleTypes}
use Rattle.walrus_code.specs.Indices.{ids_at}
use Rattle.walrus_code.specs.declared.indices.IndicesToIds.{IndicesToIds}
use Rattle.walrus_bodies.specs.Body.{Context, context}
use Rattle.walrus_bodies.specs.FunctionTypes.{is_function_at}
use Rattle.walrus_bodies.specs.declared.features.Features.{Features}
use Rattle.walrus_functions.specs.ReadFunction.{Slots}
use Rattle.walrus_functions.specs.Signatures.{slots_of}
use Rattle.walrus_base.specs.Locals.{locals}
use Rattle.walrus_items.specs.Data.{data_segments}
use Rattle.walrus_items.specs.Elements.{elements}
use Rattle.walrus_items.specs.Exports.{exports}
use Rattle.walrus_items.specs.Functions.{FunctionValue, functions}
use Rattle.walrus_groups.specs.Groups.{types_from}
use Rattle.walrus_model.specs.Reads.{declared, is_function, context_with}
use Rattle.walrus_model.specs.Sections.{Said, data_segments_of, elements_of, global_of, imported, imported_function, imported_global, imports_after, memories_of, tables_of, tags_of, types_of}
use Rattle.walrus_items.specs.Imports.{imports}
use Rattle.walrus_items.specs.Globals.{globals}
use Rattle.walrus_items.specs.Memories.{memories}
use Rattle.walrus_items.specs.Tables.{tables}
use Rattle.walrus_items.specs.Tags.{tags}
use Rattle.walrus_contents.specs.declared.parts.Contents.{Contents}
use Rattle.walrus_reading.specs.Held.{HoldsData, HoldsElement, HoldsGlobal, HoldsImport, HoldsImportedFunction, HoldsMemory, HoldsTable, HoldsTag, memory_keeps, table_keeps}
use Rattle.walrus_reading.specs.Imported.{HoldsImported}
use Rattle.walrus_reading.specs.Placed.{AddsPlaced, AllPlaced, InTurn}
use Rattle.walrus_reading.specs.Taken.{AddsFunctions, AreTaken, HasTaken, HasTakenWith, HoldsExport, HoldsHandlers, HoldsLocal, TakesBodies, TakesFunctions, locals_said, starts_of, tag_types_of}
use Rattle.walrus_reading.specs.Unread.{brought_functions}
use Rattle.walrus_reading.specs.declared.unread.Unread.{Unread}
use Rattle.walrus_reading.specs.declared.unread.Unread.TheVariants.{Body, Fails}
use Rattle.walrus_model.proofs.PlacedTypes.{same_types, same_functions}
use Rattle.walrus_reading.proofs.FoundTypes.{all_found, all_unnamed}
use Rattle.walrus_reading.proofs.Rows.{placed_length, placed_more}
use Rattle.walrus_reading.proofs.TakenBody.{saids_of}
use Rattle.walrus_items.specs.declared.error.Error.TheVariants as Parts
use Rattle.wasm_frames.specs.Record as wire

module _ (c : Features) (r : wire.Module) (indices : IndicesToIds) (ts : ModuleTypes) (names : ids_at indices ≡ declared r) (typed : type_slots ts ≡ map Some (types_from 0 r.types)) where
  pub types_are_functions : (fs : List ℕ) → fs ≡ r.functions → All (λ t. is_function r t ≡ true) r.functions → All (λ t. is_function_at ts t ≡ true) fs
  types_are_functions fs same h = λ k d lt.
      ap (λ p. p (get_or fs k d)) (same_functions r ts typed) ∙ subst (λ (l : List ℕ). All (λ t. is_function r t ≡ true) l) (sym same) h k d lt

  -- the look-ups in memory are those of the sections
  same_context : context (ids_at indices) (is_function_at ts) c ≡ context_with c r
  same_context = ap (λ n. context n (is_function_at ts) c) names ∙ ap (λ p. context (declared r) p c) (same_functions r ts typed)

  module _ (tags : ℕ → Option ℕ) (same_tags : tags ≡ tag_types_of r) (fs : List ℕ) (bs : List wire.Body) (same_fs : fs ≡ r.functions) (same_bs : bs ≡ r.bodies) (all : ModuleLocals) (first last : Slots) (old new : List (Option FunctionValue)) where
    abbrev Takes : Context → (ℕ → Option TypeDef) → (ℕ → Option ℕ) → List (ℕ × wire.Body) → Result (Vec ℕ Global) Unread → Type 0
    Takes x types ts fs result = TakesFunctions x types ts fs all first last old new result

    pub under_sections : (result : Result (Vec ℕ Global) Unread) → TakesFunctions (context (ids_at indices) (is_function_at ts) c) (item_at (type_slots ts)) tags (zip fs bs) all first last old new result
        → TakesFunctions (context_with c r) (types_of r) (tag_types_of r) (zip r.functions r.bodies) all first last old new result
    under_sections result h =
        subst (λ (x : Context). Takes x (types_of r) (tag_types_of r) (zip r.functions r.bodies) result) same_context
        (subst (λ types. Takes (context (ids_at indices) (is_function_at ts) c) types (tag_types_of r) (zip r.functions r.bodies) result) (same_types r ts typed)
        (subst (λ of_tags. Takes (context (ids_at indices) (is_function_at ts) c) (item_at (type_slots ts)) of_tags (zip r.functions r.bodies) result) same_tags
        (subst (λ (l : List wire.Body). Takes (context (ids_at indices) (is_function_at ts) c) (item_at (type_slots ts)) tags (zip r.functions l) result) same_bs
        (subst (λ (l : List ℕ). Takes (context (ids_at indices) (is_function_at ts) c) (item_at (type_slots ts)) tags (zip l bs) result) same_fs h))))

    refused : length old ≡ brought_functions r → (e : Unread) → Takes (context_with c r) (types_of r) (tag_types_of r) (zip r.functions r.bodies) (Err e) → TakesBodies c r (Err e)
    refused many (Body index) h = record {
      place = h.place;
      counted = h.counted ∙ ap (λ (n : ℕ). n + h.place) many;
      function = h.function;
      there = h.there;
      unread = h.unread;
      bodies = h.bodies;
      before = h.before;
    }
    refused many (Fails (Parts.Memory m)) h = tt
    refused many (Fails _) h = absurd h

    pub bodies_refused : AllPlaced HoldsImportedFunction 0 (imported imported_function 0 r.imports) old → (e : Unread)
        → TakesFunctions (context (ids_at indices) (is_function_at ts) c) (item_at (type_slots ts)) tags (zip fs bs) all first last old new (Err e) → TakesBodies c r (Err e)
    bodies_refused brings e h = refused (sym (placed_length HoldsImportedFunction 0 (imported imported_function 0 r.imports) old brings)) e (under_sections (Err e) h)

-- what is added behind imports, and then the segments, which tables and memories keep, is all that the module holds
module _ (c : Features) (r : wire.Module) (m b : Contents) (held : HoldsImported r b) where
  pub sections_taken : (starts : List ℕ) → length r.bodies ≡ length r.functions
      → AreTaken (context_with c r) (types_of r) (tag_types_of r) (zip r.functions r.bodies) (locals m.locals) (slots_of b.types) (slots_of m.types) (functions b.funcs) (functions m.funcs) starts
      → imports m.imports ≡ imports b.imports → AllPlaced (HoldsTable (table_keeps (elements_of r))) 0 (tables_of r) (tables m.tables)
      → AllPlaced (HoldsMemory (memory_keeps (data_segments_of r))) 0 (memories_of r) (memories m.memories)
      → AllPlaced HoldsTag 0 (tags_of r) (tags m.tags) → AddsPlaced HoldsGlobal (map global_of r.globals) (globals b.globals) (globals m.globals) → AllPlaced HoldsExport 0 r.exports (exports m.exports)
      → option_map place m.start ≡ r.start → AllPlaced HoldsElement 0 (elements_of r) (elements m.elements) → AllPlaced HoldsData 0 (data_segments_of r) (data_segments m.data_) → m.name ≡ b.name → HasTakenWith c r m starts
  sections_taken starts many taken same_imports with_tables with_memories with_tags with_globals exported started with_elements with_data unnamed =
      let s = saids_of (context_with c r) (types_of r) r.functions r.bodies taken.said many taken.read in
      let grown = all_found (types_of r) (tag_types_of r) taken.said taken.functions.added (slots_of b.types) (slots_of m.types) (types_from 0 r.types) held.types taken.handlers in
      let own : (h : AddsFunctions (types_of r) (zip r.functions s.0) (functions b.funcs) (functions m.funcs)) × InTurn (HoldsHandlers (types_of r) (tag_types_of r)) (zip r.functions s.0) h.added (types_from 0 r.types) grown.0 =
      subst (λ (l : List (ℕ × Said)). (h : AddsFunctions (types_of r) l (functions b.funcs) (functions m.funcs)) × InTurn (HoldsHandlers (types_of r) (tag_types_of r)) l h.added (types_from 0 r.types) grown.0) s.1.1 (taken.functions, grown.1.1) in
      let taken_in : HasTaken c r m = record {
        bodies = s.0;
        read = s.1.0;
        types = grown.0;
        have_types = grown.1.0;
        type_names = all_unnamed (types_of r) (tag_types_of r) taken.said taken.functions.added (slots_of b.types) (slots_of m.types) taken.handlers held.type_names;
        functions = record {
          front = functions b.funcs;
          brings = held.brought.functions;
          own = own.0;
        };
        handlers = own.1;
        locals = subst (λ (l : List (ℕ × Said)). AllPlaced HoldsLocal 0 (flat_map (locals_said (types_of r)) l) (locals m.locals)) s.1.1 taken.locals;
        exports = exported;
        start = started;
        imports = subst (λ l. AllPlaced HoldsImport 0 (imports_after [] r.imports) l) (sym same_imports) held.brought.imports;
        tables = with_tables;
        memories = with_memories;
        tags = with_tags;
        globals = placed_more HoldsGlobal (imported imported_global 0 r.imports) (map global_of r.globals) (globals b.globals) (globals m.globals) held.brought.globals with_globals;
        elements = with_elements;
        data_segments = with_data;
        name = unnamed ∙ held.name;
      } in
      let brought : length (functions b.funcs) ≡ length (imported imported_function 0 r.imports) = sym (placed_length HoldsImportedFunction 0 (imported imported_function 0 r.imports) (functions b.funcs) held.brought.functions) in
      record {
        taken = taken_in;
        starts_are = taken.starts_are ∙ ap (λ (n : ℕ). starts_of (types_of r) n taken.said) brought ∙ ap (starts_of (types_of r) (length (imported imported_function 0 r.imports))) s.1.1;
      }
