-- Nothing of a module that took in the sections has a name.
use Rattle.std.proofs.Common.{◌≡◌, ℕ, zero, suc, ◌+◌, List, [], ◌∷◌, ◌++◌, length, refl, ap, ◌∙◌}
use Rattle.std.specs.Prelude.{Option, Some, None, All, flat_map, option_to_list, zip}
use Rattle.std.proofs.lemmas.List.Elements.{All-head, All-tail}
use Rattle.walrus_base.specs.Arena.{item_at}
use Rattle.walrus_base.specs.Locals.{locals}
use Rattle.walrus_base.specs.ModuleTypes.{type_names}
use Rattle.walrus_base.specs.Operators.{Types, Functions, Tables, Memories, Tags, Globals, Elements, DataSegments}
use Rattle.walrus_base.specs.TypeDef.{TypeDef, name_bytes}
use Rattle.walrus_base.specs.declared.locals.Local.{Local}
use Rattle.walrus_bodies.specs.declared.features.Features.{Features}
use Rattle.walrus_items.specs.Data.{DataValue, data_segments}
use Rattle.walrus_items.specs.Elements.{ElementValue, elements}
use Rattle.walrus_items.specs.Functions.{FunctionValue, functions}
use Rattle.walrus_items.specs.Globals.{GlobalValue, globals}
use Rattle.walrus_items.specs.Memories.{MemoryValue, memories}
use Rattle.walrus_items.specs.Tables.{TableValue, tables}
use Rattle.walrus_items.specs.Tags.{TagValue, tags}
use Rattle.walrus_model.specs.Abstract.{Function, Name, Subject, TheModule, AnItem, ALocal}
use Rattle.walrus_model.specs.Sections.{Said, data_segments_of, elements_of, globals_of, imported, imported_function, memories_of, tables_of, tags_of, types_of}
use Rattle.walrus_contents.specs.View.{contents_view, name_at}
use Rattle.walrus_contents.specs.declared.parts.Contents.{Contents}
use Rattle.walrus_reading.specs.Held.{HoldsData, HoldsElement, HoldsGlobal, HoldsImportedFunction, HoldsMemory, HoldsTable, HoldsTag, memory_keeps, table_keeps}
use Rattle.walrus_reading.specs.Placed.{AllPlaced}
use Rattle.walrus_reading.specs.Taken.{HasTaken, HoldsFunctions, HoldsLocal, HoldFunctions, locals_said}
use Rattle.wasm_frames.specs.Record as wire

-- ---- what stands at a place

module _ {T : Type 0} (name : T → Option Name) where
  -- an unnamed item in a slot
  unnamed_slot : (slot : Option T) (value : T) → slot ≡ Some value → name value ≡ None → name_at name slot ≡ []
  unnamed_slot slot value is none = ap (name_at name) is ∙ ap option_to_list none

  -- what is placed has no name anywhere
  placed_unnamed : {X : Type 0} (R : ℕ → X → Option T → Type 0) → ((n : ℕ) (x : X) (slot : Option T) → R n x slot → name_at name slot ≡ [])
      → (k : ℕ) (xs : List X) (slots : List (Option T)) → AllPlaced R k xs slots → (i : ℕ) → name_at name (item_at slots i) ≡ []
  placed_unnamed R none k [] [] h i = refl
  placed_unnamed R none k [] (s ∷ slots) h i = absurd h
  placed_unnamed R none k (x ∷ xs) [] h i = absurd h
  placed_unnamed R none k (x ∷ xs) (s ∷ slots) h zero = none k x s h.0
  placed_unnamed R none k (x ∷ xs) (s ∷ slots) h (suc i) = placed_unnamed R none (k + 1) xs slots h.1 i

  -- what stands in two parts
  both_unnamed : (front back : List (Option T)) → ((i : ℕ) → name_at name (item_at front i) ≡ []) → ((i : ℕ) → name_at name (item_at back i) ≡ []) → (i : ℕ) → name_at name (item_at (front ++ back) i) ≡ []
  both_unnamed [] back first behind i = behind i
  both_unnamed (s ∷ front) back first behind zero = first zero
  both_unnamed (s ∷ front) back first behind (suc i) = both_unnamed front back (λ j. first (suc j)) behind i

-- ---- types

types_unnamed : (names : List (Option (Option Name))) → All (λ name. name ≡ Some None) names → (i : ℕ) → name_at (λ n. n) (item_at names i) ≡ []
types_unnamed [] h i = refl
types_unnamed (n ∷ names) h zero = ap (name_at (λ m. m)) (All-head (λ name. name ≡ Some None) n names h)
types_unnamed (n ∷ names) h (suc i) = types_unnamed names (All-tail (λ name. name ≡ Some None) n names h) i

-- ---- functions

module _ (types : ℕ → Option TypeDef) where
  own_unnamed : (id first : ℕ) (ps : List (ℕ × Said)) (slots : List (Option FunctionValue)) → HoldFunctions types id first ps slots → (i : ℕ) → name_at (λ (f : FunctionValue). f.name) (item_at slots i) ≡ []
  own_unnamed id first [] [] h i = refl
  own_unnamed id first [] (s ∷ slots) h i = absurd h
  own_unnamed id first (p ∷ ps) [] h i = absurd h
  own_unnamed id first (p ∷ ps) (s ∷ slots) h zero = ap (name_at (λ (f : FunctionValue). f.name)) h.0.is
  own_unnamed id first (p ∷ ps) (s ∷ slots) h (suc i) = own_unnamed (id + 1) (first + length (locals_said types p)) ps slots h.1 i

  functions_unnamed : (brought : List Function) (said : List (ℕ × Said)) (slots : List (Option FunctionValue)) → HoldsFunctions types brought said slots → (i : ℕ) → name_at (λ (f : FunctionValue). f.name) (item_at slots i) ≡ []
  functions_unnamed brought said slots h i =
      ap (λ (l : List (Option FunctionValue)). name_at (λ (f : FunctionValue). f.name) (item_at l i)) h.own.behind
      ∙ both_unnamed (λ (f : FunctionValue). f.name) h.front h.own.added
      (placed_unnamed (λ (f : FunctionValue). f.name) HoldsImportedFunction (λ n g s k. unnamed_slot (λ (f : FunctionValue). f.name) s k.value k.is k.unnamed) 0 brought h.front h.brings)
      (own_unnamed (length h.front) 0 said h.own.added h.own.held) i

-- ---- all

module _ (c : Features) (r : wire.Module) (m : Contents) (h : HasTaken c r m) where
  pub nothing_named : (y : Subject) → (contents_view m).named y ≡ []
  nothing_named TheModule = ap (λ name. option_to_list (name_bytes name)) h.name
  nothing_named (AnItem (Types, i)) = types_unnamed (type_names m.types) h.type_names i
  nothing_named (AnItem (Functions, i)) = functions_unnamed (types_of r) (imported imported_function 0 r.imports) (zip r.functions h.bodies) (functions m.funcs) h.functions i
  nothing_named (AnItem (Tables, i)) =
      placed_unnamed (λ (t : TableValue). t.name) (HoldsTable (table_keeps (elements_of r))) (λ n x s k. unnamed_slot (λ (t : TableValue). t.name) s k.value k.is k.unnamed) 0 (tables_of r) (tables m.tables) h.tables i
  nothing_named (AnItem (Memories, i)) =
      placed_unnamed (λ (y : MemoryValue). y.name) (HoldsMemory (memory_keeps (data_segments_of r))) (λ n x s k. unnamed_slot (λ (y : MemoryValue). y.name) s k.value k.is k.unnamed) 0 (memories_of r) (memories m.memories) h.memories i
  nothing_named (AnItem (Tags, i)) =
      placed_unnamed (λ (t : TagValue). t.name) HoldsTag (λ n x s k. unnamed_slot (λ (t : TagValue). t.name) s k.value k.is k.unnamed) 0 (tags_of r) (tags m.tags) h.tags i
  nothing_named (AnItem (Globals, i)) =
      placed_unnamed (λ (g : GlobalValue). g.name) HoldsGlobal (λ n x s k. unnamed_slot (λ (g : GlobalValue). g.name) s k.value k.is k.unnamed) 0 (globals_of r) (globals m.globals) h.globals i
  nothing_named (AnItem (Elements, i)) =
      placed_unnamed (λ (e : ElementValue). e.name) HoldsElement (λ n x s k. unnamed_slot (λ (e : ElementValue). e.name) s k.value k.is k.unnamed) 0 (elements_of r) (elements m.elements) h.elements i
  nothing_named (AnItem (DataSegments, i)) =
      placed_unnamed (λ (d : DataValue). d.name) HoldsData (λ n x s k. unnamed_slot (λ (d : DataValue). d.name) s k.value k.is k.unnamed) 0 (data_segments_of r) (data_segments m.data_) h.data_segments i
  nothing_named (ALocal f x) =
      placed_unnamed (λ (l : Local). name_bytes l.name) HoldsLocal (λ n t s k. unnamed_slot (λ (l : Local). name_bytes l.name) s k.local k.is (ap name_bytes k.unnamed)) 0 (flat_map (locals_said (types_of r)) (zip r.functions h.bodies)) (locals m.locals) h.locals x
