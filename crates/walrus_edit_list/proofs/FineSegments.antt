-- Edits of globals, segments and memories leave bodies well formed.
use Rattle.std.proofs.Common.{◌≡◌, ℕ, List, [], ◌∷◌, refl, sym, ap, ap₂, subst, ◌∙◌}
use Rattle.wasm_entries.specs.Record as entries
use Rattle.wasm_entries.specs.declared.record.RawLimits.{RawLimits}
use Rattle.walrus_contents.specs.View.{contents_view, functions_of, types_of}
use Rattle.walrus_contents.specs.declared.parts.Contents.{Contents}
use Rattle.walrus_base.specs.declared.locals.ModuleLocals.{ModuleLocals}
use Rattle.walrus_base.specs.declared.module_types.ModuleTypes.{ModuleTypes}
use Rattle.walrus_items.specs.Functions.{ModuleFunctions}
use Rattle.walrus_model.specs.Config.{Config}
use Rattle.walrus_edit_list.specs.Formed.{AreFormed}
use Rattle.walrus_edit_list.specs.Data.{AddsData, AddsSegment, DeletesData, SetsData}
use Rattle.walrus_edit_list.specs.Elements.{AddsElement, AddsElements, DeletesElement}
use Rattle.walrus_edit_list.specs.Globals.{AddsGlobal, AddsGlobals, SetsGlobal}
use Rattle.walrus_edit_list.specs.Memories.{SetsMemory}
use Rattle.walrus_edit_list.specs.Turns.{InTurn}
use Rattle.walrus_edit_list.proofs.FormedStays.{stays_formed}

-- what each step keeps, all of them keep
kept_in_turn : {A : Type 0} (Makes : A → (old new : Contents) → Type 0) (P : Contents → Type 0) → ((x : A) (a b : Contents) → Makes x a b → P a → P b)
    → (xs : List A) (a b : Contents) → InTurn Makes xs a b → P a → P b
kept_in_turn Makes P one [] a b same fine = subst P (sym same) fine
kept_in_turn Makes P one (x ∷ xs) a b (middle, first, more) fine = kept_in_turn Makes P one xs middle b more (one x a middle first fine)

module _ (c : Config) where
  abbrev Formed : Contents → Type 0
  Formed m = AreFormed c (contents_view m)

  -- bodies are formed still, where types, functions and locals are what they were
  pub same_bodies : (a b : Contents) → b.types ≡ a.types → b.funcs ≡ a.funcs → b.locals ≡ a.locals → AreFormed c (contents_view a) → AreFormed c (contents_view b)
  same_bodies a b types funcs locals formed i f body at is =
      stays_formed c (contents_view a) (contents_view b) f.ty body (λ ty. ap (λ (t : ModuleTypes). types_of t ty) types)
      (formed i f body (ap₂ (λ (l : ModuleLocals) (fs : ModuleFunctions). functions_of l fs i) (sym locals) (sym funcs) ∙ at) is)

  -- so are they where what is held is this, and this has them
  kept : (a b n : Contents) → b ≡ n → n.types ≡ a.types → n.funcs ≡ a.funcs → n.locals ≡ a.locals → AreFormed c (contents_view a) → AreFormed c (contents_view b)
  kept a b n is types funcs locals formed =
      same_bodies a b (ap (λ (m : Contents). m.types) is ∙ types) (ap (λ (m : Contents). m.funcs) is ∙ funcs) (ap (λ (m : Contents). m.locals) is ∙ locals) formed

  pub global_added : (g : entries.Global) (a b : Contents) → AddsGlobal g a b → Formed a → Formed b
  global_added g a b h formed = kept a b _ h.only refl refl refl formed

  pub globals_added : (gs : List entries.Global) (a b : Contents) → AddsGlobals gs a b → Formed a → Formed b
  globals_added gs a b all formed = kept_in_turn AddsGlobal (λ (m : Contents). AreFormed c (contents_view m)) global_added gs a b all formed

  pub global_set : (number : ℕ) (g : entries.Global) (a b : Contents) → SetsGlobal number g a b → Formed a → Formed b
  global_set number g a b h formed = kept a b _ h.only refl refl refl formed

  segment_added : (d : entries.Segment) (a b : Contents) → AddsSegment d a b → Formed a → Formed b
  segment_added d a b h formed = kept a b _ h.only refl refl refl formed

  pub data_added : (ds : List entries.Segment) (a b : Contents) → AddsData ds a b → Formed a → Formed b
  data_added ds a b all formed = kept_in_turn AddsSegment (λ (m : Contents). AreFormed c (contents_view m)) segment_added ds a b all formed

  pub data_set : (number : ℕ) (d : entries.Segment) (a b : Contents) → SetsData number d a b → Formed a → Formed b
  data_set number d a b h formed = kept a b _ h.only refl refl refl formed

  pub data_deleted : (number : ℕ) (a b : Contents) → DeletesData number a b → Formed a → Formed b
  data_deleted number a b h formed = kept a b _ h.only refl refl refl formed

  element_added : (e : entries.Element) (a b : Contents) → AddsElement e a b → Formed a → Formed b
  element_added e a b h formed = kept a b _ h.only refl refl refl formed

  pub elements_added : (es : List entries.Element) (a b : Contents) → AddsElements es a b → Formed a → Formed b
  elements_added es a b all formed = kept_in_turn AddsElement (λ (m : Contents). AreFormed c (contents_view m)) element_added es a b all formed

  pub element_deleted : (number : ℕ) (a b : Contents) → DeletesElement number a b → Formed a → Formed b
  element_deleted number a b h formed = kept a b _ h.only refl refl refl formed

  pub memory_set : (number : ℕ) (l : RawLimits) (a b : Contents) → SetsMemory number l a b → Formed a → Formed b
  memory_set number l a b h formed = kept a b _ h.only refl refl refl formed
