-- A module that passes the check is well made, where its bodies are well formed.
use Rattle.std.proofs.Common.{◌≡◌, ℕ, List, [], ◌∷◌, Some, None, refl, sym, subst}
use Rattle.std.specs.Prelude.{Contains, Option}
use Rattle.walrus_base.specs.Types.{HeapType, IsNotExact, comp_heaps}
use Rattle.walrus_base.specs.Operators.{Types, Functions, Tables, Memories, Tags, Globals, Elements, DataSegments, Item}
use Rattle.walrus_base.specs.TypeDef.{TypeDef}
use Rattle.walrus_items.specs.declared.custom.CustomSection.{Ghosts}
use Rattle.walrus_model.specs.Abstract.{Abstract, Function, FunctionKind, ImportedFunction, LocalFunction, Uninitialised}
use Rattle.walrus_model.specs.Config.{Config}
use Rattle.walrus_model.specs.Dead.{NoKind}
use Rattle.walrus_model.specs.WellMade.{body_heaps, heaps_by, heaps_in, kind_heaps}
use Rattle.walrus_base.proofs.Lists.{Contains-head, Contains-none, Contains-tail}
use Rattle.walrus_theorem.specs.WellMade.{IsWellMade}
use Rattle.walrus_theorem.proofs.EditTops.{customs_stay}
use Rattle.walrus_theorem.proofs.Matches.{matches}
use Rattle.walrus_model.proofs.PlainTypes.{Plain, TypePlain}
use Rattle.walrus_theorem.proofs.WellStays.{well_formed_in}
use Rattle.walrus_writing.proofs.NoCauseHeaps.{body_plain}
use Rattle.walrus_module.specs.Check.{BodiesAreFormed, CheckedIsWellMade, PassesCheck}
use Rattle.walrus_module.specs.View.{contents_of, held_view, view}
use Rattle.walrus_module.specs.declared.entry.SectionEntry.{SectionEntry}
use Rattle.walrus_module.specs.declared.module.Module.{Module}
use Rattle.walrus_module.proofs.CountedBodies.{held_counted}
use Rattle.walrus_model.proofs.Parsing.{each_in}

plain_so : (hs : List (HeapType ℕ)) → ((h : HeapType ℕ) → Contains hs h → IsNotExact h) → Plain hs
plain_so [] law = tt
plain_so (h ∷ hs) law = (law h (Contains-head h hs), plain_so hs (λ k at. law k (Contains-tail h k hs at)))

-- ---- the heap types of bodies that are well formed

module _ (c : Config) (v : Abstract) (passes : PassesCheck v) (formed : BodiesAreFormed c v) where
  type_plain : (t : ℕ) (x : TypeDef) → v.types t ≡ Some x → TypePlain x
  type_plain t x at = plain_so (comp_heaps x.sub.comp)
      (λ h in_type. passes.heaps (Types, t) h (λ e. cc) (subst (λ (o : Option TypeDef). Contains (heaps_by (λ (y : TypeDef). comp_heaps y.sub.comp) o) h) (sym at) in_type))

  kind_plain : (i : ℕ) (f : Function) (k : FunctionKind) → v.functions i ≡ Some f → f.kind ≡ k → (h : HeapType ℕ) → Contains (kind_heaps k) h → IsNotExact h
  kind_plain i f (LocalFunction b) at is h has = each_in (λ (g : HeapType ℕ). IsNotExact g) (body_heaps b) h (body_plain c v type_plain f.ty b (formed i f b at is)) has
  kind_plain i f (ImportedFunction n) at is h has = absurd (Contains-none h has)
  kind_plain i f Uninitialised at is h has = absurd (Contains-none h has)

  function_plain : (i : ℕ) (o : Option Function) → v.functions i ≡ o → (h : HeapType ℕ) → Contains (heaps_by (λ (f : Function). kind_heaps f.kind) o) h → IsNotExact h
  function_plain i None at h has = absurd (Contains-none h has)
  function_plain i (Some f) at h has = kind_plain i f f.kind at refl h has

  pub all_plain : (x : Item) (h : HeapType ℕ) → Contains (heaps_in v x) h → IsNotExact h
  all_plain (Functions, i) h has = function_plain i (v.functions i) refl h has
  all_plain (Types, i) h has = passes.heaps (Types, i) h (λ e. cc) has
  all_plain (Tables, i) h has = passes.heaps (Tables, i) h (λ e. cc) has
  all_plain (Memories, i) h has = passes.heaps (Memories, i) h (λ e. cc) has
  all_plain (Tags, i) h has = passes.heaps (Tags, i) h (λ e. cc) has
  all_plain (Globals, i) h has = passes.heaps (Globals, i) h (λ e. cc) has
  all_plain (Elements, i) h has = passes.heaps (Elements, i) h (λ e. cc) has
  all_plain (DataSegments, i) h has = passes.heaps (DataSegments, i) h (λ e. cc) has

module _ {V : Type 0} {O : V → Type 0} (G : (v : V) → Ghosts (O v)) where
  module _ (c : Config) (m : Module (SectionEntry V O)) (passes : PassesCheck (held_view m)) (formed : BodiesAreFormed c (view G m)) where
    abbrev H : Abstract
    H = held_view m

    held_formed : BodiesAreFormed c H
    held_formed i f b at is = well_formed_in c (view G m) H f.ty b refl (λ t has. refl) (formed i f b at is)

    held_well : IsWellMade c H
    held_well = record {
      imports = matches H passes.all_there passes.one_index passes.indices;
      writable = record {
        heaps = all_plain c H passes held_formed;
        const_heaps = passes.const_heaps;
        consts = passes.consts;
        initialised = λ i f at un. passes.all_there (NoKind i f at un);
      };
      bodies = held_formed;
      rules = passes.rules;
      customs = λ s at. absurd (Contains-none s at);
      counted = held_counted (contents_of m) passes.rules.indices.locals;
    }

  pub checked_well : CheckedIsWellMade G
  checked_well c m passes formed named = (customs_stay c (held_view m) (view G m) (held_well c m passes formed) refl named (λ x at (no : ⊥). absurd no)).made
