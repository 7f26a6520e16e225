-- All of a module in settled form is kept.
use Rattle.std.proofs.Common.{◌≡◌, ℕ, refl, ap, inl, inr, ⊎_elim}
use Rattle.std.specs.Prelude.{Option, Some, is_some}
use Rattle.walrus_base.specs.Operators.{Types, Functions, Tables, Memories, Tags, Globals, Elements, DataSegments, Item}
use Rattle.walrus_model.specs.Abstract.{Abstract, Import}
use Rattle.walrus_model.specs.Carried.{In}
use Rattle.walrus_model.specs.Config.{Config}
use Rattle.walrus_model.specs.Declared.{IsRefInBody, IsRefInGlobal, NothingUndeclared}
use Rattle.walrus_model.specs.Kept.{Kept, IsImportOf}
use Rattle.walrus_model.specs.Live.{IsLive}
use Rattle.walrus_model.specs.Pipeline.{KeepsOnly, Collected}
use Rattle.walrus_theorem.specs.Chain.{BringsTo}
use Rattle.walrus_theorem.specs.SettledForm.{AllIsKept, IsWrittenForm}
use Rattle.walrus_theorem.proofs.AgainParsed.{again, parsed_again}
use Rattle.walrus_theorem.proofs.AgainRead.{IsReadWell}
use Rattle.walrus_theorem.proofs.AgainStays.{all_stay}
use Rattle.walrus_theorem.proofs.NoCause.{import_live}
use Rattle.walrus_theorem.proofs.Runs.{brings_itself}

keeps_all : {X : Type 0} (K : ℕ → Type 0) (xs : ℕ → Option X) → ((i : ℕ) (x : X) → xs i ≡ Some x → K i) → KeepsOnly K xs xs
keeps_all K xs all = record { kept = λ i k. refl; left = λ i x e. (all i x e, e) }

-- where all is kept, gc leaves all
collects_all : (v : Abstract) → ((x : Item) → IsLive v x → Kept v x) → ((i : ℕ) (x : Import) → v.imports i ≡ Some x → IsLive v x.item) → Collected v v
collects_all v all imports = record {
  types = keeps_all (In (Kept v) Types) v.types (λ i x e. all (Types, i) (ap is_some e));
  imports = keeps_all (IsImportOf (Kept v) v) v.imports (λ i x e. (x, e, all x.item (imports i x e)));
  functions = keeps_all (In (Kept v) Functions) v.functions (λ i x e. all (Functions, i) (ap is_some e));
  tables = keeps_all (In (Kept v) Tables) v.tables (λ i x e. all (Tables, i) (ap is_some e));
  memories = keeps_all (In (Kept v) Memories) v.memories (λ i x e. all (Memories, i) (ap is_some e));
  tags = keeps_all (In (Kept v) Tags) v.tags (λ i x e. all (Tags, i) (ap is_some e));
  globals = keeps_all (In (Kept v) Globals) v.globals (λ i x e. all (Globals, i) (ap is_some e));
  elements = keeps_all (In (Kept v) Elements) v.elements (λ i x e. all (Elements, i) (ap is_some e));
  data_segments = keeps_all (In (Kept v) DataSegments) v.data_segments (λ i x e. all (DataSegments, i) (ap is_some e));
  exports = refl;
  start = refl;
  customs = refl;
  producers = refl;
  named = λ y h. refl;
  table_segments = λ t k s. refl;
  memory_segments = λ t k s. refl;
  handler_types = λ h k. refl;
  section_roots = refl;
}

module _ (c : Config) (n : Abstract) (form : IsWrittenForm c n) (well : IsReadWell c n) where
  abbrev A : Abstract
  A = again c n form well

  pub live_there : (x : Item) → IsLive n x → IsLive A x
  live_there (Types, j) h = h
  live_there (Functions, j) h = h
  live_there (Tables, j) h = h
  live_there (Memories, j) h = h
  live_there (Tags, j) h = h
  live_there (Globals, j) h = h
  live_there (Elements, j) h = h
  live_there (DataSegments, j) h = h

  pub live_back : (x : Item) → IsLive A x → IsLive n x
  live_back (Types, j) h = h
  live_back (Functions, j) h = h
  live_back (Tables, j) h = h
  live_back (Memories, j) h = h
  live_back (Tags, j) h = h
  live_back (Globals, j) h = h
  live_back (Elements, j) h = h
  live_back (DataSegments, j) h = h

  -- ---- nothing is undeclared

  pub nothing_again : NothingUndeclared A
  nothing_again h u = form.declared h (record {
    named = ⊎_elim
        (λ (z : IsRefInBody (IsLive A) A h). inl (z.0, z.1, live_back (Functions, z.0) z.2, z.3, z.4))
        (λ (z : IsRefInGlobal (IsLive A) A h). inr (z.0, z.1, z.2, live_back (Globals, z.0) z.3, z.4, z.5, z.6))
        u.named;
    not_exported = u.not_exported;
    not_listed = λ i e k at lists. u.not_listed i e (ap is_some at) at lists;
  })

  -- ---- where gc leaves all

  module _ (kept : AllIsKept n) where
    pub all_kept : (x : Item) → IsLive n x → Kept A x
    all_kept x live = all_stay c n A (parsed_again c n form well) well.plain well.holds form kept x live

    collected_again : Collected A A
    collected_again = collects_all A (λ x h. all_kept x (live_back x h)) (λ i x e. live_there x.item (import_live n x.item i (well.read.imports.imports i x e)))

    pub brings_again : BringsTo c n A
    brings_again = brings_itself c n A A (parsed_again c n form well) collected_again nothing_again
