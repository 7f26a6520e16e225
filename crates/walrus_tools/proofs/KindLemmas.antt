-- What is counted in memory: the items of a module, and those that gc leaves of them.
use Rattle.std.proofs.Common.{◌≡◌, ℕ, List, Option, Some, None, length, inl, inr, refl, sym, subst}
use Rattle.std.specs.Prelude.{IsSome, is_some}
use Rattle.walrus.specs.Base.Arena.{item_at}
use Rattle.walrus.specs.Base.Operators.{Item, Functions, Tables, Memories, Tags, Globals, Elements, DataSegments}
use Rattle.walrus.proofs.Base.Lookups.{still_some}
use Rattle.walrus.proofs.Base.Standing.{was_some}
use Rattle.walrus.specs.Contents.View.{data_of, element_of, function, global_of, memory_of, table_of, tag_of}
use Rattle.walrus.specs.Items.Data.{data_segments}
use Rattle.walrus.specs.Items.Elements.{elements}
use Rattle.walrus.specs.Items.Functions.{functions}
use Rattle.walrus.specs.Items.Globals.{globals}
use Rattle.walrus.specs.Items.Memories.{memories}
use Rattle.walrus.specs.Items.Tables.{tables}
use Rattle.walrus.specs.Items.Tags.{tags}
use Rattle.walrus.specs.Items.CustomSection.{Ghosts}
use Rattle.walrus.specs.Model.Abstract.{Abstract}
use Rattle.walrus.specs.Model.Kept.{Kept}
use Rattle.walrus.specs.Model.Live.{IsLive}
use Rattle.walrus.specs.Modules.View.{contents_of, view}
use Rattle.walrus.specs.Modules.SectionEntry.{SectionEntry}
use Rattle.walrus.specs.Modules.Module.{Module}
use Rattle.walrus.specs.Theorem.Report.{Counts}
use Rattle.walrus.specs.Collected.{Collects, KeepsOnly}
use Rattle.walrus.proofs.Marking.{below}
use Rattle.walrus.proofs.ReportLemmas.{counted_below}
use Rattle.walrus_tools.specs.Kinds.{CountsKinds, kinds_in, there}

-- ---- slots

module _ {T : Type 0} (slots : List (Option T)) (P : ℕ → Type 0) (there_so : (i : ℕ) → IsSome (item_at slots i) → P i) (so_there : (i : ℕ) → P i → IsSome (item_at slots i)) where
  there_are : Counts P (there slots)
  there_are = counted_below (λ i. is_some (item_at slots i)) (length slots) P there_so (λ i h. (so_there i h, below slots i (so_there i h)))

module _ {T : Type 0} (old new : List (Option T)) (K L : ℕ → Type 0) (only : KeepsOnly K old new) (was : (i : ℕ) → L i → IsSome (item_at old i)) (live : (i : ℕ) → K i → L i) where
  kept_are : Counts K (there new)
  kept_are = there_are new K (λ i h. by i (item_at new i) refl h) (λ i k. subst (λ (o : Option T). IsSome o) (sym (only.kept i k)) (was i (live i k)))
    where
      by : (i : ℕ) (o : Option T) → item_at new i ≡ o → IsSome o → K i
      by i (Some x) e h = (only.left i x e).0
      by i None e h = absurd cc

-- ---- the module in memory

module _ {V : Type 0} {O : V → Type 0} (G : (v : V) → Ghosts (O v)) (old new : Module (SectionEntry V O)) where
  abbrev seen : Abstract
  seen = view G old

  -- the items of the module
  pub all_kinds : CountsKinds (IsLive seen) (kinds_in (contents_of old))
  all_kinds = record {
    functions = there_are (functions old.funcs) _ (λ i. still_some (function old.locals) _) (λ i. was_some (function old.locals) _);
    tables = there_are (tables old.tables) _ (λ i. still_some table_of _) (λ i. was_some table_of _);
    memories = there_are (memories old.memories) _ (λ i. still_some memory_of _) (λ i. was_some memory_of _);
    tags = there_are (tags old.tags) _ (λ i. still_some tag_of _) (λ i. was_some tag_of _);
    globals = there_are (globals old.globals) _ (λ i. still_some global_of _) (λ i. was_some global_of _);
    elements = there_are (elements old.elements) _ (λ i. still_some element_of _) (λ i. was_some element_of _);
    data_segments = there_are (data_segments old.data_) _ (λ i. still_some data_of _) (λ i. was_some data_of _);
  }

  module _ (c : Collects G old new) where
    pub kept_live : (x : Item) → Kept seen x → IsLive seen x
    kept_live x (inl reached) = (c.sound x reached).live
    kept_live x (inr spare) = subst (λ (y : Item). IsLive seen y) (sym spare.is) spare.first.live

    -- those that gc left of them are those that are kept
    pub kept_kinds : CountsKinds (Kept seen) (kinds_in (contents_of new))
    kept_kinds = record {
      functions = kept_are (functions old.funcs) (functions new.funcs) _ (λ i. IsLive seen (Functions, i)) c.items.functions (λ i. was_some (function old.locals) _) (λ i. kept_live (Functions, i));
      tables = kept_are (tables old.tables) (tables new.tables) _ (λ i. IsLive seen (Tables, i)) c.items.tables (λ i. was_some table_of _) (λ i. kept_live (Tables, i));
      memories = kept_are (memories old.memories) (memories new.memories) _ (λ i. IsLive seen (Memories, i)) c.items.memories (λ i. was_some memory_of _) (λ i. kept_live (Memories, i));
      tags = kept_are (tags old.tags) (tags new.tags) _ (λ i. IsLive seen (Tags, i)) c.items.tags (λ i. was_some tag_of _) (λ i. kept_live (Tags, i));
      globals = kept_are (globals old.globals) (globals new.globals) _ (λ i. IsLive seen (Globals, i)) c.items.globals (λ i. was_some global_of _) (λ i. kept_live (Globals, i));
      elements = kept_are (elements old.elements) (elements new.elements) _ (λ i. IsLive seen (Elements, i)) c.items.elements (λ i. was_some element_of _) (λ i. kept_live (Elements, i));
      data_segments = kept_are (data_segments old.data_) (data_segments new.data_) _ (λ i. IsLive seen (DataSegments, i)) c.items.data_segments (λ i. was_some data_of _) (λ i. kept_live (DataSegments, i));
    }
