-- What was parsed, handed to the hook that adds an export, collected and written: what the whole way comes to.
use Rattle.std.proofs.Common.{◌≡◌, ℕ, List, Some, refl, sym, ap, ◌∙◌, subst, inl, inr}
use Rattle.std.specs.Prelude.{Result, Ok, Err}
use Rattle.std.specs.Global.{Vec}
use Rattle.walrus.specs.Base.Arena.{item_at}
use Rattle.walrus.specs.Base.Id.{place}
use Rattle.walrus.specs.Code.IndicesToIds.{IndicesToIds}
use Rattle.walrus.specs.Code.InstrLocId.{InstrLocId}
use Rattle.walrus.specs.Model.Config.{Config}
use Rattle.walrus.specs.Items.CustomSection.{Ghosts}
use Rattle.walrus.specs.Items.Error.{Error}
use Rattle.walrus.specs.Items.Error.TheVariants.{Caller, InvalidWasm, Memory, NotFound}
use Rattle.walrus.specs.Items.Exports.{exports}
use Rattle.walrus.specs.Items.Functions.{functions}
use Rattle.walrus.specs.Contents.Contents.{Contents}
use Rattle.walrus.specs.Modules.Parsed.{RefusesBytes}
use Rattle.walrus.specs.Theorem.Features.{features_of}
use Rattle.walrus.proofs.Theorem.EditKept.{some_there}
use Rattle.walrus.specs.Modules.Flags.{Flags, config_of, defaults}
use Rattle.walrus.specs.Modules.OnParse.{Effect, HasRun, IsHanded, RunsHook}
use Rattle.walrus.specs.Modules.Settings.{settings}
use Rattle.walrus.specs.Modules.View.{contents_of}
use Rattle.walrus.specs.Modules.SectionEntry.{SectionEntry}
use Rattle.walrus.specs.Modules.Module.{Module}
use Rattle.walrus.proofs.EditEnds.{edit_finishes, edit_refused, parsed_whole}
use Rattle.walrus_examples.proofs.FunctionsThere.{none_at, one_at}
use Rattle.walrus_examples.proofs.HookSteps.{export_whole}
use Rattle.walrus.specs.Edits.{AnswersEdited, IsWhole}
use Rattle.walrus.specs.Ready.{FinishesReady}
use Rattle.walrus_examples.specs.declared.examples.with_export.Exporting.{Exporting}
use Rattle.walrus_examples.specs.ExportHook.{AnswersExport, ExportsHeld, ExportsIndexed, RefusesExport, RefusesIndexed}

module _ {V : Type 0} {O : V → Type 0} (G : (v : V) → Ghosts (O v)) (Gives : ℕ → InstrLocId → Type 0) (bytes : List ℕ) (index : ℕ) (name : List ℕ) where
  abbrev does : Effect
  does = λ sections own means ids old new answer. ExportsIndexed index name ids old new answer

  abbrev c : Config
  c = config_of defaults

  abbrev Held : Contents → Contents → Type 0
  Held = ExportsHeld index name

  abbrev Refuses : Contents → Error → Type 0
  Refuses = RefusesExport index name

  why : (read : Module (SectionEntry V O)) (ids : IndicesToIds) → IsHanded G defaults Gives bytes read ids → (e : Error) → RefusesIndexed index name ids (exports read.exports) e → Refuses (contents_of read) e
  why read ids handed (Memory m) h = tt
  why read ids handed NotFound h = none_at (features_of c) bytes (contents_of read) handed.read.taken handed.types ids handed.numbered index h
  why read ids handed (Caller text) h = h
  why read ids handed e h = absurd h

  unread : (e : Error) → RefusesBytes c bytes e → AnswersEdited Held Refuses c bytes (Err e)
  unread (Memory m) h = tt
  unread (InvalidWasm kind) h = h
  unread e h = absurd h

  refused : (e : Error) → RunsHook G does defaults Gives bytes (Err e) → AnswersEdited Held Refuses c bytes (Err e)
  refused e (inl h) = unread e h
  refused e (inr (left, ran)) = edit_refused G Held Refuses c bytes ran.module_read (ran.handed).read.found (λ k h. h) (λ h. h) e (why ran.module_read ran.ids ran.handed e ran.did)

  finishes : (m : Module (SectionEntry V O)) → HasRun G does defaults Gives bytes m (Ok tt) → (result : Result (Vec ℕ) Error) → FinishesReady G m result → AnswersEdited Held Refuses c bytes result
  finishes m ran result ends =
      let read = ran.module_read in
      let handed = ran.handed in
      let did = ran.did in
      let at = one_at (features_of c) bytes (contents_of read) handed.read.taken handed.types ran.ids handed.numbered index (place did.function) did.indexed in
      let there = subst (λ (i : ℕ). item_at (functions read.funcs) i ≡ Some at.1.0) (sym at.0) at.1.1 in
      let whole : IsWhole c m = subst (λ (n : Module (SectionEntry V O)). IsWhole c n) (sym did.others)
      (export_whole G c bytes read handed.read.found m.exports did.function name did.adds (some_there (item_at (functions read.funcs) (place did.function)) there)
      (parsed_whole G Held Refuses c bytes read handed.read.found)) in
      edit_finishes G Held Refuses c bytes read handed.read.found m
      (record { function = at.1.0; there = at.1.1; id = did.function; at_index = at.0; adds = did.adds; others = ap (λ (n : Module (SectionEntry V O)). contents_of n) did.others })
      (ap (λ (n : Module (SectionEntry V O)). n.customs) did.others) whole (handed.read.kept).raws (handed.read.kept).are
      defaults (ap (λ (n : Module (SectionEntry V O)). settings n) did.others ∙ handed.read.configured) refl refl result ends

-- the same of a hook that a configuration was given, with the flags of that
module _ {V : Type 0} {O : V → Type 0} (G : (v : V) → Ghosts (O v)) (Gives : ℕ → InstrLocId → Type 0) (bytes : List ℕ) (hook meant : Exporting) (is : hook ≡ meant) (f : Flags) (same : f ≡ defaults) where
  answers : (result : Result (Vec ℕ) Error) → AnswersExport (config_of defaults) bytes hook.index hook.name.now result → AnswersExport (config_of defaults) bytes meant.index meant.name.now result
  answers result h = subst (λ (k : Exporting). AnswersExport (config_of defaults) bytes k.index k.name.now result) is h

  -- the bytes are refused, or the hook refuses
  pub hook_refused : (e : Error) → RunsHook G (does G Gives bytes hook.index hook.name.now) f Gives bytes (Err e) → AnswersExport (config_of defaults) bytes meant.index meant.name.now (Err e)
  hook_refused e ran = answers (Err e) (refused G Gives bytes hook.index hook.name.now e (subst (λ (g : Flags). RunsHook G (does G Gives bytes hook.index hook.name.now) g Gives bytes (Err e)) same ran))

  -- what the hook left is collected and written
  pub hook_finishes : (m : Module (SectionEntry V O)) → HasRun G (does G Gives bytes hook.index hook.name.now) f Gives bytes m (Ok tt) → (result : Result (Vec ℕ) Error) → FinishesReady G m result
      → AnswersExport (config_of defaults) bytes meant.index meant.name.now result
  hook_finishes m ran result ends =
      answers result (finishes G Gives bytes hook.index hook.name.now m (subst (λ (g : Flags). HasRun G (does G Gives bytes hook.index hook.name.now) g Gives bytes m (Ok tt)) same ran) result ends)
