-- What is told of a module that was edited, collected and written: what the whole way comes to, and each refusal.
use Rattle.std.proofs.Common.{◌≡◌, ℕ, true, List, Option, Some, None, length, refl, sym, ap, ◌∙◌, subst}
use Rattle.std.specs.Prelude.{IsSome, Result, Ok, Err, ◌↔◌}
use Rattle.std.specs.Global.{Vec}
use Rattle.walrus.specs.Base.Arena.{item_at}
use Rattle.walrus.specs.Base.Operators.{Functions}
use Rattle.walrus.specs.Contents.View.{function}
use Rattle.walrus.specs.Contents.Contents.{Contents}
use Rattle.walrus.specs.Items.Functions.{FunctionValue, functions}
use Rattle.walrus.specs.Items.CustomSection.{Ghosts}
use Rattle.walrus.specs.Items.Error.{Error}
use Rattle.walrus.specs.Items.Error.TheVariants as error
use Rattle.walrus.specs.Model.Abstract.{Abstract}
use Rattle.walrus.specs.Model.Config.{Config}
use Rattle.walrus.specs.Model.Kept.{Kept}
use Rattle.walrus.specs.Model.Live.{IsLive}
use Rattle.walrus.specs.Theorem.Refused.{PassesLimits}
use Rattle.walrus.proofs.Base.Standing.{was_some}
use Rattle.walrus.specs.Modules.Answered.{IsWellWritten}
use Rattle.walrus.specs.Modules.Flags.{Flags, config_of}
use Rattle.walrus.specs.Modules.Parsed.{IsParsed}
use Rattle.walrus.specs.Modules.Settings.{settings}
use Rattle.walrus.specs.Modules.View.{contents_of, view}
use Rattle.walrus.specs.Modules.SectionEntry.{SectionEntry}
use Rattle.walrus.specs.Modules.Module.{Module}
use Rattle.walrus.specs.Collected.{Collects}
use Rattle.walrus_sections.specs.Choice.{Choice}
use Rattle.walrus_tools.specs.ChosenModule.{KeepsChosen, RefusesChosen}
use Rattle.walrus.specs.Edits.{AnswersEdited, EditsTo, IsWhole, RefusesEdit, with_customs}
use Rattle.walrus.specs.Ends.{Finishes, LeavesLarge, LeavesWritten, LeftOf}
use Rattle.walrus_tools.specs.Kinds.{CountsKinds, kinds_in}
use Rattle.walrus_tools.specs.Weigh.{AnswersReport, AnswersWeighed, IsSmaller, IsWeighed}
use Rattle.walrus_tools.specs.WeighSteps.{HasNoParts, IsInput, IsWeighedIn, WeighsReady, is_left}
use Rattle.walrus_tools.specs.declared.kinds.Kinds.{Kinds}
use Rattle.walrus_tools.specs.declared.weigh.Smaller.{Smaller}
use Rattle.walrus_tools.specs.declared.weigh.Weighed.{Weighed}
use Rattle.walrus.proofs.AnswerLemmas.{refused_so}
use Rattle.walrus.proofs.EditEnds.{edited_to, plain_edited, plain_read}
use Rattle.walrus_tools.proofs.KindLemmas.{all_kinds, kept_kinds, kept_live}

module _ {V : Type 0} {O : V → Type 0} (G : (v : V) → Ghosts (O v)) (m kept : Module (SectionEntry V O)) where
  abbrev config : Config
  config = config_of (settings m)

  module _ (c : Collects G m kept) where
    -- the functions that are left are those that are kept
    functions_left : (f : ℕ) → (is_left (functions kept.funcs) f ≡ true) ↔ Kept (view G m) (Functions, f)
    functions_left f = (
      λ there. from_slot (item_at (functions kept.funcs) f) refl there,
      λ k. subst (λ (o : Option FunctionValue). IsSome o) (sym ((c.items.functions).kept f k)) (was_some (function m.locals) (item_at (functions m.funcs) f) (kept_live G m kept c (Functions, f) k)),
    )
      where
        from_slot : (o : Option FunctionValue) → item_at (functions kept.funcs) f ≡ o → IsSome o → Kept (view G m) (Functions, f)
        from_slot (Some x) at there = ((c.items.functions).left f x at).0
        from_slot None at there = absurd cc

    pub told : (bytes output : List ℕ) (before after : Kinds) (bodies debug read written : ℕ) → LeavesWritten (LeftOf (view G m)) config output → after ≡ kinds_in (contents_of kept)
        → IsInput bytes (functions kept.funcs) bodies debug → read ≡ length bytes → written ≡ length output
        → IsWeighedIn G bytes output before m (record { before = before; after = after; read = read; written = written; bodies = bodies; debug = debug })
    told bytes output before after bodies debug read written leaves counted input all some = record {
      leaves = leaves;
      weighed = λ parsed were. record {
        before = were;
        after = subst (λ (k : Kinds). CountsKinds (Kept (view G m)) k) (sym counted) (kept_kinds G m kept c);
        read = all;
        written = some;
        parts = input.parts;
        has = input.has;
        stays = is_left (functions kept.funcs);
        stay = functions_left;
        bodies = input.bodies_are;
        debug = input.debug_is;
      };
    }

  -- ---- refusals

  pub not_finished : (bytes : List ℕ) (before : Kinds) (e : Error) → Finishes (LeftOf (view G m)) config (Err e) → WeighsReady G bytes before m (Err e)
  not_finished bytes before (error.Memory memory) h = tt
  not_finished bytes before error.TooLarge h = h
  not_finished bytes before _ h = absurd h

  pub no_input : (bytes : List ℕ) (before : Kinds) (e : Error) → HasNoParts bytes e → WeighsReady G bytes before m (Err e)
  no_input bytes before error.TooLarge h = absurd h
  no_input bytes before _ h = h

-- ---- from bytes to bytes

-- an edit that is refused is refused so, whatever would have been told
pub refused_weighed : (Edits : Contents → Contents → Type 0) (Refuses : Contents → Error → Type 0) (c : Config) (bytes : List ℕ) (e : Error) → AnswersEdited Edits Refuses c bytes (Err e) → AnswersWeighed Edits Refuses c bytes (Err e)
refused_weighed Edits Refuses c bytes e h =
    refused_so (Vec ℕ) Smaller c bytes (λ (output : Vec ℕ). LeavesWritten (EditsTo Edits c bytes) c output.items) (λ (s : Smaller). IsSmaller Edits c bytes s.output.items s.told)
    (LeavesLarge (EditsTo Edits c bytes) c) (RefusesEdit Refuses c bytes) e h

-- what isn't made isn't told
pub report_refused : (c : Config) (bytes : List ℕ) (choices : List Choice) (e : Error) → AnswersWeighed (KeepsChosen choices) (RefusesChosen choices) c bytes (Err e) → AnswersReport c bytes choices (Err e)
report_refused c bytes choices e h =
    refused_so Smaller Weighed c bytes (λ (s : Smaller). IsSmaller (KeepsChosen choices) c bytes s.output.items s.told) (λ (told : Weighed). (output : List ℕ) × IsSmaller (KeepsChosen choices) c bytes output told)
    (LeavesLarge (EditsTo (KeepsChosen choices) c bytes) c) (RefusesEdit (RefusesChosen choices) c bytes) e h

module _ {V : Type 0} {O : V → Type 0} (G : (v : V) → Ghosts (O v)) (Edits : Contents → Contents → Type 0) (Refuses : Contents → Error → Type 0) (c : Config) (bytes : List ℕ)
    (read : Module (SectionEntry V O)) (parsed : IsParsed c bytes (view G read)) (before : Kinds) (counted : before ≡ kinds_in (contents_of read)) where
  abbrev as_read : Abstract
  as_read = with_customs (view G read).customs (contents_of read)

  counts : CountsKinds (IsLive as_read) before
  counts =
      subst (λ (k : Kinds). CountsKinds (IsLive as_read) k) (sym counted)
      (subst (λ (v : Abstract). CountsKinds (IsLive v) (kinds_in (contents_of read))) (plain_read G Edits Refuses c bytes read parsed) (all_kinds G read read))

  module _ (edited : Module (SectionEntry V O)) (edits : Edits (contents_of read) (contents_of edited)) (own : edited.customs ≡ read.customs) (whole : IsWhole c edited)
      (f : Flags) (same : settings edited ≡ f) (is : config_of f ≡ c) where
    abbrev to : (u : Abstract) → LeftOf (view G edited) u → EditsTo Edits c bytes u
    to = edited_to G Edits Refuses c bytes read parsed edited edits own whole

    under : config_of (settings edited) ≡ c
    under = ap config_of same ∙ is

    smaller : (output : List ℕ) (told : Weighed) → IsWeighedIn G bytes output before edited told → IsSmaller Edits c bytes output told
    smaller output told h = record {
      leaves = record {
        module_left = h.leaves.module_left;
        left = to h.leaves.module_left h.leaves.left;
        written = subst (λ (d : Config). IsWellWritten d h.leaves.module_left output) under h.leaves.written;
      };
      weighed = subst (λ (v : Abstract). IsWeighed bytes output as_read v told) (plain_edited G Edits Refuses c bytes read parsed edited edits own whole) (h.weighed as_read counts);
    }

    -- what is made of the edited module is what is made of the bytes
    pub edit_weighs : (result : Result Smaller Error) → WeighsReady G bytes before edited result → AnswersWeighed Edits Refuses c bytes result
    edit_weighs (Ok s) h = smaller s.output.items s.told h
    edit_weighs (Err (error.Memory m)) h = tt
    edit_weighs (Err (error.InvalidWasm k)) h = λ accepts. h accepts.1.sections accepts.1.framed
    edit_weighs (Err error.TooLarge) h = record {
      module_left = h.module_left;
      left = to h.module_left h.left;
      too_large = subst (λ (d : Config). PassesLimits d h.module_left) under h.too_large;
    }
    edit_weighs (Err _) h = absurd h
