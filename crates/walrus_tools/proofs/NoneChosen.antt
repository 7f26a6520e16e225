-- Where nothing is chosen all exports stay, and the whole way is a run.
use Rattle.std.proofs.Common.{◌≡◌, ℕ, zero, suc, List, [], ◌∷◌, length, map, Option, Some, None, refl, ap, ap₂, ◌∙◌, subst, inl, ⊎_elim, arith}
use mathlib.Core.Path.{fun_ext}
use Rattle.std.specs.Prelude.{Ok, Err}
use Rattle.walrus.specs.Base.Arena.{item_at, items}
use Rattle.walrus.specs.Base.Operators.{Types, Functions, Tables, Memories, Tags, Globals, Elements, DataSegments}
use Rattle.walrus.proofs.Base.Lists.{Contains-none}
use Rattle.walrus.specs.Model.Abstract.{Abstract, Custom, Name, Subject, TheModule, AnItem, ALocal}
use Rattle.walrus.specs.Model.Config.{Config}
use Rattle.walrus.specs.Items.Exports.{ExportValue, exports}
use Rattle.walrus.specs.Items.Error.TheVariants as error
use Rattle.walrus.specs.Contents.View.{export_of, named_of}
use Rattle.walrus.specs.Contents.Contents.{Contents}
use Rattle.walrus.specs.Theorem.Chain.{BringsTo}
use Rattle.walrus.specs.Theorem.Headline.{ComesTo}
use Rattle.walrus.proofs.Theorem.AgainAll.{writes_again}
use Rattle.walrus.proofs.Theorem.EnginesRun.{run_looks_same}
use Rattle.walrus.proofs.Theorem.Runs.{comes_out_too_large}
use Rattle.walrus.proofs.Theorem.SettleAll.{runs_settle}
use Rattle.walrus.proofs.Theorem.StepRead.{steps_come_out_lem}
use Rattle.walrus.specs.Modules.Answered.{IsWellWritten}
use Rattle.walrus.specs.Headline.{ComesOut}
use Rattle.walrus_sections.specs.ExportChoice.{IsChosen}
use Rattle.walrus_tools.specs.ChosenModule.{KeepsChosen, NoneChosen}
use Rattle.walrus.specs.Edits.{EditsTo, with_customs}
use Rattle.walrus.specs.Ends.{LeftOf}
use Rattle.walrus_tools.specs.KeptExports.{StaysIf}

-- ---- all exports stay

all_chosen : (name : List ℕ) → IsChosen [] name
all_chosen name = (inl (λ choice at. absurd (Contains-none choice at)), λ one. absurd (Contains-none one.0 one.1))

same_slot : (was is : Option ExportValue) → StaysIf (IsChosen []) was is → is ≡ was
same_slot None is h = h
same_slot (Some e) is h = ⊎_elim (λ stays. stays.1) (λ goes. absurd (goes.0 (all_chosen e.name))) h

same_slots : (old new : List (Option ExportValue)) → length new ≡ length old → ((i : ℕ) → StaysIf (IsChosen []) (item_at old i) (item_at new i)) → new ≡ old
same_slots [] [] long each = refl
same_slots [] (y ∷ new) long each = absurd (omega (arith, long))
same_slots (x ∷ old) [] long each = absurd (omega (arith, long))
same_slots (x ∷ old) (y ∷ new) long each = ap₂ (λ (o : Option ExportValue) (os : List (Option ExportValue)). o ∷ os) (same_slot x y (each zero)) (same_slots old new (omega (arith, long)) (λ i. each (suc i)))

module _ (old new : Contents) (kept : KeepsChosen [] old new) where
  abbrev after : Contents
  after = record old { exports = new.exports }

  same_names : (s : Subject) → named_of after s ≡ named_of old s
  same_names TheModule = refl
  same_names (AnItem (Types, i)) = refl
  same_names (AnItem (Functions, i)) = refl
  same_names (AnItem (Tables, i)) = refl
  same_names (AnItem (Memories, i)) = refl
  same_names (AnItem (Tags, i)) = refl
  same_names (AnItem (Globals, i)) = refl
  same_names (AnItem (Elements, i)) = refl
  same_names (AnItem (DataSegments, i)) = refl
  same_names (ALocal f x) = refl

  all_stay : exports new.exports ≡ exports old.exports
  all_stay = same_slots (exports old.exports) (exports new.exports) ((kept.keeps).stay).places ((kept.keeps).stay).each

  same_view : (customs : List Custom) → with_customs customs new ≡ with_customs customs old
  same_view customs =
      ap (with_customs customs) kept.others
      ∙ ap (λ (es : List (Option ExportValue)). record (with_customs customs old) { exports = map export_of (items es); named = named_of after }) all_stay
      ∙ ap (λ (n : Subject → List Name). record (with_customs customs old) { named = n }) (fun_ext same_names)

-- ---- what that comes to

module _ (c : Config) (bytes : List ℕ) (u : Abstract) (to : EditsTo (KeepsChosen []) c bytes u) where
  left : LeftOf (with_customs to.customs to.module_parsed) u
  left = subst (λ (v : Abstract). LeftOf v u) (same_view to.module_parsed to.module_edited to.edits to.customs) to.left

  brings : BringsTo c (to.parsed).module_read u
  brings = record { module_parsed = with_customs to.customs to.module_parsed; module_kept = left.module_collected; parsed = (to.parsed).parsed; collected = left.collected; leaves = left.left }

  comes : (output : List ℕ) → IsWellWritten c u output → ComesTo c bytes output
  comes output written = record {
    module_read = (to.parsed).module_read;
    reads = (to.parsed).reads;
    holds = (to.parsed).holds;
    module_left = u;
    brought = brings;
    module_written = written.module_written;
    written = written.written;
    spelled = written.spelled;
    output_reads = written.reads;
    output_holds = written.holds;
    out = steps_come_out_lem c bytes (to.parsed).module_read u written.module_written (to.parsed).reads (to.parsed).holds brings written.written;
  }

  comes_out : (output : List ℕ) → IsWellWritten c u output → ComesOut c bytes output
  comes_out output written =
      let is = comes output written in
      record { comes = is; settled = λ before first. runs_settle c before bytes output first is; again = λ before first. writes_again c before bytes output first is; alike = run_looks_same c bytes output is }

pub none_runs : NoneChosen
none_runs c bytes (Ok output) h = comes_out c bytes h.module_left h.left output.items h.written
none_runs c bytes (Err (error.Memory m)) h = tt
none_runs c bytes (Err (error.InvalidWasm kind)) h = h
none_runs c bytes (Err error.TooLarge) h =
    let to = h.left in
    comes_out_too_large c bytes (to.parsed).module_read h.module_left (to.parsed).reads (to.parsed).holds (brings c bytes h.module_left to) h.too_large
none_runs c bytes (Err error.NotFound) h = absurd (Contains-none ((h.refuses).0) (h.refuses).1)
none_runs c bytes (Err error.DeadItem) h = absurd h.refuses
none_runs c bytes (Err error.NoIndex) h = absurd h.refuses
none_runs c bytes (Err error.TwoIndices) h = absurd h.refuses
none_runs c bytes (Err error.NotWritable) h = absurd h.refuses
none_runs c bytes (Err (error.Caller text)) h = absurd h.refuses
none_runs c bytes (Err error.SeveralMemories) h = absurd h.refuses
none_runs c bytes (Err error.NoMemory) h = absurd h.refuses
none_runs c bytes (Err error.SeveralFunctionTables) h = absurd h.refuses
none_runs c bytes (Err error.NotExported) h = absurd h.refuses
none_runs c bytes (Err error.NotImported) h = absurd h.refuses
none_runs c bytes (Err error.NotReplaceable) h = absurd h.refuses
