-- Counting as an edit of what was parsed.
use Rattle.std.proofs.Common.{◌≡◌, ℕ, List, Result, Ok, Err, MatchResult, sym, ap, ◌∙◌, subst}
use Rattle.std.specs.List.{AllZip}
use Rattle.walrus.specs.Base.Id.{place}
use Rattle.walrus.specs.Base.IdValue.{Id}
use Rattle.walrus.specs.Base.FunctionKey.{FunctionKey}
use Rattle.walrus.specs.Model.Config.{Config}
use Rattle.walrus.specs.Items.Errors.{out_of_memory}
use Rattle.walrus.specs.Items.CustomSection.{Ghosts}
use Rattle.walrus.specs.Items.Error.{Error}
use Rattle.walrus.specs.Items.Functions.{functions}
use Rattle.walrus.specs.Contents.View.{contents_view}
use Rattle.walrus.specs.Contents.Contents.{Contents}
use Rattle.walrus.specs.Theorem.EditLaws.{IsWholeModule}
use Rattle.walrus.specs.Modules.Parsed.{IsParsed}
use Rattle.walrus.specs.Modules.Settings.{settings}
use Rattle.walrus.specs.Modules.View.{contents_of, held_view, view}
use Rattle.walrus.specs.Modules.SectionEntry.{SectionEntry}
use Rattle.walrus.specs.Modules.Module.{Module}
use Rattle.walrus_examples.proofs.CountRead.{call_formed}
use Rattle.walrus_examples.proofs.CountStep.{after, after_whole, types_kept}
use Rattle.walrus.proofs.EditEnds.{parsed_whole}
use Rattle.walrus_examples.specs.Count.{SlotCalls}
use Rattle.walrus_examples.specs.CountAnswers.{Counts, CountsAll, CountsHeld, ImportsTo}
use Rattle.walrus.specs.Edits.{ForMemory, IsWhole}

-- both steps together
pub both_steps : {S : Type 0} (from name : List ℕ) (old middle new : Module S) (called : Id FunctionKey) → ImportsTo from name old middle called → new ≡ record middle { funcs = new.funcs } → (result : Result (Unit {0}) Error)
    → MatchResult result (λ done. AllZip (SlotCalls (place called)) (functions middle.funcs) (functions new.funcs)) (λ e. e ≡ out_of_memory) → CountsAll from name old new result
both_steps from name old middle new called imported others (Ok done) calls = record { called = called; middle = middle; imported = imported; calls = calls; others = others }
both_steps from name old middle new called imported others (Err e) is = is

pub counts_held : {S : Type 0} (from name : List ℕ) (old new : Module S) → Counts from name old new → CountsHeld from name (contents_of old) (contents_of new)
counts_held {S} from name old new counts = subst (λ (m : Module S). CountsHeld from name (contents_of old) (contents_of m)) (sym counts.others) (record {
  items = record { called = counts.called; with_one = functions (counts.middle).funcs; imported = (counts.imported).items; calls = counts.calls };
  others = ap (λ (m : Module S). contents_of (record m { funcs = new.funcs })) (counts.imported).others;
})

-- custom sections and settings stay
pub same_customs : {S : Type 0} (from name : List ℕ) (old new : Module S) → Counts from name old new → new.customs ≡ old.customs
same_customs from name old new counts = ap (λ m. m.customs) counts.others ∙ ap (λ m. m.customs) (counts.imported).others

pub same_settings : {S : Type 0} (from name : List ℕ) (old new : Module S) → Counts from name old new → settings new ≡ settings old
same_settings from name old new counts = ap settings counts.others ∙ ap settings (counts.imported).others

-- what was parsed is whole once calls are counted
pub count_whole : {V : Type 0} {O : V → Type 0} (G : (v : V) → Ghosts (O v)) (c : Config) (bytes from name : List ℕ) (read edited : Module (SectionEntry V O)) → IsParsed c bytes (view G read) → Counts from name read edited → IsWhole c edited
count_whole {V} {O} G c bytes from name read edited parsed counts =
    let whole : IsWhole c read = parsed_whole G (CountsHeld from name) ForMemory c bytes read parsed in
    let before : IsWholeModule c (held_view read) = record { made = whole.made; reached = whole.reached } in
    let now : IsWholeModule c (contents_view (after c from name read edited counts before)) =
    after_whole c from name read edited counts before
    (call_formed c bytes parsed.module_read parsed.reads (place counts.called) (view G read) parsed.holds parsed.parsed (contents_view (after c from name read edited counts before)) (types_kept c from name read edited counts before)) in
    let same : IsWholeModule c (held_view edited) = subst (λ (m : Contents). IsWholeModule c (contents_view m)) (sym (ap contents_of counts.others)) now in
    record { made = same.made; reached = same.reached }
