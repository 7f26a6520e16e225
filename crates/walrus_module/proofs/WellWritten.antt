-- What emission answers for a well-made module, and what a second emission does.
use Rattle.std.proofs.Common.{◌≡◌, ℕ, Bool, true, false, List, sym, ap, subst, ◌∙◌, ⊎_elim}
use Rattle.std.specs.Prelude.{IfOk, Result, Ok, Err, ◌⊎◌}
use Rattle.std.specs.Global.{Vec}
use Rattle.walrus_items.specs.declared.custom.CustomSection.{Ghosts}
use Rattle.walrus_items.specs.declared.error.Error.{Error}
use Rattle.walrus_model.specs.Abstract.{Abstract}
use Rattle.walrus_model.specs.Config.{Config}
use Rattle.walrus_model.specs.Declared.{NothingUndeclared}
use Rattle.walrus_theorem.specs.Chain.{Leaves}
use Rattle.walrus_theorem.specs.Refused.{Refusal, Memory, DeadItem, NoIndex, TwoIndices, TooLarge, NotWritable, Caller, Another, HasNoCause, IsSayable, PassesLimits, RefusesToWrite}
use Rattle.walrus_theorem.specs.WellMade.{IsWellMade}
use Rattle.walrus_theorem.proofs.BytesOnce.{bytes_once, living_keeps}
use Rattle.walrus_theorem.proofs.NoCause.{well_no_cause}
use Rattle.walrus_theorem.proofs.OneSpelling.{spelled_once}
use Rattle.walrus_theorem.proofs.WellStays.{leaves_well}
use Rattle.walrus_writing.specs.Emitted.{EmittedAs, IsEmitted, IsWrittenWith, refusal_of, told}
use Rattle.walrus_writing.specs.declared.write.Choices.{Choices}
use Rattle.walrus_module.specs.Answered.{IsWellWritten, WritesUnless}
use Rattle.walrus_module.specs.Asked.{OneAskedMayRefuse}
use Rattle.walrus_module.specs.Flags.{Flags, choices_of, config_of}
use Rattle.walrus_code.specs.Transform.{Transform}
use Rattle.walrus_module.specs.Following.{LeavesCustoms, OneMayRefuseThen}
use Rattle.walrus_module.specs.declared.customs.ModuleCustomSections.{ModuleCustomSections}
use Rattle.walrus_module.specs.Emission.{EmitsBytes}
use Rattle.walrus_module.specs.Laws.{EmitsAgain, UnsayableIsOpen}
use Rattle.walrus_module.specs.Left.{ChangesElements, but_customs}
use Rattle.walrus_module.specs.Settings.{settings}
use Rattle.walrus_module.specs.View.{meanings, view}
use Rattle.walrus_module.specs.declared.entry.SectionEntry.{SectionEntry}
use Rattle.walrus_module.specs.declared.module.Module.{Module}
use Rattle.walrus_module.proofs.Declaring.{leaves_nothing}

-- what the configuration comes to
pub written_with : (c : Config) (choices : Choices) → choices ≡ choices_of c → IsWrittenWith c choices
written_with c choices are = record {
  features_are = ap (λ (x : Choices). x.features) are;
  names_are = ap (λ (x : Choices). x.names) are;
  producers_are = ap (λ (x : Choices). x.producers) are;
}

-- ---- a well-made module

module _ {X : Type 0} (seen : X → List ℕ) (A : Type 0) (c : Config) (u : Abstract) where
  abbrev pub AnswersWell : Result X Refusal → Type 0
  AnswersWell result = WritesUnless (PassesLimits c u) A (λ (x : X). IsWellWritten c u (seen x)) result

  -- it has few causes to be refused
  pub well_refused : (r : Refusal) → IsWellMade c u → RefusesToWrite {X = X} A c u (Err r) → AnswersWell (Err r)
  well_refused Memory made h = tt
  well_refused DeadItem made h = (well_no_cause c u made).all_there h
  well_refused NoIndex made h = (well_no_cause c u made).indices h
  well_refused TwoIndices made h = (well_no_cause c u made).one_index h
  well_refused TooLarge made h = h.2 made.customs
  well_refused NotWritable made h = (well_no_cause c u made).spelled h
  well_refused Caller made h = h
  well_refused Another made h = h

  -- where nothing is undeclared, what is emitted reads back
  pub well_written : (bytes : List ℕ) → IsWellMade c u → NothingUndeclared u → IsEmitted c u bytes → IsWellWritten c u bytes
  well_written bytes made nothing emitted =
      let as_said : EmittedAs c u bytes = emitted made.customs in
      record {
        module_written = as_said.module_written;
        written = as_said.written;
        spelled = as_said.spelled;
        reads = as_said.reads made nothing;
        holds = as_said.holds made nothing;
      }

  -- what the exit of a `?` answers
  pub fails_well : (result : Result X Error) (e : Error) → result ≡ Err e → RefusesToWrite A c u (told result) → IsWellMade c u → AnswersWell (told result)
  fails_well result e is =
      subst (λ (r : Result X Error). RefusesToWrite A c u (told r) → IsWellMade c u → AnswersWell (told r)) (sym is)
      (λ refused made. well_refused (refusal_of e) made refused)

  -- what is answered for what the declared segment leaves of a well-made module
  pub answers_well : (v : Abstract) (result : Result X Error) → Leaves v u → IfOk result (λ x. IsEmitted c u (seen x)) → RefusesToWrite A c u (told result) → IsWellMade c v → AnswersWell (told result)
  answers_well v (Ok x) leaves emitted refused made = let well = leaves_well c v u made leaves in well_written (seen x) well.0 well.1 emitted
  answers_well v (Err e) leaves emitted refused made = well_refused (refusal_of e) (leaves_well c v u made leaves).0 refused

-- ---- a second emission

module _ (A : Type 0) (c : Config) (u : Abstract) (none : HasNoCause c u) (sayable : IsSayable u) where
  refused_again : (P : Vec ℕ → Type 0) (r : Refusal) → RefusesToWrite {X = Vec ℕ} A c u (Err r) → WritesUnless ⊥ A P (Err r)
  refused_again P Memory h = tt
  refused_again P DeadItem h = none.all_there h
  refused_again P NoIndex h = none.indices h
  refused_again P TwoIndices h = none.one_index h
  refused_again P TooLarge h = none.fits (h.2 sayable)
  refused_again P NotWritable h = none.spelled h
  refused_again P Caller h = h
  refused_again P Another h = h

  -- a module is written as one list of bytes
  written_again : (first second : List ℕ) → IsEmitted c u first → IsEmitted c u second → second ≡ first
  written_again first second one two =
      let a : EmittedAs c u first = one sayable in
      let b : EmittedAs c u second = two sayable in
      bytes_once spelled_once c u b.module_written a.module_written second first (living_keeps u none.all_there) b.written a.written b.spelled a.spelled

  answered_again : (first : List ℕ) (second : Result (Vec ℕ) Error) → IsEmitted c u first → IfOk second (λ bytes. IsEmitted c u bytes.items)
      → RefusesToWrite A c u (told second) → WritesUnless ⊥ A (λ (bytes : Vec ℕ). bytes.items ≡ first) (told second)
  answered_again first (Ok bytes) one two refused = written_again first bytes.items one two
  answered_again first (Err e) one two refused = refused_again (λ (bytes : Vec ℕ). bytes.items ≡ first) (refusal_of e) refused

one_of : {X : Type 0} (A : Type 0) (c : Config) (v : Abstract) (r : Result X Refusal) → RefusesToWrite (A ⊎ A) c v r → RefusesToWrite A c v r
one_of A c v (Ok x) h = h
one_of A c v (Err Memory) h = tt
one_of A c v (Err DeadItem) h = h
one_of A c v (Err TwoIndices) h = h
one_of A c v (Err NoIndex) h = h
one_of A c v (Err NotWritable) h = h
one_of A c v (Err TooLarge) h = h
one_of A c v (Err Caller) h = ⊎_elim (λ a. a) (λ a. a) h
one_of A c v (Err Another) h = h

module _ {V : Type 0} {O : V → Type 0} (G : (v : V) → Ghosts (O v)) where
  -- no transform was handed on, so nothing but element segments may have changed
  unhanded : {X E : Type 0} (hands : Bool) (Tells : X → Transform → Type 0) (Told : Transform → Type 0) (old new : ModuleCustomSections (SectionEntry V O)) (r : Result X E) → hands ≡ false → LeavesCustoms G hands Tells Told old new r → new ≡ old
  unhanded false Tells Told old new r off h = h
  unhanded true Tells Told old new r off h = absurd (cc)

  unheld : {X : Type 0} (E : Type 0) (x y : X) (hands : Bool) (Tells : X → Transform → Type 0) (Told : Transform → Type 0) (old new : ModuleCustomSections (SectionEntry V O)) → hands ≡ false
      → LeavesCustoms G {E = E} hands Tells Told old new (Ok x) → LeavesCustoms G {E = E} hands Tells Told old new (Ok y)
  unheld E x y false Tells Told old new off h = h
  unheld E x y true Tells Told old new off h = absurd (cc)

  module _ (result : Result (Vec ℕ) Error) (old new : Module (SectionEntry V O)) (plain : (settings old).preserve_code_transform ≡ false) (said : EmitsBytes G old new result) where
    whole : but_customs old new ≡ new
    whole = ap (λ (customs : ModuleCustomSections (SectionEntry V O)). record new { customs = customs })
        (sym (unhanded (settings old).preserve_code_transform _ _ old.customs new.customs result plain said.customs))

    changes : ChangesElements old new
    changes = subst (λ (m : Module (SectionEntry V O)). ChangesElements old m) whole said.others

  pub emits_again : EmitsAgain G
  emits_again old middle new first second plain sayable one two =
      let c = config_of (settings old) in
      let A = OneAskedMayRefuse (meanings G middle) in
      let kept : settings middle ≡ settings old = ap settings (changes (Ok first) old middle plain one) in
      let still : (settings middle).preserve_code_transform ≡ false = ap (λ (f : Flags). f.preserve_code_transform) kept ∙ plain in
      let left : Leaves (view G old) (view G middle) = subst (λ (m : Module (SectionEntry V O)). Leaves (view G old) (view G m)) (whole (Ok first) old middle plain one) one.left in
      let same : new ≡ middle = sym (whole second middle new still two) ∙ two.settled (leaves_nothing (view G old) (view G middle) left) in
      let says : IsSayable (view G middle) = subst (λ (m : Module (SectionEntry V O)). IsSayable (view G m)) (sym (changes (Ok first) old middle plain one)) sayable in
      let emitted : IfOk second (λ bytes. IsEmitted c (view G middle) bytes.items) =
      subst (λ (m : Module (SectionEntry V O)). IfOk second (λ bytes. IsEmitted c (view G m) bytes.items)) same
      (subst (λ (f : Flags). IfOk second (λ bytes. IsEmitted (config_of f) (view G new) bytes.items)) kept two.emitted) in
      let refused : RefusesToWrite (A ⊎ A) c (view G middle) (told second) =
      subst (λ (m : Module (SectionEntry V O)). RefusesToWrite (OneMayRefuseThen G middle.customs m.customs) c (view G m) (told second)) same
      (subst (λ (f : Flags). RefusesToWrite (OneMayRefuseThen G middle.customs new.customs) (config_of f) (view G new) (told second)) kept two.refused) in
      (same, answered_again A c (view G middle) one.refused says first.items second one.emitted emitted (one_of A c (view G middle) (told second) refused))

  pub unsayable_open : UnsayableIsOpen G
  unsayable_open old new first other plain not said = record {
    left = said.left;
    segments = said.segments;
    others = said.others;
    settled = said.settled;
    customs = unheld Error first other (settings old).preserve_code_transform _ _ old.customs new.customs plain said.customs;
    raw = said.raw;
    emitted = λ sayable. absurd (not (subst (λ (m : Module (SectionEntry V O)). IsSayable (view G m)) (changes (Ok first) old new plain said) sayable));
    declared = said.declared;
    refused = said.refused;
    well_made = λ made. absurd (not made.customs);
    own_ids = said.own_ids;
  }
