-- What custom sections are behind a code transform.
use Rattle.std.specs.Prelude.{ℕ, Bool, true, false, List, length, Option, Some, None, Result, Ok, Err, ◌≡◌, ◌≢◌, ◌⊎◌, ⊤}
use Rattle.wasm_frames.specs.Record as wire
use Rattle.walrus_base.specs.Arena.{item_at}
use Rattle.walrus_code.specs.Indices.{index_of}
use Rattle.walrus_code.specs.Names.{Lookup}
use Rattle.walrus_code.specs.Transform.{Transform}
use Rattle.walrus_model.specs.Config.{Config}
use Rattle.walrus_contents.specs.View.{lent}
use Rattle.walrus_contents.specs.declared.parts.Contents.{Contents}
use Rattle.walrus_contents.specs.declared.parts.Parts.{Parts}
use Rattle.walrus_items.specs.Transform.{transform_of}
use Rattle.walrus_items.specs.declared.custom.CustomSection.{Ghosts}
use Rattle.walrus_items.specs.declared.transform.CodeTransform.{CodeTransform}
use Rattle.walrus_plan.specs.Prepared.{IsPrepared}
use Rattle.walrus_plan.specs.declared.prepared.Prepared.{Prepared}
use Rattle.walrus_writing.specs.Transform.{TellsTransform}
use Rattle.walrus_module.specs.Asked.{OneAskedMayRefuse, is_in_turn}
use Rattle.walrus_module.specs.Customs.{sections}
use Rattle.walrus_module.specs.Flags.{choices_of}
use Rattle.walrus_module.specs.Meaning.{Meaning, meaning}
use Rattle.walrus_module.specs.View.{meant}
use Rattle.walrus_module.specs.declared.customs.ModuleCustomSections.{ModuleCustomSections}
use Rattle.walrus_module.specs.declared.entry.SectionEntry.{SectionEntry}
use Rattle.walrus_module.specs.declared.entry.SectionEntry.TheVariants.{Raw, Boxed}

-- A section that is handed the transform has the same name behind it, and the state that the old one gives for it; any other stays.
abbrev pub FollowsBy : (handed : Bool) → Transform → (old new : Meaning) → Type 0
FollowsBy true x old new = (new.name ≡ old.name) × (new.state ≡ old.state_after x)
FollowsBy false x old new = new ≡ old

-- it is handed to all but those of dynamic linking and debug information
abbrev pub Follows : Transform → (old new : Meaning) → Type 0
Follows x old new = FollowsBy (is_in_turn false old.name) x old new

-- it means the same
abbrev pub Stays : (old new : Meaning) → Type 0
Stays old new = new ≡ old

-- so it is, or nothing happened
abbrev pub MayFollow : Transform → (old new : Meaning) → Type 0
MayFollow x old new = Follows x old new ⊎ (new ≡ old)

-- One that was read is the same one. One of a caller's own is of the same type: its box has the table that it had, so what it means is said by the
-- same ghost members, of its new value.
abbrev pub SameKind : {V : Type 0} {O : V → Type 0} → (old new : SectionEntry V O) → Type 0
SameKind (Raw s) (Raw t) = t ≡ s
SameKind (Boxed a) (Boxed b) = b.vtable ≡ a.vtable
SameKind a b = ⊥

module _ {V : Type 0} {O : V → Type 0} (G : (v : V) → Ghosts (O v)) where
  -- what is at a place comes to what is there later: a section to one of its kind, and nothing to nothing
  abbrev pub SlotComes : (Meaning → Meaning → Type 0) → (old new : Option (SectionEntry V O)) → Type 0
  SlotComes R None None = ⊤
  SlotComes R (Some s) (Some t) = SameKind s t × R (meaning G s) (meaning G t)
  SlotComes R a b = ⊥

  -- so it does at each place, and there are as many
  pub record EachComes (R : Meaning → Meaning → Type 0) (old new : List (Option (SectionEntry V O))) : Type 0 where
    pub places : length new ≡ length old
    pub comes : (i : ℕ) → SlotComes R (item_at old i) (item_at new i)

  -- a section that may refuse the transform is there
  abbrev pub MayRefuseAt : Option (SectionEntry V O) → Type 0
  MayRefuseAt None = ⊥
  MayRefuseAt (Some s) = (is_in_turn false (meaning G s).name ≡ true) × ((meaning G s).may_refuse ≡ true)

  -- one place may have changed, and came to this
  pub record OneComes (R : Meaning → Meaning → Type 0) (at : ℕ) (old new : List (Option (SectionEntry V O))) : Type 0 where
    pub places : length new ≡ length old
    pub comes : SlotComes R (item_at old at) (item_at new at)
    pub others : (i : ℕ) → i ≢ at → item_at new i ≡ item_at old i

module _ {V : Type 0} {O : V → Type 0} (G : (v : V) → Ghosts (O v)) where
  -- A caller's own whose type writes by its state: each value of that type says what f says of the value's state.
  abbrev pub WritesByState : (f : List ℕ → Lookup → List ℕ) → SectionEntry V O → Type 0
  WritesByState f (Raw s) = ⊥
  WritesByState f (Boxed b) = (x : O b.vtable) → (G b.vtable).contents x ≡ f ((G b.vtable).state x)

  -- so it does behind a transform, which it was handed: of the state that the old one gives for it
  abbrev pub FollowedWrite : Type 0
  FollowedWrite =
      (x : Transform) (f : List ℕ → Lookup → List ℕ) (old new : SectionEntry V O) → WritesByState f old → is_in_turn false (meaning G old).name ≡ true
      → SlotComes G (Follows x) (Some old) (Some new) → WritesByState f new × ((meaning G new).contents ≡ f ((meaning G old).state_after x))

module _ {V : Type 0} {O : V → Type 0} where
  abbrev pub IsRaw : Option (SectionEntry V O) → Type 0
  IsRaw None = ⊤
  IsRaw (Some (Raw s)) = ⊤
  IsRaw (Some (Boxed b)) = ⊥

  -- no section is a caller's own
  abbrev pub AreRaw : List (Option (SectionEntry V O)) → Type 0
  AreRaw slots = (i : ℕ) → IsRaw (item_at slots i)

-- ---- what emission leaves

-- Of what is held, under a plan of it, x is the code transform, whatever bytes it is written as with custom sections among which those of dynamic
-- linking are these.
pub record IsToldOf (c : Config) (held : Contents) (dylinks : List wire.Custom) (x : Transform) : Type 0 where
  pub parts : Parts
  pub holds : lent parts ≡ held
  pub prepared : Prepared
  pub planned : IsPrepared parts prepared
  pub transform : CodeTransform
  pub is : transform_of transform ≡ x
  pub tells : TellsTransform parts (choices_of c) (index_of prepared.indices) dylinks true transform

module _ {V : Type 0} {O : V → Type 0} (G : (v : V) → Ghosts (O v)) where
  -- What emission leaves of custom sections, where it hands them the transform or doesn't, and answers so: on Ok all have followed a transform of
  -- which `Tells` holds; refused, they are as they were, or each has followed one of which `Told` holds, or is as it was.
  abbrev pub LeavesCustoms : {X E : Type 0} → (hands : Bool) → (Tells : X → Transform → Type 0) → (Told : Transform → Type 0) → (old new : ModuleCustomSections (SectionEntry V O)) → Result X E → Type 0
  LeavesCustoms false Tells Told old new result = new ≡ old
  LeavesCustoms true Tells Told old new (Ok r) = (x : Transform) × (Tells r x × EachComes G (Follows x) (sections old) (sections new))
  LeavesCustoms true Tells Told old new (Err e) = (new ≡ old) ⊎ ((x : Transform) × (Told x × EachComes G (MayFollow x) (sections old) (sections new)))

  -- one that is asked for its data, or handed the transform, may refuse: as it was before, or as it is behind the transform
  abbrev pub OneMayRefuseThen : (old new : ModuleCustomSections (SectionEntry V O)) → Type 0
  OneMayRefuseThen old new = OneAskedMayRefuse (meant G old) ⊎ OneAskedMayRefuse (meant G new)
