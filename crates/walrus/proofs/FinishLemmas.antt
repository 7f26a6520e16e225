-- A module that is well made, and of whose sections none may refuse, collected, then written or refused: what that comes to.
use Rattle.std.proofs.Common.{◌≡◌, ℕ, Bool, true, false, List, ap, ◌∙◌, subst}
use Rattle.std.specs.Prelude.{map, Result, Ok, Err}
use Rattle.std.specs.Global.{Vec}
use Rattle.walrus_base.specs.Arena.{items}
use Rattle.walrus_code.specs.Transform.{Transform}
use Rattle.walrus_model.specs.Abstract.{Abstract}
use Rattle.walrus_model.specs.Config.{Config}
use Rattle.walrus_model.specs.Names.{body_of_function, body_of_kind}
use Rattle.walrus_model.specs.Pipeline.{Collected}
use Rattle.walrus_model.specs.Dead.{HasDead}
use Rattle.walrus_theorem.specs.Chain.{Leaves}
use Rattle.walrus_theorem.specs.Refused.{PassesLimits}
use Rattle.walrus_theorem.specs.WellMade.{IsWellMade}
use Rattle.walrus_theorem.proofs.NoCause.{well_no_cause}
use Rattle.walrus_theorem.proofs.WellStays.{collected_well}
use Rattle.walrus_items.specs.declared.custom.CustomSection.{Ghosts}
use Rattle.walrus_items.specs.declared.error.Error.{Error}
use Rattle.walrus_items.specs.declared.error.Error.TheVariants as error
use Rattle.walrus_module.specs.Answered.{IsWellWritten, WritesUnless}
use Rattle.walrus_module.specs.Asked.{OneAskedMayRefuse, OneMayRefuse}
use Rattle.walrus_module.specs.Customs.{sections}
use Rattle.walrus_module.specs.Emitted.{told}
use Rattle.walrus_module.specs.Flags.{Flags, config_of}
use Rattle.walrus_module.specs.Following.{LeavesCustoms, OneMayRefuseThen}
use Rattle.walrus_module.specs.Left.{LeavesBy, but_customs}
use Rattle.walrus_module.specs.Meaning.{meaning}
use Rattle.walrus_module.specs.Settings.{settings}
use Rattle.walrus_module.specs.View.{meanings, view}
use Rattle.walrus_module.specs.declared.customs.ModuleCustomSections.{ModuleCustomSections}
use Rattle.walrus_module.specs.declared.entry.SectionEntry.{SectionEntry}
use Rattle.walrus_module.specs.declared.module.Module.{Module}
use Rattle.walrus.specs.Marked.{ReachesUnsound}
use Rattle.walrus.specs.Used.{RefusesSearch}
use Rattle.walrus_module.proofs.RawStays.{leaves_whole, plain_well}
use Rattle.walrus.specs.Ends.{Answers, Finishes, LeavesLarge, LeavesWritten, LeftOf}
use Rattle.walrus.specs.Ready.{IsReady}

-- where what is left so is left as another says, the answer is one of bytes that were read
module _ (Left More : Abstract → Type 0) (c : Config) (bytes : List ℕ) (Refuses : Error → Type 0) (more : (u : Abstract) → Left u → More u) where
  pub answered : (result : Result (Vec ℕ) Error) → Finishes Left c result → Answers c bytes (λ (output : Vec ℕ). LeavesWritten More c output.items) (LeavesLarge More c) Refuses result
  answered (Ok x) h = record { module_left = h.module_left; left = more h.module_left h.left; written = h.written }
  answered (Err (error.Memory e)) h = tt
  answered (Err error.TooLarge) h = record { module_left = h.module_left; left = more h.module_left h.left; too_large = h.too_large }
  answered (Err _) h = absurd h

module _ {V : Type 0} {O : V → Type 0} (G : (v : V) → Ghosts (O v)) where
  -- what emission answers of a module that is well made, of whose sections none may refuse or changes
  module _ (Left : Abstract → Type 0) (m left : Module (SectionEntry V O)) (same : left.customs ≡ m.customs) (never : OneAskedMayRefuse (meanings G m) → ⊥)
      (leads : (u : Abstract) → Leaves (view G m) u → Left u) (c : Config) (well : IsWellMade c (view G m)) where
    by_result : (u : Abstract) (result : Result (Vec ℕ) Error) → LeavesBy (view G m) u (told result)
        → WritesUnless (PassesLimits c u) (OneAskedMayRefuse (meanings G m)) (λ (b : Vec ℕ). IsWellWritten c u b.items) (told result) → Finishes Left c result
    by_result u (Ok x) leaves h = record { module_left = u; left = leads u leaves; written = h }
    by_result u (Err (error.Memory e)) leaves h = tt
    by_result u (Err error.TooLarge) leaves h = record { module_left = u; left = leads u leaves; too_large = h }
    by_result u (Err (error.Caller text)) leaves h = absurd (never h)
    by_result u (Err _) leaves h = absurd h

    pub emitted : (f : Flags) → config_of f ≡ c → (result : Result (Vec ℕ) Error) → LeavesBy (view G m) (view G (but_customs m left)) (told result)
        → (IsWellMade (config_of f) (view G m) → WritesUnless (PassesLimits (config_of f) (view G left)) (OneMayRefuseThen G m.customs left.customs) (λ (b : Vec ℕ). IsWellWritten (config_of f) (view G left) b.items) (told result))
        → Finishes Left c result
    emitted f is result leaves writes =
        by_result (view G left) result (leaves_whole G m left same (told result) leaves)
        (plain_well G m left same (PassesLimits c (view G left)) (λ (b : Vec ℕ). IsWellWritten c (view G left) b.items) (told result)
        (subst (λ (d : Config). IsWellMade d (view G m) → WritesUnless (PassesLimits d (view G left)) (OneMayRefuseThen G m.customs left.customs) (λ (b : Vec ℕ). IsWellWritten d (view G left) b.items) (told result)) is writes well))

  -- where the transform is handed to nobody, the sections stay
  pub sections_stay : {X E : Type 0} (Tells : X → Transform → Type 0) (Told : Transform → Type 0) (old new : ModuleCustomSections (SectionEntry V O)) (result : Result X E) (b : Bool) → b ≡ false
      → LeavesCustoms G b Tells Told old new result → new ≡ old
  sections_stay Tells Told old new result false is h = h
  sections_stay Tells Told old new result true is h = let no_such : true ≡ false = is in absurd cc

  module _ (m : Module (SectionEntry V O)) (ready : IsReady G m) where
    abbrev config : Config
    config = config_of (settings m)

    -- ---- gc refuses

    sound : ReachesUnsound (view G m) → ⊥
    sound (x, reached, unsound) = unsound (record {
      live = ready.reached x reached;
      initialised = λ i f e at. ready.made.writable.initialised i f at;
      locals = λ i f b l e at kind used. ready.made.rules.indices.locals i b l (ap body_of_function at ∙ ap body_of_kind kind) used;
    })

    pub search_refused : (e : Error) → RefusesSearch (ReachesUnsound (view G m)) (OneMayRefuse (meanings G m)) e → Finishes (LeftOf (view G m)) config (Err e)
    search_refused (error.Memory memory) h = tt
    search_refused error.DeadItem h = absurd (sound h)
    search_refused (error.Caller text) h = absurd (ready.quiet h)
    search_refused _ h = absurd h

    -- ---- what gc leaves

    -- nothing is named that isn't there
    pub none_dead : (kept : Module (SectionEntry V O)) → Collected (view G m) (view G kept) → HasDead (view G kept) → ⊥
    none_dead kept collected = (well_no_cause config (view G kept) (collected_well config (view G m) (view G kept) ready.made ready.reached collected)).all_there

    -- ---- what emission answers

    module _ (kept left : Module (SectionEntry V O)) (collected : Collected (view G m) (view G kept)) (customs : kept.customs ≡ m.customs) (stays : left.customs ≡ kept.customs) where
      kept_well : IsWellMade config (view G kept)
      kept_well = collected_well config (view G m) (view G kept) ready.made ready.reached collected

      same_meanings : meanings G kept ≡ meanings G m
      same_meanings = ap (λ (cs : ModuleCustomSections (SectionEntry V O)). map (meaning G) (items (sections cs))) customs

      never : OneAskedMayRefuse (meanings G kept) → ⊥
      never one = let asked : OneAskedMayRefuse (meanings G m) = subst OneAskedMayRefuse same_meanings one in ready.quiet (asked.0, asked.1, asked.3)

      left_of : (u : Abstract) → Leaves (view G kept) u → LeftOf (view G m) u
      left_of u leaves = record { module_collected = view G kept; collected = collected; left = leaves }

      pub finished : (f : Flags) → f ≡ settings m → (result : Result (Vec ℕ) Error) → LeavesBy (view G kept) (view G (but_customs kept left)) (told result)
          → (IsWellMade (config_of f) (view G kept) → WritesUnless (PassesLimits (config_of f) (view G left)) (OneMayRefuseThen G kept.customs left.customs) (λ (b : Vec ℕ). IsWellWritten (config_of f) (view G left) b.items) (told result))
          → Finishes (LeftOf (view G m)) config result
      finished f is result leaves writes = emitted (LeftOf (view G m)) kept left stays never left_of config kept_well f (ap config_of is) result leaves writes
