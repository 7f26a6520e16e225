-- What was parsed, then collected, then written or refused: what the whole way comes to. The laws of walrus_theorem say it of the abstract
-- modules; here it is said of the answers of the calls.
use Rattle.std.proofs.Common.{◌≡◌, ℕ, List, refl, sym, ap, ◌∙◌, subst}
use Rattle.std.proofs.lemmas.Result.{err_from_is_err_and}
use Rattle.std.specs.Prelude.{Option, Some, None, IsSome, IfOk, IsErrAnd, Result, Ok, Err}
use Rattle.walrus_base.specs.Types.{ValType}
use Rattle.walrus_base.specs.Operators.{Item}
use Rattle.walrus_model.specs.Abstract.{Abstract, Body, LocalFunction, Function}
use Rattle.walrus_model.specs.Config.{Config}
use Rattle.walrus_model.specs.Dead.{HasDead, DeadLocal, NoKind}
use Rattle.walrus_model.specs.Live.{IsLive}
use Rattle.walrus_model.specs.Names.{body_of, body_of_function, body_of_kind}
use Rattle.walrus_model.specs.Pipeline.{Collected}
use Rattle.walrus_model.specs.Refers.{IsUsed}
use Rattle.walrus_theorem.specs.Chain.{Leaves}
use Rattle.walrus_theorem.specs.Refused.{Refusal, Memory, DeadItem, NoIndex, TwoIndices, TooLarge, NotWritable, Caller, Another, RefusesToWrite}
use Rattle.walrus_theorem.specs.RunLaws.{AreFine, IsFew}
use Rattle.walrus_theorem.proofs.NoCause.{well_no_cause}
use Rattle.walrus_theorem.proofs.Runs.{runs_few, runs_fine, runs_too_large}
use Rattle.walrus_theorem.proofs.AgainAll.{writes_again}
use Rattle.walrus_theorem.proofs.EnginesRun.{run_looks_same}
use Rattle.walrus_theorem.proofs.SettleAll.{runs_settle}
use Rattle.walrus_theorem.proofs.StepParsed.{live_v}
use Rattle.walrus_theorem.proofs.StepRead.{read_is_plain, steps_come_out_lem}
use Rattle.walrus_theorem.proofs.WellStays.{collected_well}
use Rattle.walrus_theorem.proofs.WritableParsed.{parsed_is_well}
use Rattle.walrus_contents.specs.There.{IsSound}
use Rattle.walrus_module.specs.Parsed.{IsParsed}
use Rattle.walrus_module.specs.Emitted.{EmittedAs, IsEmitted, told}
use Rattle.walrus_module.specs.Flags.{Flags, config_of}
use Rattle.walrus_module.specs.Left.{LeavesBy}
use Rattle.walrus_items.specs.declared.error.Error.{Error}
use Rattle.walrus_items.specs.declared.error.Error.TheVariants as error
use Rattle.walrus.specs.Headline.{Accepts, Answers, ComesOut, ComesTo, ComesOutTooLarge, RunsOn}
use Rattle.walrus.specs.Marked.{ReachesSound, ReachesUnsound}
use Rattle.walrus.specs.Used.{RefusesSearch}

-- ---- what was parsed is sound where it is reached

-- where nothing is dead, what is there is sound
module _ (v : Abstract) (alive : HasDead v → ⊥) where
  typed : (i l : ℕ) (b : Body) → body_of v i ≡ Some b → IsUsed b l → (o : Option (ValType ℕ)) → b.local_type l ≡ o → IsSome o
  typed i l b at used (Some t) e = refl
  typed i l b at used None e = absurd (alive (DeadLocal i l b at used e))

  local_there : (i : ℕ) (f : Function) (b : Body) (l : ℕ) → v.functions i ≡ Some f → f.kind ≡ LocalFunction b → IsUsed b l → IsSome (b.local_type l)
  local_there i f b l at kind used = typed i l b (ap body_of_function at ∙ ap body_of_kind kind) used (b.local_type l) refl

  alive_is_sound : (x : Item) → IsLive v x → IsSound v x
  alive_is_sound x live = record {
    live = live;
    initialised = λ i f e at kind. alive (NoKind i f at kind);
    locals = λ i f b l e at kind used. local_there i f b l at kind used;
  }

module _ (c : Config) (bytes : List ℕ) (v : Abstract) (parsed : IsParsed c bytes v) where
  pub nothing_dead : HasDead v → ⊥
  nothing_dead = (well_no_cause c v (parsed_is_well c bytes parsed.module_read v parsed.reads parsed.holds parsed.parsed)).all_there

  reaches_sound : ReachesSound v
  reaches_sound x reached = alive_is_sound v nothing_dead x (live_v c parsed.module_read v parsed.parsed (read_is_plain c bytes parsed.module_read parsed.reads) parsed.holds x reached)

  sound_read : ReachesUnsound v → ⊥
  sound_read (x, reached, unsound) = unsound (reaches_sound x reached)

-- ---- what comes out

module _ (c : Config) (bytes : List ℕ) (v w : Abstract) (parsed : IsParsed c bytes v) (collected : Collected v w) where
  -- what gc leaves names nothing dead
  pub nothing_dead_left : HasDead w → ⊥
  nothing_dead_left =
      let m = parsed.module_read in
      let made = parsed_is_well c bytes m v parsed.reads parsed.holds parsed.parsed in
      let reached = live_v c m v parsed.parsed (read_is_plain c bytes m parsed.reads) parsed.holds in
      (well_no_cause c w (collected_well c v w made reached collected)).all_there

  module _ (u : Abstract) (leaves : Leaves w u) where
    are_fine : AreFine c parsed.module_read v w u
    are_fine = runs_fine c bytes parsed.module_read v w u parsed.reads parsed.holds parsed.parsed collected leaves

    comes_to : (output : List ℕ) → IsEmitted c u output → ComesTo c bytes output
    comes_to output emitted =
        let as_said : EmittedAs c u output = emitted are_fine.left.sayable in
        record {
          module_read = parsed.module_read;
          reads = parsed.reads;
          holds = parsed.holds;
          module_left = u;
          brought = are_fine.brings;
          module_written = as_said.module_written;
          written = as_said.written;
          spelled = as_said.spelled;
          output_reads = as_said.reads are_fine.left.made are_fine.left.declared;
          output_holds = as_said.holds are_fine.left.made are_fine.left.declared;
          out = steps_come_out_lem c bytes parsed.module_read u as_said.module_written parsed.reads parsed.holds are_fine.brings as_said.written;
        }

    too_large : RefusesToWrite {X = List ℕ} ⊥ c u (told (Err error.TooLarge)) → ComesOutTooLarge c bytes
    too_large large = runs_too_large c bytes parsed.module_read v w u parsed.reads parsed.holds parsed.parsed collected leaves large

    -- nothing else is refused
    few : {X : Type 0} (result : Result X Refusal) → RefusesToWrite ⊥ c u result → IsFew result
    few result refused = runs_few c u result are_fine.left refused

-- ---- what the whole way answers

module _ {X : Type 0} (c : Config) (view : X → List ℕ) where
  answers_for : (bytes : List ℕ) (v w u : Abstract) (result : Result X Error) → IsParsed c bytes v → Collected v w → LeavesBy w u (told result)
      → IfOk result (λ o. IsEmitted c u (view o)) → RefusesToWrite ⊥ c u (told result) → RunsOn c bytes view result
  answers_for bytes v w u (Ok x) parsed collected left emitted refused =
      let comes = comes_to c bytes v w parsed collected u left (view x) emitted in
      record { comes = comes; settled = λ before first. runs_settle c before bytes (view x) first comes; again = λ before first. writes_again c before bytes (view x) first comes; alike = run_looks_same c bytes (view x) comes }
  answers_for bytes v w u (Err (error.Memory e)) parsed collected left emitted refused = tt
  answers_for bytes v w u (Err error.TooLarge) parsed collected left emitted refused = too_large c bytes v w parsed collected u left refused
  answers_for bytes v w u (Err error.DeadItem) parsed collected left emitted refused = absurd (nothing_dead_left c bytes v w parsed collected (subst HasDead left refused))
  answers_for bytes v w u (Err error.NoIndex) parsed collected left emitted refused = absurd (few c bytes v w parsed collected u left {X = X} (told (Err error.NoIndex)) refused)
  answers_for bytes v w u (Err error.TwoIndices) parsed collected left emitted refused = absurd (few c bytes v w parsed collected u left {X = X} (told (Err error.TwoIndices)) refused)
  answers_for bytes v w u (Err error.NotWritable) parsed collected left emitted refused = absurd (few c bytes v w parsed collected u left {X = X} (told (Err error.NotWritable)) refused)
  answers_for bytes v w u (Err (error.Caller text)) parsed collected left emitted refused = absurd refused
  answers_for bytes v w u (Err (error.InvalidWasm kind)) parsed collected left emitted refused = absurd refused
  answers_for bytes v w u (Err error.NotFound) parsed collected left emitted refused = absurd refused
  answers_for bytes v w u (Err error.SeveralMemories) parsed collected left emitted refused = absurd refused
  answers_for bytes v w u (Err error.NoMemory) parsed collected left emitted refused = absurd refused
  answers_for bytes v w u (Err error.SeveralFunctionTables) parsed collected left emitted refused = absurd refused
  answers_for bytes v w u (Err error.NotExported) parsed collected left emitted refused = absurd refused
  answers_for bytes v w u (Err error.NotImported) parsed collected left emitted refused = absurd refused
  answers_for bytes v w u (Err error.NotReplaceable) parsed collected left emitted refused = absurd refused

  -- what emission answers is the answer for the bytes
  pub answers : (bytes text : List ℕ) → text ≡ bytes → (v w u : Abstract) (result : Result X Error) → IsParsed c text v → Collected v w → LeavesBy w u (told result)
      → IfOk result (λ o. IsEmitted c u (view o)) → RefusesToWrite ⊥ c u (told result) → RunsOn c bytes view result
  answers bytes text same v w u result parsed collected left emitted refused =
      subst (λ (b : List ℕ). RunsOn c b view result) same (answers_for text v w u result parsed collected left emitted refused)

  -- a search of what was parsed is refused for want of memory alone, where no custom section may refuse, whatever is made of it
  pub search_refused : (Makes : List ℕ → List ℕ → Type 0) (IsLarge : List ℕ → Type 0) (Q : Type 0) (bytes : List ℕ) (v : Abstract) (e : Error) → IsParsed c bytes v → (Q → ⊥) → RefusesSearch (ReachesUnsound v) Q e
      → Answers Makes (Accepts c) IsLarge bytes view (Err e)
  search_refused Makes IsLarge Q bytes v (error.Memory m) parsed never h = tt
  search_refused Makes IsLarge Q bytes v error.DeadItem parsed never h = absurd (sound_read c bytes v parsed h)
  search_refused Makes IsLarge Q bytes v (error.Caller text) parsed never h = absurd (never h)
  search_refused Makes IsLarge Q bytes v _ parsed never h = absurd h

  -- so is a refusal of gc, which is for want of memory where no custom section may refuse
  pub answers_gc : (Q : Type 0) (bytes text : List ℕ) → text ≡ bytes → (v : Abstract) (e : Error) (result : Result X Error)
      → IsParsed c text v → (Q → ⊥) → RefusesSearch (ReachesUnsound v) Q e → IsErrAnd result (λ f. f ≡ e) → RunsOn c bytes view result
  answers_gc Q bytes text same v e result parsed never refused given =
      let known = err_from_is_err_and result given in
      subst (λ (r : Result X Error). RunsOn c bytes view r) (sym (known.1 ∙ ap Err known.2))
      (subst (λ (b : List ℕ). RunsOn c b view (Err e)) same (search_refused (ComesOut c) (ComesOutTooLarge c) Q text v e parsed never refused))

-- where no custom section that is asked may refuse, none does
none_refused : {X : Type 0} (Q : Type 0) → (Q → ⊥) → (c : Config) (u : Abstract) (result : Result X Refusal) → RefusesToWrite Q c u result → RefusesToWrite ⊥ c u result
none_refused Q never c u (Ok x) r = r
none_refused Q never c u (Err Memory) r = r
none_refused Q never c u (Err DeadItem) r = r
none_refused Q never c u (Err TwoIndices) r = r
none_refused Q never c u (Err NoIndex) r = r
none_refused Q never c u (Err NotWritable) r = r
none_refused Q never c u (Err TooLarge) r = r
none_refused Q never c u (Err Caller) r = never r
none_refused Q never c u (Err Another) r = r

-- the same as emission says it of the flags that the module keeps, and of what custom sections refuse
pub answers_kept : {X : Type 0} (view : X → List ℕ) (Q : Type 0) → (Q → ⊥) → (f g : Flags) → g ≡ f → (bytes text : List ℕ) → text ≡ bytes → (v w u : Abstract) (result : Result X Error)
    → IsParsed (config_of f) text v → Collected v w → LeavesBy w u (told result)
    → IfOk result (λ o. IsEmitted (config_of g) u (view o)) → RefusesToWrite Q (config_of g) u (told result) → RunsOn (config_of f) bytes view result
answers_kept view Q never f g keeps bytes text same v w u result parsed collected left emitted refused =
    answers (config_of f) view bytes text same v w u result parsed collected left
    (subst (λ (h : Flags). IfOk result (λ o. IsEmitted (config_of h) u (view o))) keeps emitted)
    (subst (λ (h : Flags). RefusesToWrite ⊥ (config_of h) u (told result)) keeps (none_refused Q never (config_of g) u (told result) refused))
