-- What the steps bring a module to names nothing that isn't there.
use Rattle.std.proofs.Common.{◌≡◌, ℕ, List, sym, ◌∙◌, subst}
use Rattle.std.specs.Prelude.{Option, Some}
use Rattle.walrus_model.specs.Abstract.{Abstract, Function, Uninitialised, Element, Import}
use Rattle.walrus_model.specs.Config.{Config}
use Rattle.walrus_model.specs.Declared.{AreUndeclared}
use Rattle.walrus_model.specs.Kept.{Kept}
use Rattle.walrus_model.specs.Live.{IsLive}
use Rattle.walrus_model.specs.Order.{ByImport}
use Rattle.walrus_model.specs.Pipeline.{Collected, ReachedIsLive}
use Rattle.walrus_model.specs.Rules.{Holds, IndicesHold}
use Rattle.walrus_theorem.specs.Chain.{BringsTo, Leaves}
use Rattle.walrus_theorem.specs.Headline.{ReadsModule}
use Rattle.walrus_theorem.specs.Refused.{HasDead}
use Rattle.walrus_model.proofs.Living.{none_dead}
use Rattle.walrus_model.proofs.ItemRules.{indices_hold}
use Rattle.walrus_theorem.proofs.RulesSteps.{parsed_taken, collected_taken}
use Rattle.walrus_theorem.proofs.SegmentStep.{segment_taken, live_too}
use Rattle.walrus_theorem.proofs.StepLeaves.{Between, between}
use Rattle.walrus_theorem.proofs.StepParsed.{initialised, live_v}
use Rattle.walrus_theorem.proofs.StepRead.{read_is_plain}
use Rattle.walrus_model.proofs.TakingOver.{live_after}

-- all that it names is there
pub record Lives (v : Abstract) : Type 0 where
  pub indices : IndicesHold (ByImport v) v
  pub imports : (i : ℕ) (x : Import) → v.imports i ≡ Some x → IsLive v x.item
  pub made : (i : ℕ) (f : Function) → v.functions i ≡ Some f → f.kind ≡ Uninitialised → ⊥

pub lives_no_dead : (v : Abstract) → Lives v → HasDead v → ⊥
lives_no_dead v l = none_dead v (record { written = l.indices.written; locals = l.indices.locals; exports = l.indices.exports; start = l.indices.start; imports = l.imports; made = l.made })

-- what gc leaves
pub collected_lives : (v w : Abstract) → Collected v w → ReachedIsLive v → ((i : ℕ) (f : Function) → v.functions i ≡ Some f → f.kind ≡ Uninitialised → ⊥) → IndicesHold (ByImport v) v → Lives w
collected_lives v w c live made rules =
    let taken = collected_taken v w c live made in
    record {
      indices = indices_hold taken rules;
      imports = λ i x at.
          let left = c.imports.left i x at in
          let same : Some left.0.0 ≡ Some x = sym left.0.1 ∙ left.1 in
          let is : left.0.0 ≡ x = cc in
          live_after taken x.item (subst (λ (y : Import). Kept v y.item) is left.0.2);
      made = λ i f at un. made i f ((c.functions.left i f at).1) un;
    }

module _ (w : Abstract) (fs : List ℕ) (are : AreUndeclared (IsLive w) w fs) (l : Lives w) where
  lives_with : (elements : ℕ → Option Element) → Between w (record w { elements = elements }) fs → Lives (record w { elements = elements })
  lives_with elements b = record {
    indices = indices_hold (segment_taken w elements fs b are l.indices l.made l.imports) l.indices;
    imports = λ i x at. live_too w elements fs b are x.item (l.imports i x at);
    made = l.made;
  }

pub leaves_lives : (w u : Abstract) → Leaves w u → Lives w → Lives u
leaves_lives w u leaves l =
    let b = between w u leaves in
    subst Lives (sym b.same) (lives_with w leaves.functions leaves.undeclared l u.elements (subst (λ (x : Abstract). Between w x leaves.functions) b.same b))

pub brought_lives : (c : Config) (bytes : List ℕ) (m u : Abstract) → ReadsModule c bytes m → Holds m → BringsTo c m u → Lives u
brought_lives c bytes m u reads holds brings =
    let plain = read_is_plain c bytes m reads in
    let v = brings.module_parsed in
    let rules : IndicesHold (ByImport v) v = indices_hold (parsed_taken c m v brings.parsed plain holds) holds.indices in
    leaves_lives brings.module_kept u brings.leaves
    (collected_lives v brings.module_kept brings.collected (live_v c m v brings.parsed plain holds) (initialised c m v brings.parsed) rules)
