-- What was parsed and what gc left keep the rules.
use Rattle.std.proofs.Common.{◌≡◌, ℕ, refl, sym, ap, ◌∙◌, subst, inl, ⊎_elim}
use Rattle.std.specs.Prelude.{Option, Some, None, Contains, option_map}
use Rattle.walrus_base.specs.Operators.{Functions, Item}
use Rattle.walrus_model.specs.Abstract.{Abstract, Function, Uninitialised, Global, Memory, Body}
use Rattle.walrus_model.specs.Kept.{Kept, IsSpareMemory}
use Rattle.walrus_model.specs.Names.{body_of, body_of_function}
use Rattle.walrus_model.specs.Order.{OriginsInOrder, ByImport}
use Rattle.walrus_model.specs.Pipeline.{Collected, ReachedIsLive}
use Rattle.walrus_model.specs.Reached.{Reached, root, step}
use Rattle.walrus_model.specs.Refers.{named_by, memory_names, written_in}
use Rattle.walrus_model.specs.Renaming.{unchanged}
use Rattle.walrus_model.specs.Roots.{exported, start}
use Rattle.walrus_model.specs.Rules.{RulesHold}
use Rattle.walrus_model.specs.RulesCarried.{TakenOver}
use Rattle.walrus_model.specs.Same.{BothAnd}
use Rattle.walrus_base.proofs.Lists.{Contains-none}
use Rattle.walrus_model.proofs.OffsetRules.{rules_carried}
use Rattle.walrus_model.proofs.PipelineCollected.{carried_collected}

abbrev GlobalsInOrder : ℕ → ℕ → Option Global → Option Global → Type 0
GlobalsInOrder i j a b = BothAnd (OriginsInOrder i j) (option_map (λ g. g.origin) a) (option_map (λ g. g.origin) b)

-- ---- gc

no_memory_names : (m : Abstract) (i : ℕ) (y : Item) (o : Option Memory) → Contains (named_by memory_names o) y → ⊥
no_memory_names m i y None h = Contains-none y h
no_memory_names m i y (Some x) h = Contains-none y h

-- what gc keeps names only what it keeps
pub kept_named : (v : Abstract) (x y : Item) → Kept v x → Contains (written_in v x) y → Kept v y
kept_named v x y k at = ⊎_elim
    (λ (h : Reached v x). inl (step x y h (inl at)))
    (λ (s : IsSpareMemory v x). absurd (let at_memory = subst (λ (z : Item). Contains (written_in v z) y) s.is at in no_memory_names v s.memory y (v.memories s.memory) at_memory))
    k

locals_kept : (v w : Abstract) (c : Collected v w) (f : ℕ) (b : Body) (o : Option Function) → w.functions f ≡ o → body_of_function o ≡ Some b → body_of v f ≡ Some b
locals_kept v w c f b None at e = absurd (cc)
locals_kept v w c f b (Some g) at e = ap (λ (o : Option Function). body_of_function o) ((c.functions.left f g at).1) ∙ e

pub collected_keeps_rules : (v w : Abstract) → RulesHold (ByImport v) v → Collected v w → ReachedIsLive v → ((i : ℕ) (f : Function) → v.functions i ≡ Some f → f.kind ≡ Uninitialised → ⊥) → RulesHold (ByImport w) w
collected_keeps_rules v w rules c live made =
    let carried = carried_collected v w c live made in
    let taken : TakenOver (Kept v) (λ x. ⊥) (ByImport v) (ByImport w) unchanged v w = record {
      carried = carried;
      named = kept_named v;
      exported = λ e at. inl (root e.item (exported e at refl));
      started = λ f at. inl (root (Functions, f) (start f at refl));
      types_rise = λ i j a b lt. lt;
      globals_rise = λ i j a b before.
          subst (λ (o : Option Global). GlobalsInOrder i j o (w.globals j)) (sym (c.globals.kept i a))
          (subst (λ (o : Option Global). GlobalsInOrder i j (v.globals i) o) (sym (c.globals.kept j b)) before);
      kinds = λ s j none. absurd none;
      added = λ x y none. absurd none;
      added_types = λ j y none. absurd none;
      declared = λ j e none. absurd none;
    } in
    rules_carried taken (λ f b at. rules.locals f b (locals_kept v w c f b (w.functions f) refl at)) rules
