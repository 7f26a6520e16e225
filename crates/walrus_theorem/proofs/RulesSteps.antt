-- Each step takes the module over: parsing, gc, the declared segment.
use Rattle.std.proofs.Common.{◌≡◌, ℕ, zero, suc, ◌<◌, ◌≤◌, List, [], ◌∷◌, length, refl, sym, ap, ◌∙◌, subst, inl, inr, ⊎_elim, arith}
use Rattle.std.specs.Prelude.{Option, Some, None, IsSome, is_some, Contains, option_map, slice_get}
use Rattle.walrus_base.specs.Types.{comp_names}
use Rattle.walrus_base.specs.Operators.{Space, Types, Functions, Globals, Elements, Item, type_item}
use Rattle.walrus_model.specs.Abstract.{Abstract, TypeDef, Function, Uninitialised, Global}
use Rattle.walrus_model.specs.Config.{Config}
use Rattle.walrus_model.specs.Kept.{Kept}
use Rattle.walrus_model.specs.Live.{IsLive}
use Rattle.walrus_model.specs.Names.{body_of}
use Rattle.walrus_model.specs.Order.{OriginsInOrder, ByImport}
use Rattle.walrus_model.specs.Pipeline.{Collected, ReachedIsLive}
use Rattle.walrus_model.specs.Reached.{root}
use Rattle.walrus_model.specs.Refers.{named_by, written_in, type_names}
use Rattle.walrus_model.specs.Renaming.{unchanged}
use Rattle.walrus_model.specs.Roots.{exported, start}
use Rattle.walrus_model.specs.Rules.{Holds}
use Rattle.walrus_model.specs.Same.{BothAnd}
use Rattle.walrus_theorem.specs.Chain.{ParsedAs}
use Rattle.walrus_theorem.proofs.BehindAlone.{IsAlone, all_alone, none_yet}
use Rattle.walrus_base.proofs.Lists.{Contains-none, Contains-uncons}
use Rattle.walrus_model.proofs.PipelineCollected.{carried_collected}
use Rattle.walrus_model.proofs.PipelineOps.{from_map}
use Rattle.walrus_model.specs.RulesCarried.{TakenOver}
use Rattle.walrus_model.proofs.StepPlain.{IsPlain}
use Rattle.walrus_theorem.proofs.StepParsed.{in_place, Behind, carried_parsed, globals_stay, by_below, live_forth}
use Rattle.walrus_model.proofs.RulesSteps.{kept_named as kept_closed}

abbrev GlobalsInOrder : ℕ → ℕ → Option Global → Option Global → Type 0
GlobalsInOrder i j a b = BothAnd (OriginsInOrder i j) (option_map (λ g. g.origin) a) (option_map (λ g. g.origin) b)

-- ---- parsing

module _ (c : Config) (m v : Abstract) (p : ParsedAs c m v) (plain : IsPlain m) (holds : Holds m) where
  -- what stands behind the types that were read
  pub is_alone : (j : ℕ) (y : TypeDef) → length p.types ≤ j → v.types j ≡ Some y → IsAlone (length p.types) (λ comp. Unit {0}) j y
  is_alone j y le at = all_alone (length p.types) (λ comp. Unit {0}) m v.handler_types (λ f. by_below c m v p plain holds f (body_of m f) refl) (λ f comp h. tt) _ p.types p.all_types p.handlers (none_yet (λ comp. Unit {0}) p.types) j y le (sym (p.types_made j) ∙ at)

  -- a type of a lower number is there
  below_live : (t : ℕ) → t < length p.types → IsLive v (type_item t)
  below_live t lt = live_forth c m v p (type_item t) (subst IsSome (sym (p.types_read t)) (there p.types t lt)) where
    there : (l : List TypeDef) (i : ℕ) → i < length l → IsSome (slice_get l i)
    there [] i lt = absurd (omega (arith, lt))
    there (x ∷ xs) zero lt = refl
    there (x ∷ xs) (suc i) lt = there xs i (omega (arith, lt))

  added_names : (j : ℕ) (y : Item) → length p.types ≤ j → (o : Option TypeDef) → v.types j ≡ o → Contains (named_by type_names o) y → IsLive v y
  added_names j y le None at has = absurd (Contains-none y has)
  added_names j y le (Some x) at has =
      let a = is_alone j x le at in
      ⊎_elim
      (λ (e : type_item j ≡ y). subst (IsLive v) e (ap is_some at))
      (λ inner. let u = from_map type_item y (comp_names a.comp) inner in subst (IsLive v) u.2 (below_live u.0 (a.below u.0 u.1)))
      (Contains-uncons (type_item j) y _ (subst (λ (z : TypeDef). Contains (type_names z) y) a.is has))

  pub parsed_taken : TakenOver (IsLive m) (Behind c m v p) (λ space i j. i < j) (ByImport v) (in_place c m v p) m v
  parsed_taken = record {
    carried = carried_parsed c m v p;
    named = λ x y k at. holds.indices.written x y at;
    exported = holds.indices.exports;
    started = holds.indices.start;
    types_rise = λ i j a b lt. lt;
    globals_rise = λ i j a b lt.
        let old : GlobalsInOrder i j (m.globals i) (m.globals j) = plain.in_order Globals (λ e. cc) i j a b lt in
        subst (λ (o : Option Global). GlobalsInOrder i j o (v.globals j)) (sym (globals_stay c m v p i))
        (subst (λ (o : Option Global). GlobalsInOrder i j (m.globals i) o) (sym (globals_stay c m v p j)) old);
    kinds = λ s j h. inl h.0;
    added = λ x y h at.
        let here : Contains (written_in v (Types, x.1)) y = subst (λ (s : Space). Contains (written_in v (s, x.1)) y) h.0 at in
        added_names x.1 y h.1 (v.types x.1) refl here;
    added_types = λ j y h at.
        let a = is_alone j y h.1 at in
        let le : length p.types ≤ j = h.1 in
        record {
          supertypes = ap (λ (z : TypeDef). z.sub.supertypes) a.is;
          others = λ u has. inr (λ t member.
              let low : u < length p.types = a.below u (subst (λ (z : TypeDef). Contains (comp_names z.sub.comp) u) a.is has) in
              ⊎_elim
              (λ (e : j ≡ t). let lt : u < t = omega (arith, low, le, e) in lt)
              (λ none. absurd (Contains-none t none))
              (Contains-uncons j t [] (subst (λ (z : TypeDef). Contains z.group t) a.is member)));
        };
    declared = λ j e h at. let no : Elements ≡ Types = h.0 in absurd (cc);
  }

-- ---- gc

pub collected_taken : (v w : Abstract) → Collected v w → ReachedIsLive v → ((i : ℕ) (f : Function) → v.functions i ≡ Some f → f.kind ≡ Uninitialised → ⊥) → TakenOver (Kept v) (λ x. ⊥) (ByImport v) (ByImport w) unchanged v w
collected_taken v w c live made = record {
  carried = carried_collected v w c live made;
  named = kept_closed v;
  exported = λ e at. inl (root e.item (exported e at refl));
  started = λ f at. inl (root (Functions, f) (start f at refl));
  types_rise = λ i j a b lt. lt;
  globals_rise = λ i j a b before.
      subst (λ (o : Option Global). GlobalsInOrder i j o (w.globals j)) (sym (c.globals.kept i a))
      (subst (λ (o : Option Global). GlobalsInOrder i j (v.globals i) o) (sym (c.globals.kept j b)) before);
  kinds = λ s j none. absurd none;
  added = λ x y none. absurd none;
  added_types = λ j y none. absurd none;
  declared = λ j e none. absurd none;
}
