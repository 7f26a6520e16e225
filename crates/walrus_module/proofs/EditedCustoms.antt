-- What an edit of the custom sections makes of the abstract module.
use Rattle.std.proofs.Common.{◌≡◌, ℕ, List, [], ◌∷◌, ◌++◌, map, filter, flat_map, refl, sym, ap, ◌∙◌, subst, inl, inr, ⊎_elim}
use Rattle.std.specs.Prelude.{Contains, ◌⊎◌}
use Rattle.std.proofs.lemmas.List.{map-append}
use Rattle.std.proofs.lemmas.List.Elements.{filter-append}
use Rattle.std.proofs.lemmas.Grind.{flat_map-append}
use Rattle.walrus_base.specs.Arena.{items}
use Rattle.walrus_base.specs.Operators.{Item}
use Rattle.walrus_base.proofs.Lists.{Contains-append_1, Contains-append_2}
use Rattle.walrus_base.proofs.SearchFound.{found-item}
use Rattle.walrus_items.specs.declared.custom.CustomSection.{Ghosts}
use Rattle.walrus_theorem.proofs.StepHandlers.{Contains-split}
use Rattle.walrus_theorem.specs.Edits.{GainsCustom, LosesCustom, SwapsCustom}
use Rattle.walrus_module.specs.Customs.{sections}
use Rattle.walrus_module.specs.Edits.{CustomAdded, CustomDeleted, CustomSet, RawRemoved}
use Rattle.walrus_module.specs.Entry.{names_raw}
use Rattle.walrus_module.specs.Meaning.{Meaning, meaning}
use Rattle.walrus_module.specs.Raws.{without_first}
use Rattle.walrus_module.specs.View.{can_be_kept, custom_of, kept_by, view}
use Rattle.walrus_module.specs.declared.entry.SectionEntry.{SectionEntry}
use Rattle.walrus_module.specs.declared.module.Module.{Module}
use Rattle.walrus_reading.proofs.EditedSlots.{items_added, split}

-- ---- what sections ask for

pub kept_append : (ss ts : List Meaning) → kept_by (ss ++ ts) ≡ kept_by ss ++ kept_by ts
kept_append ss ts =
    ap (filter (λ (x : Item). can_be_kept x.0)) (flat_map-append (λ (s : Meaning). s.roots) ss ts)
    ∙ filter-append (λ (x : Item). can_be_kept x.0) (flat_map (λ (s : Meaning). s.roots) ss) (flat_map (λ (s : Meaning). s.roots) ts)

module _ (front back : List Meaning) (x : Item) where
  asked_around : Contains (kept_by (front ++ back)) x → (m : Meaning) → Contains (kept_by (front ++ m ∷ back)) x
  asked_around has m =
      let two = Contains-split x (kept_by front) (kept_by back) (subst (λ xs. Contains xs x) (kept_append front back) has) in
      subst (λ xs. Contains xs x) (sym (kept_append front (m ∷ back)))
      (⊎_elim
      (λ before. Contains-append_1 x (kept_by front) (kept_by (m ∷ back)) before)
      (λ behind. Contains-append_2 x (kept_by front) (kept_by (m ∷ back)) (subst (λ xs. Contains xs x) (sym (kept_append (m ∷ []) back)) (Contains-append_2 x (kept_by (m ∷ [])) (kept_by back) behind)))
      two)

  asked_now : (m n : Meaning) → Contains (kept_by (front ++ n ∷ back)) x → Contains (kept_by (front ++ m ∷ back)) x ⊎ Contains (kept_by (n ∷ [])) x
  asked_now m n has = by (Contains-split x (kept_by front) (kept_by (n ∷ back)) (subst (λ xs. Contains xs x) (kept_append front (n ∷ back)) has)) where
    around : Contains (kept_by front ++ kept_by back) x → Contains (kept_by (front ++ m ∷ back)) x
    around c = asked_around (subst (λ xs. Contains xs x) (sym (kept_append front back)) c) m

    by : Contains (kept_by front) x ⊎ Contains (kept_by (n ∷ back)) x → Contains (kept_by (front ++ m ∷ back)) x ⊎ Contains (kept_by (n ∷ [])) x
    by (inl before) = inl (around (Contains-append_1 x (kept_by front) (kept_by back) before))
    by (inr behind) = ⊎_elim
        (λ own. inr own)
        (λ later. inl (around (Contains-append_2 x (kept_by front) (kept_by back) later)))
        (Contains-split x (kept_by (n ∷ [])) (kept_by back) (subst (λ xs. Contains xs x) (kept_append (n ∷ []) back) behind))

-- ---- the calls

module _ {V : Type 0} {O : V → Type 0} (G : (v : V) → Ghosts (O v)) where
  pub custom_added : CustomAdded G
  custom_added old new s only are =
      let means : map (meaning G) (items (sections new.customs)) ≡ map (meaning G) (items (sections old.customs)) ++ meaning G s ∷ [] =
      ap (λ xs. map (meaning G) (items xs)) are ∙ ap (map (meaning G)) (items_added (sections old.customs) s) ∙ map-append (meaning G) (items (sections old.customs)) (s ∷ []) in
      subst (λ (m : Module (SectionEntry V O)). GainsCustom (custom_of (meaning G s)) (kept_by (meaning G s ∷ [])) (view G old) (view G m)) (sym only) (record {
        customs = ap (map custom_of) means ∙ map-append custom_of (map (meaning G) (items (sections old.customs))) (meaning G s ∷ []);
        roots_left = ap kept_by means ∙ kept_append (map (meaning G) (items (sections old.customs))) (meaning G s ∷ []);
        others = refl;
      })

  pub custom_deleted : CustomDeleted G
  custom_deleted old new i s only there are =
      let p = split (sections old.customs) i s there in
      let was : map (meaning G) (items (sections old.customs)) ≡ map (meaning G) p.front ++ meaning G s ∷ map (meaning G) p.back = ap (map (meaning G)) p.is ∙ map-append (meaning G) p.front (s ∷ p.back) in
      let is : map (meaning G) (items (sections new.customs)) ≡ map (meaning G) p.front ++ map (meaning G) p.back =
      ap (λ xs. map (meaning G) (items xs)) are ∙ ap (map (meaning G)) p.gone ∙ map-append (meaning G) p.front p.back in
      subst (λ (m : Module (SectionEntry V O)). LosesCustom (custom_of (meaning G s)) (view G old) (view G m)) (sym only) (record {
        customs = record {
          front = map custom_of (map (meaning G) p.front);
          back = map custom_of (map (meaning G) p.back);
          was = ap (map custom_of) was ∙ map-append custom_of (map (meaning G) p.front) (meaning G s ∷ map (meaning G) p.back);
          is = ap (map custom_of) is ∙ map-append custom_of (map (meaning G) p.front) (map (meaning G) p.back);
        };
        roots_left = λ x has. subst (λ ms. Contains (kept_by ms) x) (sym was) (asked_around (map (meaning G) p.front) (map (meaning G) p.back) x (subst (λ ms. Contains (kept_by ms) x) is has) (meaning G s));
        others = refl;
      })

  pub raw_removed : RawRemoved G
  raw_removed old new name e only found are =
      custom_deleted old new e.0 e.1 only (found-item (λ (d : ℕ × SectionEntry V O). names_raw name d.1) (sections old.customs) e found) (are ∙ ap (λ o. without_first o (sections old.customs)) found)

  pub custom_set : CustomSet G
  custom_set old new i s t only there are =
      let p = split (sections old.customs) i s there in
      let was : map (meaning G) (items (sections old.customs)) ≡ map (meaning G) p.front ++ meaning G s ∷ map (meaning G) p.back = ap (map (meaning G)) p.is ∙ map-append (meaning G) p.front (s ∷ p.back) in
      let is : map (meaning G) (items (sections new.customs)) ≡ map (meaning G) p.front ++ meaning G t ∷ map (meaning G) p.back =
      ap (λ xs. map (meaning G) (items xs)) are ∙ ap (map (meaning G)) (p.set t) ∙ map-append (meaning G) p.front (t ∷ p.back) in
      subst (λ (m : Module (SectionEntry V O)). SwapsCustom (custom_of (meaning G s)) (custom_of (meaning G t)) (kept_by (meaning G t ∷ [])) (view G old) (view G m)) (sym only) (record {
        customs = record {
          front = map custom_of (map (meaning G) p.front);
          back = map custom_of (map (meaning G) p.back);
          was = ap (map custom_of) was ∙ map-append custom_of (map (meaning G) p.front) (meaning G s ∷ map (meaning G) p.back);
          is = ap (map custom_of) is ∙ map-append custom_of (map (meaning G) p.front) (meaning G t ∷ map (meaning G) p.back);
        };
        roots_left = λ x has.
            subst (λ ms. Contains (kept_by ms) x ⊎ Contains (kept_by (meaning G t ∷ [])) x) (sym was)
            (asked_now (map (meaning G) p.front) (map (meaning G) p.back) x (meaning G s) (meaning G t) (subst (λ ms. Contains (kept_by ms) x) is has));
        others = refl;
      })
