-- Parsing a module in settled form adds no type, and gc keeps all of it.
use Rattle.std.proofs.Common.{◌≡◌, ℕ, ◌<◌, length, refl, sym, ap, ◌∙◌, subst, arith, inl, inr, ⊎_elim}
use Rattle.std.proofs.lemmas.Option.{slice_get_within}
use Rattle.std.specs.Prelude.{Option, Some, None, is_some, Contains}
use Rattle.walrus_base.specs.Types.{CompType}
use Rattle.walrus_base.specs.Operators.{Types, Functions, Tables, Memories, Tags, Globals, Elements, DataSegments, Item}
use Rattle.walrus_model.specs.Abstract.{Abstract, Body}
use Rattle.walrus_model.specs.Config.{Config}
use Rattle.walrus_model.specs.Kept.{Kept}
use Rattle.walrus_model.specs.Live.{IsLive}
use Rattle.walrus_model.specs.Names.{body_of}
use Rattle.walrus_model.specs.Out.{IsHandlerType}
use Rattle.walrus_model.specs.Rules.{Holds}
use Rattle.walrus_theorem.specs.Chain.{alone, IsLoneTypeAt, handlers_by, ParsedAs}
use Rattle.walrus_theorem.specs.SettledForm.{IsLoneType, IsFirstLoneType, IsForHandlers, AllIsKept, IsWrittenForm}
use Rattle.walrus_base.proofs.Lists.{Contains-none}
use Rattle.walrus_base.proofs.Agree.{Compared, compared}
use Rattle.walrus_theorem.proofs.AgainFirst.{IsFirst, stood, comp_of, place_of, all_extend, are_first}
use Rattle.walrus_theorem.proofs.StepOut.{AreChosen, kept_chosen}
use Rattle.walrus_theorem.proofs.StepParsed.{IsPlace, reached_live, kept_on, kept_either, kept_live}
use Rattle.walrus_model.proofs.StepPlain.{IsPlain}

module _ (c : Config) (n v : Abstract) (p : ParsedAs c n v) (plain : IsPlain n) (holds : Holds n) (form : IsWrittenForm c n) where
  -- ---- the first lone type of n is the first after parsing

  stands : (comp : CompType ℕ) (j : ℕ) → IsLoneType n comp j → IsLoneTypeAt comp p.all_types j
  stands comp j s = (all_extend c n v p plain holds j (alone j comp) (sym (p.types_read j) ∙ s.0), s.1)

  stood_there : (comp : CompType ℕ) (t j : ℕ) → t < j → IsLoneType n comp j → IsLoneTypeAt comp p.all_types t → IsLoneType n comp t
  stood_there comp t j less s at =
      let low : j < length p.types = slice_get_within p.types j (alone j comp) (sym (p.types_read j) ∙ s.0) in
      let lt : t < length p.types = omega (arith, less, low) in
      (p.types_read t ∙ stood p.types p.all_types (all_extend c n v p plain holds) t (alone t comp) lt at.0, at.1)

  one_place : (comp : CompType ℕ) (j t : ℕ) → IsFirstLoneType n comp j → IsFirst comp p.all_types t → t ≡ j
  one_place comp j t a b = by (compared t j) where
    by : Compared t j → t ≡ j
    by (inl less) = absurd (a.1 t less (stood_there comp t j less a.0 b.0))
    by (inr (inl is)) = is
    by (inr (inr less)) = absurd (b.1 j less (stands comp j a.0))

  -- ---- nothing is added

  needed : (f : ℕ) (o : Option Body) → IsLive n (Functions, f) → body_of n f ≡ o → (comp : CompType ℕ) → Contains (handlers_by n o) comp → IsHandlerType (IsLive n) n comp
  needed f None live at comp has = absurd (Contains-none comp has)
  needed f (Some b) live at comp has = (f, b, live, at, has)

  listed_live : (f t : ℕ) → IsLive n (Functions, f) → Contains (v.handler_types f) t → IsLive n (Types, t)
  listed_live f t live at =
      let one = comp_of p.all_types (handlers_by n (body_of n f)) (v.handler_types f) (are_first c n v p plain holds f live) t at in
      let j = form.handlers one.0 (needed f (body_of n f) live refl one.0 one.1) in
      subst (λ q. IsLive n (Types, q)) (sym (one_place one.0 j.0 t j.1 one.2)) (ap is_some j.1.0.0)

  place_live : (x : Item) → IsPlace c n v p plain holds x → IsLive n x
  place_live x h = subst (IsLive n) (sym h.is) (listed_live h.function h.place (reached_live n plain holds (Functions, h.function) h.reached) h.listed)

  pub none_else : (x : Item) → Kept v x → IsLive n x
  none_else x k = ⊎_elim (λ h. kept_live c n v p plain holds x h) (λ h. place_live x h) (kept_either c n v p plain holds x k)

  -- ---- and all is kept

  module _ (kept : AllIsKept n) where
    for_handlers : (x : Item) → IsForHandlers n x → Kept v x
    for_handlers (Types, j) (comp, (f, b, k, at, has), first) =
        let firsts = are_first c n v p plain holds f (kept_live c n v p plain holds (Functions, f) k) in
        let place = place_of p.all_types (handlers_by n (body_of n f)) (v.handler_types f) firsts comp (subst (λ o. Contains (handlers_by n o) comp) (sym at) has) in
        subst (λ t. Kept v (Types, t)) (one_place comp j place.0 first place.2) ((kept_chosen c n v p plain holds).places f place.0 k place.1)
    for_handlers (Functions, j) none = absurd none
    for_handlers (Tables, j) none = absurd none
    for_handlers (Memories, j) none = absurd none
    for_handlers (Tags, j) none = absurd none
    for_handlers (Globals, j) none = absurd none
    for_handlers (Elements, j) none = absurd none
    for_handlers (DataSegments, j) none = absurd none

    pub all_stay : (x : Item) → IsLive n x → Kept v x
    all_stay x live = ⊎_elim (λ k. kept_on c n v p plain holds x k) (λ h. for_handlers x h) (kept x live)

    pub all_chosen : AreChosen c n v p (IsLive n) (Kept v)
    all_chosen = record {
      there = λ x live. live;
      stays = all_stay;
      places = λ f t live at. all_stay (Types, t) (listed_live f t live at);
      either = λ x k. inl (none_else x k);
    }
