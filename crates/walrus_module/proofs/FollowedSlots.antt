-- Sections that follow the code one after another.
use Rattle.std.proofs.Common.{◌≡◌, ℕ, Bool, true, false, ◌+◌, ◌<◌, ◌≤◌, List, length, refl, sym, ap, subst, ◌∙◌, arith, inl, inr, ⊎_elim}
use Rattle.std.specs.Prelude.{Option, Some, None, map, ◌⊎◌}
use Rattle.walrus_base.specs.Arena.{item_at, items}
use Rattle.walrus_code.specs.Transform.{Transform}
use Rattle.walrus_items.specs.declared.custom.CustomSection.{Ghosts}
use Rattle.walrus_base.proofs.Lists.{Contains-map}
use Rattle.walrus_items.specs.declared.error.Error.{Error}
use Rattle.walrus_items.specs.declared.error.Error.TheVariants as errors
use Rattle.walrus_module.specs.Asked.{IsRefusedBy, OneAskedMayRefuse, is_in_turn}
use Rattle.walrus_module.specs.Following.{EachComes, FollowedWrite, Follows, FollowsBy, MayFollow, MayRefuseAt, OneComes, SameKind, SlotComes, Stays}
use Rattle.walrus_plan.proofs.Counted.{item_in}
use Rattle.walrus_module.proofs.Asking.{no_debug}
use Rattle.walrus_module.specs.Meaning.{Meaning, meaning}
use Rattle.walrus_module.specs.declared.entry.SectionEntry.{SectionEntry}
use Rattle.walrus_module.specs.declared.entry.SectionEntry.TheVariants.{Raw, Boxed}
use Rattle.std.proofs.lemmas.Bool.{cases_lt, cases_order}
use Rattle.walrus_reading.proofs.NamesTold.{past_end}

pub same_kind : {V : Type 0} {O : V → Type 0} (s : SectionEntry V O) → SameKind s s
same_kind (Raw s) = refl
same_kind (Boxed b) = refl

pub by_turn : (x : Transform) (old new : Meaning) (b : Bool) → b ≡ true → FollowsBy b x old new → new.state ≡ old.state_after x
by_turn x old new true on h = h.1
by_turn x old new false on h = absurd (cc)

module _ {V : Type 0} {O : V → Type 0} (G : (v : V) → Ghosts (O v)) where
  pub followed_write : FollowedWrite G
  followed_write x f (Raw s) new writes turn h = absurd writes
  followed_write x f (Boxed a) (Raw t) writes turn h = absurd h.0
  followed_write x f (Boxed a) (Boxed b) writes turn h =
      let still : (y : O b.vtable) → (G b.vtable).contents y ≡ f ((G b.vtable).state y) = subst (λ (v : V). (y : O v) → (G v).contents y ≡ f ((G v).state y)) (sym h.0) writes in
      (still, still b.value ∙ ap f (by_turn x (meaning G (Boxed a)) (meaning G (Boxed b)) (is_in_turn false (meaning G (Boxed a)).name) turn h.1))

module _ {V : Type 0} {O : V → Type 0} (G : (v : V) → Ghosts (O v)) where
  weaker : (R S : Meaning → Meaning → Type 0) → ((a b : Meaning) → R a b → S a b) → (old new : Option (SectionEntry V O)) → SlotComes G R old new → SlotComes G S old new
  weaker R S f None None h = tt
  weaker R S f None (Some t) h = absurd h
  weaker R S f (Some s) None h = absurd h
  weaker R S f (Some s) (Some t) h = (h.0, f _ _ h.1)

  same_slot : (R : Meaning → Meaning → Type 0) → ((a : Meaning) → R a a) → (s : Option (SectionEntry V O)) → SlotComes G R s s
  same_slot R f None = tt
  same_slot R f (Some s) = (same_kind s, f (meaning G s))

  refuses_there : (slots : List (Option (SectionEntry V O))) (i : ℕ) (o : Option (SectionEntry V O)) → item_at slots i ≡ o → MayRefuseAt G o → OneAskedMayRefuse (map (meaning G) (items slots))
  refuses_there slots i None is h = absurd h
  refuses_there slots i (Some s) is h = (meaning G s, Contains-map (meaning G) s (items slots) (item_in slots i s is), no_debug false (meaning G s).name h.0, h.1)

  -- the sections in front of a place have followed, and the others stay
  pub record SoFar (x : Transform) (at : ℕ) (old now : List (Option (SectionEntry V O))) : Type 0 where
    pub places : length now ≡ length old
    pub done : (i : ℕ) → i < at → SlotComes G (Follows x) (item_at old i) (item_at now i)
    pub rest : (i : ℕ) → at ≤ i → item_at now i ≡ item_at old i

  pub begun : (x : Transform) (old : List (Option (SectionEntry V O))) → SoFar x 0 old old
  begun x old = record { places = refl; done = λ i lt. absurd (omega (arith, lt)); rest = λ i le. refl }

  module _ (x : Transform) (at : ℕ) (old now : List (Option (SectionEntry V O))) (far : SoFar x at old now) where
    pub one_more : (next : List (Option (SectionEntry V O))) (p : ℕ) → p ≡ at → OneComes G (Follows x) p now next → SoFar x (at + 1) old next
    one_more next p here at_p = let one : OneComes G (Follows x) at now next = subst (λ (n : ℕ). OneComes G (Follows x) n now next) here at_p in record {
      places = one.places ∙ far.places;
      done = λ i lt. ⊎_elim
          (λ (e : i ≡ at). subst (λ (n : ℕ). SlotComes G (Follows x) (item_at old n) (item_at next n)) (sym e) (subst (λ s. SlotComes G (Follows x) s (item_at next at)) (far.rest at (omega arith)) one.comes))
          (λ (other : (i < at) ⊎ (at < i)).
          let before : i < at = ⊎_elim (λ (l : i < at). l) (λ (l : at < i). absurd (omega (arith, l, lt))) other in
          subst (λ s. SlotComes G (Follows x) (item_at old i) s) (sym (one.others i (λ (e : i ≡ at). absurd (omega (arith, e, before))))) (far.done i before))
          (cases_order i at);
      rest = λ i le. one.others i (λ (e : i ≡ at). absurd (omega (arith, e, le))) ∙ far.rest i (omega (arith, le));
    }

    pub all_followed : length old ≤ at → EachComes G (Follows x) old now
    all_followed end = record {
      places = far.places;
      comes = λ i. ⊎_elim (λ (lt : i < at). far.done i lt)
          (λ (le : at ≤ i).
          let none : item_at old i ≡ None = past_end old i (omega (arith, end, le)) in
          subst (λ s. SlotComes G (Follows x) (item_at old i) s) (sym (far.rest i le)) (subst (λ s. SlotComes G (Follows x) s s) (sym none) tt))
          (cases_lt i at);
    }

    pub one_refused : (next : List (Option (SectionEntry V O))) (p : ℕ) → p ≡ at → OneComes G Stays p now next → EachComes G (MayFollow x) old next
    one_refused next p here at_p = let one : OneComes G Stays at now next = subst (λ (n : ℕ). OneComes G Stays n now next) here at_p in record {
      places = one.places ∙ far.places;
      comes = λ i. ⊎_elim
          (λ (e : i ≡ at). subst (λ (n : ℕ). SlotComes G (MayFollow x) (item_at old n) (item_at next n)) (sym e)
          (subst (λ s. SlotComes G (MayFollow x) s (item_at next at)) (far.rest at (omega arith)) (weaker Stays (MayFollow x) (λ a b h. inr h) (item_at now at) (item_at next at) one.comes)))
          (⊎_elim
          (λ (lt : i < at).
          subst (λ s. SlotComes G (MayFollow x) (item_at old i) s) (sym (one.others i (λ (e : i ≡ at). absurd (omega (arith, e, lt))))) (weaker (Follows x) (MayFollow x) (λ a b h. inl h) (item_at old i) (item_at now i) (far.done i lt)))
          (λ (lt : at < i).
          subst (λ s. SlotComes G (MayFollow x) (item_at old i) s) (sym (one.others i (λ (e : i ≡ at). absurd (omega (arith, e, lt))) ∙ far.rest i (omega (arith, lt)))) (same_slot (MayFollow x) (λ a. inr refl) (item_at old i))))
          (cases_order i at);
    }

    -- one that refuses was there before, and may refuse
    pub one_may_refuse : (p : ℕ) → p ≡ at → (e : Error) → IsRefusedBy (MayRefuseAt G (item_at now p)) e → IsRefusedBy (OneAskedMayRefuse (map (meaning G) (items old))) e
    one_may_refuse p here (errors.Memory m) h = tt
    one_may_refuse p here (errors.Caller text) h =
        refuses_there old at (item_at old at) refl (subst (λ s. MayRefuseAt G s) (far.rest at (omega arith)) (subst (λ (n : ℕ). MayRefuseAt G (item_at now n)) here h))
    one_may_refuse p here _ h = absurd h
