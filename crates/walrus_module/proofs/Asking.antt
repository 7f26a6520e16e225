-- Sections that are asked one after another: what was answered so far, and those that are still to come.
use Rattle.std.proofs.Common.{◌≡◌, ℕ, Bool, true, false, cond, not, ◌||◌, bytes_eq, codes, append_assoc, List, [], ◌∷◌, ◌++◌, map, flat_map, Contains, filter, None, refl, sym, ap, ap₂, ◌∙◌, subst}
use Rattle.std.proofs.lemmas.List.{map-append}
use Rattle.std.proofs.lemmas.Slice.Eq.{bytes_eq-Decides}
use Rattle.wasm_frames.specs.Record as wire
use Rattle.walrus_base.specs.Operators.{Item}
use Rattle.walrus_code.specs.Names.{Lookup}
use Rattle.walrus_model.specs.Abstract.{Custom}
use Rattle.walrus_model.specs.Customs.{fixed, is_debug_name, is_dylink, no_indices, written_customs}
use Rattle.walrus_model.specs.Sections as sections
use Rattle.walrus_base.proofs.Lists.{Contains-head, Contains-tail}
use Rattle.walrus_items.specs.Roots.{RootLists, with_root, with_roots}
use Rattle.walrus_items.specs.Section.{IsSectionError}
use Rattle.walrus_items.specs.declared.custom.CustomSection.{Ghosts}
use Rattle.walrus_items.specs.declared.error.Error.{Error}
use Rattle.walrus_items.specs.declared.error.Error.TheVariants as errors
use Rattle.walrus_module.specs.Asked.{IsRefusedBy, OneAskedMayRefuse, OneMayRefuse, in_turn, is_dylink_name, is_in_turn, section_under}
use Rattle.walrus_module.specs.Meaning.{Meaning, meaning}
use Rattle.walrus_module.specs.View.{custom_of}
use Rattle.walrus_module.specs.declared.entry.SectionEntry.{SectionEntry}

module _ {V : Type 0} {O : V → Type 0} (G : (v : V) → Ghosts (O v)) where
  -- what sections mean, given with their places
  abbrev pub mean : List (ℕ × SectionEntry V O) → List Meaning
  mean es = map (meaning G) (map (λ (e : ℕ × SectionEntry V O). e.1) es)

-- all these are among those
abbrev pub AreAmong : List Meaning → List Meaning → Type 0
AreAmong some all = (s : Meaning) → Contains some s → Contains all s

pub among_rest : (first : Meaning) (rest some all : List Meaning) → some ≡ first ∷ rest → AreAmong some all → AreAmong rest all
among_rest first rest some all is among = λ s at. among s (subst (λ xs. Contains xs s) (sym is) (Contains-tail first s rest at))

pub first_among : (first : Meaning) (rest some all : List Meaning) → some ≡ first ∷ rest → AreAmong some all → Contains all first
first_among first rest some all is among = among first (subst (λ xs. Contains xs first) (sym is) (Contains-head first rest))

pub with_roots-append : (r : RootLists) (xs ys : List Item) → with_roots r (xs ++ ys) ≡ with_roots (with_roots r xs) ys
with_roots-append r [] ys = refl
with_roots-append r (x ∷ xs) ys = with_roots-append (with_root r x) xs ys

-- what a list of sections asks for
abbrev pub asked_for : List Meaning → List Item
asked_for ss = flat_map (λ (s : Meaning). s.roots) ss

-- the first one was asked
pub roots_step : (old new all : RootLists) (first : Meaning) (rest some : List Meaning) → some ≡ first ∷ rest → new ≡ with_roots old first.roots
    → with_roots old (asked_for some) ≡ all → with_roots new (asked_for rest) ≡ all
roots_step old new all first rest some is asked before =
    ap (λ (r : RootLists). with_roots r (asked_for rest)) asked
    ∙ sym (with_roots-append old first.roots (asked_for rest))
    ∙ sym (ap (λ (ss : List Meaning). with_roots old (asked_for ss)) is)
    ∙ before

-- ---- refusals

pub one_refuses : (all : List Meaning) (s : Meaning) (e : Error) → Contains all s → IsSectionError s.may_refuse e → IsRefusedBy (OneMayRefuse all) e
one_refuses all s (errors.Memory m) at h = tt
one_refuses all s (errors.Caller text) at h = (s, at, h)
one_refuses all s _ at h = absurd h

-- what is asked for its data is no debug information
both_false : (a b : Bool) → not (a || b) ≡ true → b ≡ false
both_false true b h = absurd (cc)
both_false false true h = absurd (cc)
both_false false false h = refl

either_name : (name : List ℕ) (b : Bool) → bytes_eq name (codes "dylink") ≡ b → (b || bytes_eq name (codes "dylink.0")) ≡ true → is_debug_name name ≡ false
either_name name true same h = ap is_debug_name ((bytes_eq-Decides name (codes "dylink")).0 same)
either_name name false other h = ap is_debug_name ((bytes_eq-Decides name (codes "dylink.0")).0 h)

pub no_debug : (turn : Bool) (name : List ℕ) → is_in_turn turn name ≡ true → is_debug_name name ≡ false
no_debug true name h = either_name name (bytes_eq name (codes "dylink")) refl h
no_debug false name h = both_false (is_dylink_name name) (is_debug_name name) h

-- one that may refuse was asked for its data
pub one_asked_refuses : (turn : Bool) (all : List Meaning) (s : Meaning) (e : Error) → Contains all s → is_in_turn turn s.name ≡ true → IsSectionError s.may_refuse e → IsRefusedBy (OneAskedMayRefuse all) e
one_asked_refuses turn all s (errors.Memory m) at asked h = tt
one_asked_refuses turn all s (errors.Caller text) at asked h = (s, at, no_debug turn s.name asked, h)
one_asked_refuses turn all s _ at asked h = absurd h

-- ---- sections in turn

module _ (names : Lookup) (turn : Bool) (first : Meaning) (rest some : List Meaning) (is : some ≡ first ∷ rest) (old new all : List wire.Custom)
    (before : old ++ map (section_under names) (in_turn turn some) ≡ all) where
  turned : (b : Bool) → is_in_turn turn first.name ≡ b → in_turn turn some ≡ cond b (first ∷ in_turn turn rest) (in_turn turn rest)
  turned b passes = ap (in_turn turn) is ∙ ap (λ (t : Bool). cond t (first ∷ in_turn turn rest) (in_turn turn rest)) passes

  -- the first one is asked
  pub asked_step : is_in_turn turn first.name ≡ true → new ≡ old ++ section_under names first ∷ [] → new ++ map (section_under names) (in_turn turn rest) ≡ all
  asked_step in_its_turn one =
      ap (λ (cs : List wire.Custom). cs ++ map (section_under names) (in_turn turn rest)) one
      ∙ append_assoc old (section_under names first ∷ []) (map (section_under names) (in_turn turn rest))
      ∙ sym (ap (λ (ss : List Meaning). old ++ map (section_under names) ss) (turned true in_its_turn))
      ∙ before

  -- or passed over
  pub passed_step : is_in_turn turn first.name ≡ false → old ++ map (section_under names) (in_turn turn rest) ≡ all
  passed_step no_turn = sym (ap (λ (ss : List Meaning). old ++ map (section_under names) ss) (turned false no_turn)) ∙ before

-- ---- what is written of sections

module _ (test : Custom → Bool) where
  one_filtered : (s : Meaning) (ss : List Meaning) (b : Bool) → test (custom_of s) ≡ b → filter test (map custom_of ss) ≡ map custom_of (filter (λ (m : Meaning). test (custom_of m)) ss)
      → cond b (custom_of s ∷ filter test (map custom_of ss)) (filter test (map custom_of ss)) ≡ map custom_of (cond b (s ∷ filter (λ (m : Meaning). test (custom_of m)) ss) (filter (λ (m : Meaning). test (custom_of m)) ss))
  one_filtered s ss true e later = ap (λ (cs : List Custom). custom_of s ∷ cs) later
  one_filtered s ss false e later = later

  filtered : (ss : List Meaning) → filter test (map custom_of ss) ≡ map custom_of (filter (λ (m : Meaning). test (custom_of m)) ss)
  filtered [] = refl
  filtered (s ∷ ss) = one_filtered s ss (test (custom_of s)) refl (filtered ss)

-- a section under these indices is that of the module
under_these : (names : Lookup) (ss : List Meaning) → map sections.custom_of (map (section_under names) ss) ≡ map (fixed (λ x. names x.0 x.1)) (map custom_of ss)
under_these names [] = refl
under_these names (s ∷ ss) = ap (λ (cs : List Custom). fixed (λ x. names x.0 x.1) (custom_of s) ∷ cs) (under_these names ss)

pub written_so : (none names : Lookup) (ss : List Meaning) → none ≡ (λ space i. None)
    → map sections.custom_of (map (section_under none) (in_turn true ss) ++ map (section_under names) (in_turn false ss)) ≡ written_customs (λ x. names x.0 x.1) (map custom_of ss)
written_so none names ss nothing =
    map-append sections.custom_of (map (section_under none) (in_turn true ss)) (map (section_under names) (in_turn false ss))
    ∙ ap₂ (λ (a b : List Custom). a ++ b)
    (ap (λ (n : Lookup). map sections.custom_of (map (section_under n) (in_turn true ss))) nothing ∙ under_these (λ space i. None) (in_turn true ss) ∙ sym (ap (map (fixed no_indices)) (filtered is_dylink ss)))
    (under_these names (in_turn false ss) ∙ sym (ap (map (fixed (λ x. names x.0 x.1))) (filtered (λ (c : Custom). not (is_dylink c || is_debug_name c.name)) ss)))
