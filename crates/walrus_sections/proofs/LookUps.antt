-- A NAME without a star is one text, and a text is looked up among others in order.
use Rattle.std.proofs.Common.{◌≡◌, ◌↔◌, ◌<◌, ◌≤◌, ◌+◌, ℕ, zero, suc, Bool, true, false, List, [], ◌∷◌, map, length, get_or, take, All, Some, Result, Ok, Err, ltb, ltb-true, ltb-false, refl, sym, ap, ◌∙◌, subst, arith}
use Rattle.std.specs.Prelude.{◌&&◌, Contains, IsSorted, if◌then◌else◌, is_ok, nat_eq, slice_get}
use Rattle.std.specs.Borrow.{Bor}
use Rattle.std.specs.List.Sorted.{IsBinarySearchResult, IsPartitionPoint, IsSearchInRange}
use Rattle.std.specs.Ordering.{is_eq}
use Rattle.std.specs.declared.cmp.Ordering.{Ordering}
use Rattle.std.specs.declared.cmp.Ordering.TheVariants.{Less, Equal, Greater}
use Rattle.std.proofs.lemmas.Bool.{or_parts, false≢true as untrue}
use Rattle.std.proofs.lemmas.Cmp.{nat_list_cmp_total}
use Rattle.std.proofs.lemmas.List.{get_or-map, length-map, take-map, take_all}
use Rattle.std.proofs.lemmas.List.Elements.{All-contains, All-map, All-more}
use Rattle.std.proofs.lemmas.List.Sorted.{searchable_from_sorted}
use Rattle.std.proofs.lemmas.Map.Text.{is_eq-slice_cmp}
use Rattle.std.proofs.lemmas.Slice.Eq.{bytes_eq-Decides}
use Rattle.wasm_wire.specs.Names.{by_bytes}
use Rattle.walrus_sections.specs.Choice.{Choice, choice_seen, choices_seen}
use Rattle.walrus_sections.specs.ExportChoice.{EachFits, FitsText, IsFirstUnfit}
use Rattle.walrus_sections.specs.Fits.{Part, any, byte, parts, FitParts, Fits}
use Rattle.walrus_sections.specs.NameLists.{has_star, texts}
use Rattle.walrus_sections.specs.declared.choice.Choice.{Choice as HeldChoice}
use Rattle.walrus_sections.proofs.Among.{among, none_among}

abbrev Text : Type 0
Text = Bor (List ℕ)

-- ---- a NAME without a star

and_false : (a b : Bool) → b ≡ false → (a && b) ≡ false
and_false true b h = h
and_false false b h = refl

plain_parts : (name : List ℕ) → has_star name ≡ false → parts name ≡ map byte name
plain_parts [] h = refl
plain_parts (x ∷ []) h = ap (λ (b : Bool). (if b then any else byte x) ∷ []) (or_parts (nat_eq x 42) (has_star []) h).0
plain_parts (x ∷ y ∷ name) h =
    let here = or_parts (nat_eq x 42) (has_star (y ∷ name)) h in
    let next = or_parts (nat_eq y 42) (has_star name) here.1 in
    ap (λ (b : Bool). if b then any ∷ parts (y ∷ name) else if nat_eq x 92 && nat_eq y 42 then byte 42 ∷ parts name else byte x ∷ parts (y ∷ name)) here.0
    ∙ ap (λ (b : Bool). if b then byte 42 ∷ parts name else byte x ∷ parts (y ∷ name)) (and_false (nat_eq x 92) (nat_eq y 42) next.0)
    ∙ ap (λ (ps : List Part). byte x ∷ ps) (plain_parts (y ∷ name) here.1)

are_bytes : (name text : List ℕ) → FitParts (map byte name) text → text ≡ name
are_bytes [] text h = h
are_bytes (x ∷ name) text h = h.1 ∙ ap (λ (l : List ℕ). x ∷ l) (are_bytes name h.0 h.2)

fit_bytes : (name : List ℕ) → FitParts (map byte name) name
fit_bytes [] = refl
fit_bytes (x ∷ name) = (name, refl, fit_bytes name)

-- such a NAME fits itself alone
pub plain_fits : (name text : List ℕ) → has_star name ≡ false → Fits name text ↔ (text ≡ name)
plain_fits name text plain = (
  λ h. are_bytes name text (subst (λ (ps : List Part). FitParts ps text) (plain_parts name plain) h),
  λ same. subst (λ (ps : List Part). FitParts ps text) (sym (plain_parts name plain)) (subst (FitParts (map byte name)) (sym same) (fit_bytes name)),
)

-- so one fits one of these texts where it is one of them
pub plain_text : (all : List (List ℕ)) (name : List ℕ) (found : Bool) → has_star name ≡ false → (found ≡ true) ↔ Contains all name → (found ≡ true) ↔ FitsText all name
plain_text all name found plain iff = (
  λ yes. (name, iff.0 yes, (plain_fits name name plain).1 refl),
  λ one. iff.1 (subst (Contains all) ((plain_fits name one.0 plain).0 one.2) one.1),
)

-- ---- one of a list, by a walk over all

module _ (P : List ℕ → Type 0) (all : List Text) where
  -- what is so of one
  abbrev One : Type 0
  One = (t : List ℕ) × Contains (texts all) t × P t

  pub one_is : (i : ℕ) (d : Text) → i < length all → P (get_or all i d).now → One
  one_is i d below so = ((get_or all i d).now, among (λ (t : Text). t.now) all i d below, so)

  -- none of those before
  pub none_more : (i : ℕ) (d : Text) (found : Bool) → i < length all → (found ≡ true) ↔ P (get_or all i d).now → found ≡ false → All (λ t. P t.now → ⊥) (take i all) → All (λ t. P t.now → ⊥) (take (i + 1) all)
  none_more i d found below iff isnt none = All-more (λ t. P t.now → ⊥) all i d below none (λ so. untrue (sym isnt ∙ iff.1 so))

  pub none_is : (i : ℕ) → length all ≤ i → All (λ t. P t.now → ⊥) (take i all) → (false ≡ true) ↔ One
  none_is i past none = (
    λ h. absurd (untrue h),
    λ found. absurd (none_among P (λ (t : Text). t.now) all (subst (All (λ t. P t.now → ⊥)) (take_all i all past) none) found.0 found.1 found.2),
  )

-- ---- one of a list in order, by halves

same_bytes : (x y : Text) → by_bytes x y ≡ Equal → x.now ≡ y.now
same_bytes x y h = (bytes_eq-Decides x.now y.now).0 (sym (is_eq-slice_cmp x.now y.now) ∙ ap is_eq h)

module _ (all : List Text) (text : Text) (sorted : IsSorted by_bytes all) where
  differs : (x : Text) → x.now ≡ text.now → (o : Ordering) → by_bytes x text ≡ o → is_eq o ≡ false → ⊥
  differs x same o is less = untrue (sym less ∙ sym (ap is_eq is) ∙ is_eq-slice_cmp x.now text.now ∙ (bytes_eq-Decides x.now text.now).1 same)

  nowhere : (i : ℕ) → IsBinarySearchResult {X = Text} (λ y. by_bytes y text) all (Err i) → Contains (texts all) text.now → ⊥
  nowhere i h found =
      let parted = h (searchable_from_sorted nat_list_cmp_total (λ (t : Text). t.now) all text.now sorted) in
      let low : found.0 < length all = omega (arith, found.1, length-map all (λ (t : Text). t.now)) in
      go found.0 low (sym (get_or-map (λ (t : Text). t.now) all found.0 text text.now low) ∙ found.2) parted (ltb found.0 i) refl
    where
      go : (k : ℕ) → k < length all → (get_or all k text).now ≡ text.now → IsPartitionPoint {X = Text} (λ y. by_bytes y text ≡ Less) (λ y. by_bytes y text ≡ Greater) all i → (b : Bool) → ltb k i ≡ b → ⊥
      go k low same parted true e = differs (get_or all k text) same Less (parted.0 k text (omega arith) (ltb-true k i e)) refl
      go k low same parted false e = differs (get_or all k text) same Greater (parted.1 k text (ltb-false k i e) low) refl

  pub searched : (r : Result ℕ ℕ) → IsSearchInRange r (length all) → IsBinarySearchResult {X = Text} (λ y. by_bytes y text) all r → (is_ok r ≡ true) ↔ Contains (texts all) text.now
  searched (Ok i) low h = (
    λ yes. subst (Contains (texts all)) (same_bytes (get_or all i text) text (h text)) (among (λ (t : Text). t.now) all i text low),
    λ found. refl,
  )
  searched (Err i) low h = (λ yes. absurd (untrue yes), λ found. absurd (nowhere i h found))

-- ---- all choices

got : {X Y : Type 0} (f : X → Y) (xs : List X) (i : ℕ) (d : X) → i < length xs → slice_get (map f xs) i ≡ Some (f (get_or xs i d))
got f [] i d low = absurd (omega (arith, low))
got f (x ∷ xs) zero d low = refl
got f (x ∷ xs) (suc i) d low = got f xs i d (omega (arith, low))

module _ (all : List (List ℕ)) where
  -- each of these choices fits one of the texts
  abbrev pub EachMet : List HeldChoice → Type 0
  EachMet choices = All (λ choice. FitsText all (choice_seen choice).name) choices

  pub each_fits : (choices : List HeldChoice) → EachMet choices → EachFits all (choices_seen choices)
  each_fits choices met = λ choice at.
      All-contains (λ (x : Choice). FitsText all x.name) (choices_seen choices) choice
      (All-map (λ (x : Choice). FitsText all x.name) choice_seen choices met) at

  module _ (choices : List HeldChoice) (i : ℕ) where
    pub met_more : (d : HeldChoice) → i < length choices → FitsText all (choice_seen (get_or choices i d)).name → EachMet (take i choices) → EachMet (take (i + 1) choices)
    met_more d below fits met = All-more (λ choice. FitsText all (choice_seen choice).name) choices i d below met fits

    pub met_all : length choices ≤ i → EachMet (take i choices) → EachFits all (choices_seen choices)
    met_all past met = each_fits choices (subst EachMet (take_all i choices past) met)

    pub unfit_at : (d : HeldChoice) → i < length choices → (FitsText all (choice_seen (get_or choices i d)).name → ⊥) → EachMet (take i choices) → IsFirstUnfit all (choices_seen choices) i
    unfit_at d below unfit met = record {
      choice = choice_seen (get_or choices i d);
      there = got choice_seen choices i d below;
      unfit = unfit;
      before = subst (EachFits all) (sym (take-map choice_seen i choices)) (each_fits (take i choices) met);
    }
