-- The other custom sections are told by what is left where names, producers and debug information are put aside.
use Rattle.std.proofs.Common.{◌≡◌, ℕ, Bool, true, false, List, [], ◌∷◌, ◌++◌, map, refl, sym, ap, ap₂, ◌∙◌}
use Rattle.std.specs.Prelude.{None, All, codes, bytes_eq, filter, cond, not, ◌||◌}
use Rattle.std.proofs.lemmas.List.{append-nil}
use Rattle.std.proofs.lemmas.List.Elements.{All-weaker, filter-append}
use Rattle.std.proofs.lemmas.Slice.Eq.{bytes_eq-Decides}
use Rattle.wasm_forms.specs.Spelling.{vector_bytes}
use Rattle.wasm_frames.specs.Record as wire
use Rattle.walrus_model.specs.Abstract.{Name, Custom}
use Rattle.walrus_model.specs.Sections.{is_apart, custom_of, customs_of}
use Rattle.walrus_theorem.specs.Text.{Text, names_bytes, field_bytes}
use Rattle.walrus_theorem.specs.Spelling.{is_dylink, is_other}
use Rattle.walrus_model.proofs.OneList.{one_map, one_split, filter_all}
use Rattle.walrus_theorem.proofs.OneSections.{more, customs_in}

abbrev kept : wire.Custom → Bool
kept c = not (is_apart c.name)

named_kept : (c : wire.Custom) (name : Name) → not (is_apart name) ≡ true → bytes_eq c.name name ≡ true → kept c ≡ true
named_kept c name is same = ap (λ (n : Name). not (is_apart n)) ((bytes_eq-Decides c.name name).0 same) ∙ is

by_first : (c : wire.Custom) (a : Bool) → bytes_eq c.name (codes "dylink") ≡ a → (a || bytes_eq c.name (codes "dylink.0")) ≡ true → kept c ≡ true
by_first c true is h = named_kept c (codes "dylink") refl is
by_first c false is h = named_kept c (codes "dylink.0") refl h

dylink_kept : (c : wire.Custom) → is_dylink c ≡ true → kept c ≡ true
dylink_kept c h = by_first c (bytes_eq c.name (codes "dylink")) refl h

pub neither : (a b : Bool) → not (a || b) ≡ true → (a ≡ false) × (not b ≡ true)
neither true b h = absurd cc
neither false b h = (refl, h)

other_kept : (c : wire.Custom) → is_other c ≡ true → kept c ≡ true
other_kept c h = (neither (is_dylink c) (is_apart c.name) h).1

pub other_apart : (c : wire.Custom) → is_other c ≡ true → is_dylink c ≡ false
other_apart c h = (neither (is_dylink c) (is_apart c.name) h).0

none_more : {A : Type 0} (name : Name) (spell : List A → List ℕ) (xs : List A) → not (is_apart name) ≡ false → filter kept (more name spell xs) ≡ []
none_more name spell [] is = refl
none_more name spell (x ∷ xs) is = ap (λ (b : Bool). cond b (record { name = name; bytes = spell (x ∷ xs) } ∷ []) []) is

abbrev pub left : Text → List wire.Custom
left t = t.dylinks ++ t.others

module _ (t : Text) (dylinks : All (λ c. is_dylink c ≡ true) t.dylinks) (others : All (λ c. is_other c ≡ true) t.others) where
  first_kept : filter kept t.dylinks ≡ t.dylinks
  first_kept = filter_all kept t.dylinks (All-weaker (λ (c : wire.Custom). is_dylink c ≡ true) (λ (c : wire.Custom). kept c ≡ true) dylink_kept t.dylinks dylinks)

  last_kept : filter kept t.others ≡ t.others
  last_kept = filter_all kept t.others (All-weaker (λ (c : wire.Custom). is_other c ≡ true) (λ (c : wire.Custom). kept c ≡ true) other_kept t.others others)

  pub what_is_left : filter kept (customs_in t) ≡ left t
  what_is_left =
      let names = more (codes "name") (λ (bytes : List ℕ). bytes) (names_bytes t.names) in
      let producers = more (codes "producers") (vector_bytes field_bytes) t.producers in
      filter-append kept (t.dylinks ++ names ++ producers) t.others
      ∙ ap₂ ◌++◌
      (filter-append kept (t.dylinks ++ names) producers
      ∙ ap₂ ◌++◌ (filter-append kept t.dylinks names ∙ ap₂ ◌++◌ first_kept (none_more (codes "name") (λ (bytes : List ℕ). bytes) (names_bytes t.names) refl)) (none_more (codes "producers") (vector_bytes field_bytes) t.producers refl))
      last_kept
      ∙ ap (λ l. l ++ t.others) (append-nil (t.dylinks ++ []) ∙ append-nil t.dylinks)

abbrev raw_custom : Custom → wire.Custom
raw_custom c = record { name = c.name; bytes = c.data_under (λ x. None) }

pub one_customs : (s t : Text) → All (λ c. is_dylink c ≡ true) s.dylinks → All (λ c. is_other c ≡ true) s.others → All (λ c. is_dylink c ≡ true) t.dylinks → All (λ c. is_other c ≡ true) t.others → customs_of (customs_in s) ≡ customs_of (customs_in t) → (s.dylinks ≡ t.dylinks) × (s.others ≡ t.others)
one_customs s t a b c d e =
    let mapped : map custom_of (left s) ≡ map custom_of (left t) = sym (ap (map custom_of) (what_is_left s a b)) ∙ e ∙ ap (map custom_of) (what_is_left t c d) in
    let both : left s ≡ left t = one_map custom_of raw_custom (λ c. Unit {0}) (λ x h. refl) (left s) (left t) (λ k x low. tt) (λ k x low. tt) mapped in
    one_split is_dylink s.dylinks t.dylinks s.others t.others a c
    (All-weaker (λ (c : wire.Custom). is_other c ≡ true) (λ (c : wire.Custom). is_dylink c ≡ false) other_apart s.others b)
    (All-weaker (λ (c : wire.Custom). is_other c ≡ true) (λ (c : wire.Custom). is_dylink c ≡ false) other_apart t.others d) both
