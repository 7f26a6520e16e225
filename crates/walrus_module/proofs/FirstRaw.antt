-- The first raw section of a name among raw ones: where it stands, and what is left without it.
use Rattle.std.proofs.Common.{◌≡◌, ℕ, ◌+◌, Bool, true, false, List, [], ◌∷◌, ◌++◌, map, length, refl, ap, ◌∙◌, subst, ⊎_elim, arith}
use Rattle.std.specs.Prelude.{Contains, Option, Some, None, find, slice_set, bytes_eq, if◌then◌else◌, ◌≢◌}
use Rattle.std.specs.String.{string_bytes}
use Rattle.std.proofs.lemmas.Slice.Eq.{bytes_eq-Decides}
use Rattle.walrus_base.specs.Arena.{entries_from, items}
use Rattle.walrus_base.proofs.Lists.{Contains-none, Contains-uncons}
use Rattle.walrus_items.specs.declared.custom.CustomSection.{Ghosts}
use Rattle.walrus_items.specs.declared.raw_section.RawCustomSection.{RawCustomSection}
use Rattle.walrus_module.specs.Entry.{names_raw}
use Rattle.walrus_module.specs.Meaning.{Meaning, meaning, raw_meaning}
use Rattle.walrus_module.specs.Raws.{first_raw, raw_sections}
use Rattle.walrus_module.specs.declared.entry.SectionEntry.{SectionEntry}
use Rattle.walrus_module.specs.declared.entry.SectionEntry.TheVariants.{Raw}
use Rattle.walrus_model.proofs.Looked.{differs}

-- the first of these raw sections that has the name, between those
pub record IsFirstRaw (name : List ℕ) (raws before : List RawCustomSection) (section : RawCustomSection) (after : List RawCustomSection) : Type 0 where
  pub are : raws ≡ before ++ section ∷ after
  pub named : string_bytes section.name ≡ name
  pub others : (s : RawCustomSection) → Contains before s → string_bytes s.name ≢ name

module _ {V : Type 0} {O : V → Type 0} (name : List ℕ) where
  -- this was found among raw sections, of which the first has this place
  pub record IsFoundRaw (place : ℕ) (raws : List RawCustomSection) (e : ℕ × SectionEntry V O) : Type 0 where
    pub before : List RawCustomSection
    pub section : RawCustomSection
    pub after : List RawCustomSection
    pub first : IsFirstRaw name raws before section after
    pub is : e ≡ (place + length before, Raw section)

  abbrev pub FoundRaw : (place : ℕ) (raws : List RawCustomSection) → Option (ℕ × SectionEntry V O) → Type 0
  FoundRaw place raws None = (s : RawCustomSection) → Contains raws s → string_bytes s.name ≢ name
  FoundRaw place raws (Some e) = IsFoundRaw place raws e

module _ (name : List ℕ) where
  others_too : (r : RawCustomSection) (raws : List RawCustomSection) → bytes_eq (string_bytes r.name) name ≡ false → ((s : RawCustomSection) → Contains raws s → string_bytes s.name ≢ name)
      → (s : RawCustomSection) → Contains (r ∷ raws) s → string_bytes s.name ≢ name
  others_too r raws other rest s at = ⊎_elim (λ same. subst (λ (x : RawCustomSection). string_bytes x.name ≢ name) same (differs (string_bytes r.name) name other)) (λ behind. rest s behind) (Contains-uncons r s raws at)

module _ (V : Type 0) (O : V → Type 0) (name : List ℕ) where
  by_test : (place : ℕ) (r : RawCustomSection) (raws : List RawCustomSection) (t : Bool) → bytes_eq (string_bytes r.name) name ≡ t → (o : Option (ℕ × SectionEntry V O)) → FoundRaw name (place + 1) raws o
      → FoundRaw name place (r ∷ raws) (if t then Some (place, Raw r) else o)
  by_test place r raws true is o rest = record {
    before = [];
    section = r;
    after = raws;
    first = record { are = refl; named = (bytes_eq-Decides (string_bytes r.name) name).0 is; others = λ s at. absurd (Contains-none s at) };
    is = ap (λ (n : ℕ). (n, Raw r)) (let e : place ≡ place + length {A = RawCustomSection} [] = omega arith in e);
  }
  by_test place r raws false is None rest = others_too name r raws is rest
  by_test place r raws false is (Some e) rest = record {
    before = r ∷ rest.before;
    section = rest.section;
    after = rest.after;
    first = record { are = ap (λ (l : List RawCustomSection). r ∷ l) rest.first.are; named = rest.first.named; others = others_too name r rest.before is rest.first.others };
    is = rest.is ∙ ap (λ (n : ℕ). (n, Raw rest.section)) (let e : (place + 1) + length rest.before ≡ place + length (r ∷ rest.before) = omega arith in e);
  }

  found_from : (place : ℕ) (raws : List RawCustomSection) → FoundRaw name place raws (find (λ (e : ℕ × SectionEntry V O). names_raw name e.1) (entries_from place (raw_sections raws)))
  found_from place [] = λ s at. absurd (Contains-none s at)
  found_from place (r ∷ raws) = by_test place r raws (bytes_eq (string_bytes r.name) name) refl (find (λ (e : ℕ × SectionEntry V O). names_raw name e.1) (entries_from (place + 1) (raw_sections raws))) (found_from (place + 1) raws)

  pub found : (raws : List RawCustomSection) → FoundRaw name 0 raws (first_raw {V = V} {O = O} name (raw_sections raws))
  found raws = found_from 0 raws

-- ---- what is left

module _ {V : Type 0} {O : V → Type 0} where
  pub gone_at : (before : List RawCustomSection) (section : RawCustomSection) (after : List RawCustomSection)
      → slice_set (raw_sections {V = V} {O = O} (before ++ section ∷ after)) (length before) None ≡ raw_sections before ++ None ∷ raw_sections after
  gone_at [] section after = refl
  gone_at (r ∷ before) section after = ap (λ (l : List (Option (SectionEntry V O))). Some (Raw r) ∷ l) (gone_at before section after)

module _ {V : Type 0} {O : V → Type 0} (G : (v : V) → Ghosts (O v)) (entry : SectionEntry V O) where
  mean_behind : (place : ℕ) (after : List RawCustomSection)
      → map (meaning G) (map (λ (e : ℕ × SectionEntry V O). e.1) (entries_from place (raw_sections after ++ Some entry ∷ []))) ≡ map raw_meaning after ++ meaning G entry ∷ []
  mean_behind place [] = refl
  mean_behind place (r ∷ after) = ap (λ (l : List Meaning). raw_meaning r ∷ l) (mean_behind (place + 1) after)

  mean_from : (place : ℕ) (before after : List RawCustomSection)
      → map (meaning G) (map (λ (e : ℕ × SectionEntry V O). e.1) (entries_from place (raw_sections before ++ None ∷ raw_sections after ++ Some entry ∷ []))) ≡ map raw_meaning before ++ map raw_meaning after ++ meaning G entry ∷ []
  mean_from place [] after = mean_behind (place + 1) after
  mean_from place (r ∷ before) after = ap (λ (l : List Meaning). raw_meaning r ∷ l) (mean_from (place + 1) before after)

  -- what the sections mean where one is gone and another stands behind
  pub mean_left : (before after : List RawCustomSection) → map (meaning G) (items (raw_sections before ++ None ∷ raw_sections after ++ Some entry ∷ [])) ≡ map raw_meaning before ++ map raw_meaning after ++ meaning G entry ∷ []
  mean_left before after = mean_from 0 before after
