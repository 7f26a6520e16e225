-- Sections that are kept as they were read: what they mean, and what a module with them is.
use Rattle.std.proofs.Common.{◌≡◌, ℕ, ◌+◌, Bool, true, false, List, [], ◌∷◌, map, flat_map, filter, refl, sym, ap, subst, ◌∙◌}
use Rattle.std.specs.List.{AllByRecursion}
use Rattle.walrus_base.specs.Arena.{entries_from, items}
use Rattle.walrus_base.specs.Operators.{Item}
use Rattle.walrus_model.specs.Abstract.{Custom}
use Rattle.walrus_model.specs.Sections as sections
use Rattle.walrus_items.specs.declared.custom.CustomSection.{Ghosts}
use Rattle.walrus_items.specs.declared.raw_section.RawCustomSection.{RawCustomSection}
use Rattle.walrus_contents.specs.View.{contents_view}
use Rattle.walrus_contents.specs.declared.parts.Contents.{Contents}
use Rattle.walrus_reading.specs.Customs.{section_seen}
use Rattle.walrus_reading.specs.Parsed.{read_view}
use Rattle.walrus_reading.specs.declared.module.ReadModule.{ReadModule}
use Rattle.walrus_model.proofs.Parsing.{each_in}
use Rattle.walrus_theorem.proofs.SameItems.{with_own}
use Rattle.walrus_module.specs.Asked.{OneAskedMayRefuse, OneMayRefuse}
use Rattle.walrus_module.specs.Customs as customs
use Rattle.walrus_module.specs.Meaning.{Meaning, meaning, raw_meaning}
use Rattle.walrus_module.specs.Raws.{raw_sections}
use Rattle.walrus_module.specs.View.{can_be_kept, contents_of, custom_of, kept_by, meanings, view}
use Rattle.walrus_module.specs.declared.entry.SectionEntry.{SectionEntry}
use Rattle.walrus_module.specs.declared.module.Module.{Module}

-- they say what was read
raw_said : (raws : List RawCustomSection) → map custom_of (map raw_meaning raws) ≡ map sections.custom_of (map section_seen raws)
raw_said [] = refl
raw_said (r ∷ raws) = ap (λ (l : List Custom). custom_of (raw_meaning r) ∷ l) (raw_said raws)

-- and ask to keep nothing
raw_asks : (raws : List RawCustomSection) → ◌≡◌ {A = List Item} (flat_map (λ (s : Meaning). s.roots) (map raw_meaning raws)) []
raw_asks [] = refl
raw_asks (r ∷ raws) = raw_asks raws

-- and refuse nothing
raw_answers : (raws : List RawCustomSection) → AllByRecursion (λ (s : Meaning). s.may_refuse ≡ false) (map raw_meaning raws)
raw_answers [] = tt
raw_answers (r ∷ raws) = (refl, raw_answers raws)

not_both : (b : Bool) → b ≡ false → b ≡ true → ⊥
not_both b p q = let no_such : false ≡ true = sym p ∙ q in cc

module _ {V : Type 0} {O : V → Type 0} (G : (v : V) → Ghosts (O v)) where
  pub mean_from : (place : ℕ) (raws : List RawCustomSection) → map (meaning G) (map (λ (e : ℕ × SectionEntry V O). e.1) (entries_from place (raw_sections raws))) ≡ map raw_meaning raws
  mean_from place [] = refl
  mean_from place (r ∷ raws) = ap (λ (l : List Meaning). raw_meaning r ∷ l) (mean_from (place + 1) raws)

  pub raw_means : (raws : List RawCustomSection) → map (meaning G) (items (raw_sections raws)) ≡ map raw_meaning raws
  raw_means raws = mean_from 0 raws

  -- the module that holds what was read, with the custom sections that are kept of it
  pub raw_view : (found : ReadModule) (m : Module (SectionEntry V O)) → contents_of m ≡ found.contents → customs.sections m.customs ≡ raw_sections found.customs.items → view G m ≡ read_view found
  raw_view found m holds are =
      let raws : List RawCustomSection = found.customs.items in
      let means : map (meaning G) (items (customs.sections m.customs)) ≡ map raw_meaning raws = ap (λ ss. map (meaning G) (items ss)) are ∙ raw_means raws in
      ap (λ (x : Contents). with_own (contents_view x) (view G m).customs (view G m).section_roots) holds
      ∙ ap (λ (ss : List Meaning). with_own (contents_view found.contents) (map custom_of ss) (kept_by ss)) means
      ∙ ap (λ (l : List Custom). with_own (contents_view found.contents) l (kept_by (map raw_meaning raws))) (raw_said raws)
      ∙ ap (λ (l : List Item). with_own (contents_view found.contents) (map sections.custom_of (map section_seen raws)) (filter (λ (x : Item). can_be_kept x.0) l)) (raw_asks raws)

  -- a module that holds such sections alone has none that may refuse
  pub none_refuses : (m : Module (SectionEntry V O)) (raws : List RawCustomSection) → customs.sections m.customs ≡ raw_sections raws → OneMayRefuse (meanings G m) → ⊥
  none_refuses m raws are one =
      let means : meanings G m ≡ map raw_meaning raws = ap (λ ss. map (meaning G) (items ss)) are ∙ raw_means raws in
      let raw : OneMayRefuse (map raw_meaning raws) = subst OneMayRefuse means one in
      not_both raw.0.may_refuse (each_in (λ (s : Meaning). s.may_refuse ≡ false) (map raw_meaning raws) raw.0 (raw_answers raws) raw.1) raw.2

  pub none_asked_refuses : (m : Module (SectionEntry V O)) (raws : List RawCustomSection) → customs.sections m.customs ≡ raw_sections raws → OneAskedMayRefuse (meanings G m) → ⊥
  none_asked_refuses m raws are one = none_refuses m raws are (one.0, one.1, one.3)
