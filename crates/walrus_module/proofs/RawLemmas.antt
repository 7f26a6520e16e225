-- What is known of the first raw section of a name.
use Rattle.std.proofs.Common.{◌≡◌, ℕ, true, List, Option, Some, option_map, option_and_then, sym, ◌∙◌, ap, subst, refl}
use Rattle.std.proofs.lemmas.Option.{cond_some}
use Rattle.walrus_base.specs.Arena.{item_at, IsLive}
use Rattle.walrus_items.specs.declared.raw_section.RawCustomSection.{RawCustomSection}
use Rattle.walrus_module.specs.declared.entry.SectionEntry.{SectionEntry}
use Rattle.walrus_module.specs.declared.entry.SectionEntry.TheVariants.{Raw}
use Rattle.walrus_module.specs.Entry.{names_raw, raw_of}
use Rattle.walrus_module.specs.Raws.{first_raw}
use Rattle.walrus_base.proofs.SearchFound.{IsFound, is_found}

module _ {V : Type 0} {O : V → Type 0} (name : List ℕ) (ss : List (Option (SectionEntry V O))) (n : ℕ) (h : Some n ≡ option_map (λ e. e.0) (first_raw name ss)) where
  known : IsFound (λ (e : ℕ × SectionEntry V O). names_raw name e.1) ss n
  known = is_found (λ (e : ℕ × SectionEntry V O). names_raw name e.1) ss n h

  pub raw-live : IsLive ss n
  raw-live = rw known.item refl

  same : (y : SectionEntry V O) → item_at ss n ≡ Some y → known.entry.1 ≡ y
  same y at = (cond_some true known.entry.1 y (sym known.item ∙ at)).1

  -- what stands there is a raw section of the name
  pub raw-named : (y : SectionEntry V O) → item_at ss n ≡ Some y → names_raw name y ≡ true
  raw-named y at = let P : SectionEntry V O → Type 0 = λ z. names_raw name z ≡ true in subst P (same y at) known.passes

  -- and it is the one that was sought
  pub raw-found : (s : RawCustomSection) → item_at ss n ≡ Some (Raw s) → Some s ≡ option_and_then (λ e. raw_of e.1) (first_raw name ss)
  raw-found s at = sym (ap (λ (o : Option (ℕ × SectionEntry V O)). option_and_then (λ e. raw_of e.1) o) known.found ∙ ap (λ (y : SectionEntry V O). raw_of y) (same (Raw s) at))
