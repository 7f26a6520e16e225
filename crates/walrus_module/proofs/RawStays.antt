-- A module whose custom sections are all raw ones: emission leaves them, and none refuses.
use Rattle.std.proofs.Common.{◌≡◌, ℕ, zero, suc, List, [], ◌∷◌, sym, subst, ⊎_elim}
use Rattle.std.specs.Prelude.{Result, Ok, Err}
use Rattle.walrus_base.specs.Arena.{item_at}
use Rattle.walrus_items.specs.declared.custom.CustomSection.{Ghosts}
use Rattle.walrus_items.specs.declared.raw_section.RawCustomSection.{RawCustomSection}
use Rattle.walrus_theorem.specs.Refused.{Refusal, Memory, DeadItem, NoIndex, TwoIndices, TooLarge, NotWritable, Caller, Another}
use Rattle.walrus_module.specs.Answered.{WritesUnless}
use Rattle.walrus_module.specs.Asked.{OneAskedMayRefuse}
use Rattle.walrus_module.specs.Customs.{sections}
use Rattle.walrus_module.specs.Following.{AreRaw, IsRaw, OneMayRefuseThen}
use Rattle.walrus_module.specs.Left.{LeavesBy, but_customs}
use Rattle.walrus_module.specs.Raws.{raw_sections}
use Rattle.walrus_module.specs.View.{meanings, meant, view}
use Rattle.walrus_module.specs.declared.customs.ModuleCustomSections.{ModuleCustomSections}
use Rattle.walrus_module.specs.declared.entry.SectionEntry.{SectionEntry}
use Rattle.walrus_module.specs.declared.module.Module.{Module}

pub each_raw : (V : Type 0) (O : V → Type 0) (raws : List RawCustomSection) (i : ℕ) → IsRaw {V = V} {O = O} (item_at (raw_sections raws) i)
each_raw V O [] i = tt
each_raw V O (r ∷ raws) zero = tt
each_raw V O (r ∷ raws) (suc i) = each_raw V O raws i

module _ {V : Type 0} {O : V → Type 0} where
  pub all_raw : (customs : ModuleCustomSections (SectionEntry V O)) (raws : List RawCustomSection) → sections customs ≡ raw_sections raws → AreRaw (sections customs)
  all_raw customs raws are = λ i. subst (λ slots. IsRaw (item_at slots i)) (sym are) (each_raw V O raws i)

module _ {V : Type 0} {O : V → Type 0} (G : (v : V) → Ghosts (O v)) (old new : Module (SectionEntry V O)) (same : new.customs ≡ old.customs) where
  pub leaves_whole : {X : Type 0} (r : Result X Refusal) → LeavesBy (view G old) (view G (but_customs old new)) r → LeavesBy (view G old) (view G new) r
  leaves_whole r h = subst (λ customs. LeavesBy (view G old) (view G (record new { customs = customs })) r) (sym same) h

  pub none_refuses_then : (OneAskedMayRefuse (meanings G old) → ⊥) → OneMayRefuseThen G old.customs new.customs → ⊥
  none_refuses_then none h = ⊎_elim none (λ late. none (subst (λ customs. OneAskedMayRefuse (meant G customs)) same late)) h

  pub plain_well : {X : Type 0} (Large : Type 0) (P : X → Type 0) (r : Result X Refusal) → WritesUnless Large (OneMayRefuseThen G old.customs new.customs) P r → WritesUnless Large (OneAskedMayRefuse (meanings G old)) P r
  plain_well Large P (Ok x) h = h
  plain_well Large P (Err Memory) h = h
  plain_well Large P (Err TooLarge) h = h
  plain_well Large P (Err Caller) h = ⊎_elim (λ asked. asked) (λ late. subst (λ customs. OneAskedMayRefuse (meant G customs)) same late) h
  plain_well Large P (Err DeadItem) h = h
  plain_well Large P (Err NoIndex) h = h
  plain_well Large P (Err TwoIndices) h = h
  plain_well Large P (Err NotWritable) h = h
  plain_well Large P (Err Another) h = h
