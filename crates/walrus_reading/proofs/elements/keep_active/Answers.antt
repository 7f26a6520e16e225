use Rattle.std.proofs.Common.{◌≡◌, ◌⊎◌, ℕ, false, inl, inr, ap}
use Rattle.walrus_base.specs.Id.{place}
use Rattle.walrus_contents.specs.View.{element_kind_of}
use Rattle.walrus_items.specs.Tables.{tables}
use Rattle.walrus_model.specs.Sections.{is_on_table}
use Rattle.walrus_items.specs.declared.segments.ElementKind.TheVariants.{Declared, Passive}
use Rattle.walrus_items.specs.declared.segments.ElementKind.{ElementKind}
use Rattle.walrus_reading.proofs.KeptSegments.{inactive_kept}
use Rattle.walrus_reading.proofs.elements.keep_active.Goals as goal

-- passive and declared elements are on no table
on_none : (kind : ElementKind) → (kind ≡ Passive) ⊎ (kind ≡ Declared) → (t : ℕ) → is_on_table t (element_kind_of kind) ≡ false
on_none kind (inl is) t = ap (λ (k : ElementKind). is_on_table t (element_kind_of k)) is
on_none kind (inr is) t = ap (λ (k : ElementKind). is_on_table t (element_kind_of k)) is

pub returns-in-Passive-clause-kept : goal.returns-in-Passive-clause-kept
returns-in-Passive-clause-kept c = inactive_kept (element_kind_of c.args.kind.now) (on_none c.args.kind.now c.in-Passive.is) (place c.args.segment) 0 (tables c.args.all.now)
