-- The locals of a body that is written: as many flags as locals, and why there may be too many.
use Rattle.std.proofs.Common.{◌≡◌, ◌∙◌, ◌<◌, ◌^◌, ℕ, Bool, List, length, map, ap, sym, subst, arith, inr}
use Rattle.std.specs.Prelude.{Option, Some}
use Rattle.std.proofs.lemmas.List.{length-map}
use Rattle.walrus_base.specs.Id.{place}
use Rattle.walrus_base.specs.declared.id.Id.{Id}
use Rattle.walrus_base.specs.declared.keys.LocalKey.{LocalKey}
use Rattle.walrus_bodies.specs.declared.features.Features.{Features}
use Rattle.walrus_code.specs.Names.{Lookup}
use Rattle.walrus_items.specs.LocalFunction.{LocalFunction}
use Rattle.walrus_functions.specs.EmittedBody.{BodyWritten, HasTooManyLocals, is_used}
use Rattle.walrus_contents.specs.View.{parts_view}
use Rattle.walrus_contents.specs.declared.parts.Parts.{Parts}
use Rattle.walrus_writing.specs.Parts.{function_seen, source}
use Rattle.walrus_writing.specs.Refusals.{HasBody}

abbrev Local : Type 0
Local = Id LocalKey

module _ (p : Parts) (names : Lookup) (features : Features) where
  -- what is told of it
  pub as_told : (local : LocalFunction) (bytes places : List ℕ) (numbers : ℕ → Option ℕ) (order : List ℕ) (flags : List Bool) (ids : List Local) (used : List Bool) → (map place ids ≡ order) × (used ≡ flags) → BodyWritten (source p names features local) bytes places numbers order flags → BodyWritten (source p names features local) bytes places numbers (map place ids) used
  as_told local bytes places numbers order flags ids used told w =
      subst (λ (ns : List ℕ). BodyWritten (source p names features local) bytes places numbers ns used) (sym told.0) (subst (λ (us : List Bool). BodyWritten (source p names features local) bytes places numbers order us) (sym told.1) w)

  pub as_many : (local : LocalFunction) (bytes places : List ℕ) (numbers : ℕ → Option ℕ) (ids : List Local) (used : List Bool) → BodyWritten (source p names features local) bytes places numbers (map place ids) used → length used ≡ length ids
  as_many local bytes places numbers ids used w = ap length w.uses ∙ length-map (map place ids) (is_used (source p names features local)) ∙ length-map ids (λ (id : Local). place id)

  -- more locals than there are indices
  pub many_refused : (number : ℕ) (local : LocalFunction) → (parts_view p).functions number ≡ Some (function_seen p local)
      → (bytes places : List ℕ) (numbers : ℕ → Option ℕ) (ids : List Local) (used : List Bool) → BodyWritten (source p names features local) bytes places numbers (map place ids) used
      → 2 ^ 32 < length ids → HasBody p features HasTooManyLocals
  many_refused number local is bytes places numbers ids used w many =
      (names, (number, (local, (is, (w.order, (w.declared, inr (omega (arith, many, length-map ids (λ (id : Local). place id), ap length w.listed))))))))
