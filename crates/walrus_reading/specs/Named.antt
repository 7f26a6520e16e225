-- What sections hold, with the names that they give: for the functions inside. What is promised of these names stands in `IsParsed`.
use Rattle.std.specs.Prelude.{ℕ, Bool, List, length, zip, Result, Ok, Err, ◌≡◌}
use Rattle.std.specs.List.{AllZip}
use Rattle.wasm_frames.specs.Record as wire
use Rattle.walrus_bodies.specs.declared.features.Features.{Features}
use Rattle.walrus_groups.specs.Groups.{types_from}
use Rattle.walrus_model.specs.Reads.{ReadsBodyWith}
use Rattle.walrus_model.specs.Sections.{Said}
use Rattle.walrus_contents.specs.declared.parts.Contents.{Contents}
use Rattle.walrus_reading.specs.Shown.{shown}
use Rattle.walrus_reading.specs.Synthetic.{AreNamed}
use Rattle.walrus_reading.specs.TakenNames.{Bounds}
use Rattle.walrus_items.specs.declared.error.Error.{Error}
use Rattle.walrus_items.specs.declared.error.Error.TheVariants.{Memory, InvalidWasm}
use Rattle.walrus_reading.specs.Taken.{HasTakenWith}

-- so many types were read, and the locals of each function begin there
pub record AreBounds (r : wire.Module) (starts : List ℕ) (b : Bounds) : Type 0 where
  pub types : b.types ≡ length (types_from 0 r.types)
  pub starts_are : b.starts ≡ starts

-- Some contents without names have taken the sections, and these are they with the names that the sections give, and where names are to be given
-- those that are given to what has none.
pub record HasNames (features : Features) (synthetic : Bool) (r : wire.Module) (m : Contents) : Type 0 where
  pub before : Contents
  pub starts : List ℕ
  pub taken : HasTakenWith features r before starts
  pub bounds : Bounds
  pub are_bounds : AreBounds r starts bounds
  pub asked : bounds.synthetic ≡ synthetic
  pub named : AreNamed bounds r.customs (shown before) (shown m)

-- what is answered, without the count beside it
abbrev pub first_told : {A B : Type 0} → Result (A × B) Error → Result A Error
first_told (Ok x) = Ok x.0
first_told (Err e) = Err e

-- taken in with names; refused: the bodies aren't read, or memory ran out
abbrev pub TakesNamed : Features → Bool → wire.Module → Result Contents Error → Type 0
TakesNamed features synthetic r (Ok m) = HasNames features synthetic r m
TakesNamed features synthetic r (Err (Memory e)) = Unit {0}
TakesNamed features synthetic r (Err (InvalidWasm kind)) = (bodies : List Said) → AllZip (ReadsBodyWith features r) (zip r.functions r.bodies) bodies → ⊥
TakesNamed features synthetic r (Err _) = ⊥
