-- The bodies that are written, their bytes and their used locals, over places.
use Rattle.std.proofs.Common.{◌≡◌, ℕ, List, [], ◌∷◌, map, refl, ap₂}
use Rattle.std.specs.List.{AllZip}
use Rattle.walrus_base.specs.Id.{place}
use Rattle.walrus_base.specs.declared.id.Id.{Id}
use Rattle.walrus_base.specs.declared.keys.FunctionKey.{FunctionKey}
use Rattle.walrus_bodies.specs.declared.features.Features.{Features}
use Rattle.walrus_code.specs.Names.{Lookup}
use Rattle.walrus_contents.specs.declared.parts.Parts.{Parts}
use Rattle.walrus_writing.specs.Parts.{BodySeen, HasBytes, IsWrittenBody}
use Rattle.walrus_writing.specs.Records.{used_in}

abbrev bytes_of : BodySeen → List ℕ
bytes_of b = b.bytes

abbrev used_of : BodySeen → List (ℕ × ℕ)
used_of b = b.used

module _ (p : Parts) (names : Lookup) (features : Features) where
  abbrev Written : Id FunctionKey → BodySeen → Type 0
  Written id b = IsWrittenBody p names features (place id) b

  pub bytes_zip : (ids : List (Id FunctionKey)) (bodies : List BodySeen) → AllZip Written ids bodies → AllZip (HasBytes p names features) (map place ids) (map bytes_of bodies)
  bytes_zip [] [] h = tt
  bytes_zip [] (b ∷ bs) h = elim h [ ]
  bytes_zip (i ∷ is) [] h = elim h [ ]
  bytes_zip (i ∷ is) (b ∷ bs) h = (h.0.0, bytes_zip is bs h.1)

  -- the used locals are those of the bytes
  pub used_zip : (ids : List (Id FunctionKey)) (bodies : List BodySeen) (h : AllZip Written ids bodies) → map used_of bodies ≡ used_in p names features (map place ids) (map bytes_of bodies) (bytes_zip ids bodies h)
  unfolding bytes_zip
  used_zip [] [] h = refl
  used_zip [] (b ∷ bs) h = elim h [ ]
  used_zip (i ∷ is) [] h = elim h [ ]
  used_zip (i ∷ is) (b ∷ bs) h = ap₂ ◌∷◌ h.0.1 (used_zip is bs h.1)
