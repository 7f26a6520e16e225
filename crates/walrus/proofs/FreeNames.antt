-- A name that isn't kept apart is none of the format's own.
use Rattle.std.proofs.Common.{◌≡◌, ℕ, false, List}
use Rattle.std.proofs.lemmas.Bool.{or_parts as or_left}
use Rattle.std.specs.Prelude.{codes, ◌≢◌, ◌||◌, bytes_eq}
use Rattle.walrus_model.specs.Customs.{is_debug_name}
use Rattle.walrus_model.specs.Sections.{is_apart}
use Rattle.walrus_model.proofs.Looked.{differs}

module _ (name : List ℕ) (free : is_apart name ≡ false) where
  abbrev parts : (bytes_eq name (codes "name") ≡ false) × ((bytes_eq name (codes "producers") || is_debug_name name) ≡ false)
  parts = or_left (bytes_eq name (codes "name")) (bytes_eq name (codes "producers") || is_debug_name name) free

  pub no_debug : is_debug_name name ≡ false
  no_debug = (or_left (bytes_eq name (codes "producers")) (is_debug_name name) parts.1).1

  pub own_name : (name ≢ codes "name") × (name ≢ codes "producers")
  own_name = (differs name (codes "name") parts.0, differs name (codes "producers") (or_left (bytes_eq name (codes "producers")) (is_debug_name name) parts.1).0)
