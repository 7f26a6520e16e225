-- Producers that come and go (tool-conventions, "Producers Section").
use Rattle.std.specs.Prelude.{Bool, true, false, ◌||◌, ℕ, List, [], codes, bytes_eq, ◌≡◌, ⊤}
use Rattle.walrus_contents.specs.declared.parts.Contents.{Contents}
use Rattle.walrus_items.specs.declared.error.Error.{Error}
use Rattle.walrus_items.specs.declared.error.Error.TheVariants.{InvalidWasm, Memory}
use Rattle.walrus_producers.specs.Producers.{with_field}
use Rattle.walrus_producers.specs.Seen.{producers}
use Rattle.walrus_producers.specs.declared.producers.ModuleProducers.{ModuleProducers}

-- the fields of the producers section
abbrev pub is_field : List ℕ → Bool
is_field field = bytes_eq field (codes "language") || (bytes_eq field (codes "processed-by") || bytes_eq field (codes "sdk"))

-- a producer of this name and version stands in this field, in the place of the first one of its name there, or last
abbrev pub PutsProducer : (field name version : List ℕ) → (old new : ModuleProducers) → Type 0
PutsProducer field name version old new =
    (is_field field ≡ true) × (producers new ≡ with_field field (record { name = name; version = version }) (producers old))

-- the same, and nothing else changed
abbrev pub AddsProducer : (field name version : List ℕ) → (old new : Contents) → Type 0
AddsProducer field name version old new =
    PutsProducer field name version old.producers new.producers × (new ≡ record old { producers = new.producers })

-- there is no such field
abbrev pub RefusesProducer : (field : List ℕ) → Error → Type 0
RefusesProducer field (Memory e) = ⊤
RefusesProducer field (InvalidWasm kind) = is_field field ≡ false
RefusesProducer field _ = ⊥

-- no producers are left
abbrev pub ClearsProducers : (old new : Contents) → Type 0
ClearsProducers old new = (producers new.producers ≡ []) × (new ≡ record old { producers = new.producers })
