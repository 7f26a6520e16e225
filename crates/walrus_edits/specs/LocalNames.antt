-- The names of locals that sections called `name` give (Appendix > Custom Sections > Name Section).
use Rattle.std.specs.Prelude.{ℕ, ◌+◌, ◌++◌, Bool, List, bytes_eq, codes, filter, flat_map, map, nat_lt, string_bytes, ◌≡◌}
use Rattle.std.specs.List.{AllZip}
use Rattle.walrus.specs.Frames.Record as wire
use Rattle.wasm_payloads.specs.Names.{Named, Names}
use Rattle.walrus_edits.specs.ItemRecords.{Told, ALocalName}
use Rattle.walrus_edits.specs.ItemValues.{local_named}
use Rattle.walrus_edits.specs.declared.local_names.Functions.{Functions}
use Rattle.walrus_edits.specs.declared.local_names.NameOfLocal.{NameOfLocal}

abbrev pub local_told : NameOfLocal → Told
local_told n = ALocalName n.function n.local (string_bytes n.name)

-- the functions with an index below the count of all
abbrev pub are_known : Functions → ℕ → Bool
are_known fs = λ f. nat_lt f (fs.imported + fs.defined)

-- the payloads of those of these sections that are called `name`
abbrev pub name_payloads : List wire.Custom → List (List ℕ)
name_payloads customs = map (λ (c : wire.Custom). c.bytes) (filter (λ (c : wire.Custom). bytes_eq c.name (codes "name")) customs)

-- where these functions are known, the sections give these names of locals, in their order
pub record AreLocalNames (known : ℕ → Bool) (customs : List wire.Custom) (told : List Told) : Type 0 where
  pub namings : List (List Named)
  pub read : AllZip (Names known) (name_payloads customs) namings
  pub are : told ≡ flat_map local_named (flat_map (λ ns. ns) namings)

-- where these functions are known, the payload of a section says these names of locals behind those that were there
abbrev pub SaysLocals : (known : ℕ → Bool) (bytes : List ℕ) (old new : List Told) → Type 0
SaysLocals known bytes old new = (names : List Named) × Names known bytes names × (new ≡ old ++ flat_map local_named names)
