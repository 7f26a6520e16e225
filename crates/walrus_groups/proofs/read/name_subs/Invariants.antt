use Rattle.std.proofs.Common.{◌≡◌, map, drop}
use Rattle.wasm_entries.specs.Record.{sub}
use Rattle.walrus_base.specs.Composite.{new_sub}
use Rattle.walrus_code.specs.Indices.{ids_at}
use Rattle.walrus_groups.specs.Groups.{sub_of}
use Rattle.walrus_groups.specs.Named.{each}
use Rattle.walrus_groups.specs.Reading.{read_sub}
use Rattle.walrus_groups.proofs.Each.{behind}
use Rattle.walrus_groups.proofs.read.name_subs.Given as goal

-- what was found so far and what is left are what is found for all
abbrev pub invariant-loop-member : goal.invariant-loop-member
invariant-loop-member l = behind (map new_sub l.members.items) (each (read_sub (ids_at l.indices)) (map sub_of (map sub (drop l.member-index l.raw)))) ≡ each (read_sub (ids_at l.indices)) (map sub_of (map sub l.raw))
