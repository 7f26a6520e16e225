use Rattle.std.proofs.Common.{◌≡◌, ◌++◌, drop, map}
use Rattle.wasm_payloads.specs.Lent.{entry}
use Rattle.walrus_base.specs.Arena.{entries, entries_from}
use Rattle.walrus_base.specs.Id.{place}
use Rattle.walrus_writing.proofs.names.names_along.Given as goal

-- the names so far, and those that are still to come
abbrev pub invariant-names : goal.invariant-names
invariant-names g l = record {
  counted : l.index ≡ l.id-index;
  named : map entry l.raw.items ++ entries_from l.id-index (map (λ id. g.C.Named.own_name l.all (place id)) (drop l.id-index l.order))
      ≡ entries (map (λ id. g.C.Named.own_name l.all (place id)) l.order);
}
