use Rattle.std.proofs.Common.{◌≡◌, ◌++◌, drop, map}
use Rattle.wasm_payloads.specs.Lent.{entry}
use Rattle.walrus_base.specs.Arena.{entries_from}
use Rattle.walrus_base.specs.Id.{place}
use Rattle.walrus_base.specs.Locals.{locals}
use Rattle.walrus_writing.specs.Names.{local_names, used_among, used_listed}
use Rattle.walrus_writing.proofs.locals.named_locals.Given as goal

-- the names so far, and those that are still to come
abbrev pub invariant-locals : goal.invariant-locals
invariant-locals l = record {
  counted : l.index ≡ l.id-index;
  named : map entry l.raw.items ++ local_names (locals l.all) (entries_from l.id-index (used_among (map place (drop l.id-index l.order)) (drop l.id-index l.used)))
      ≡ local_names (locals l.all) (used_listed (map place l.order) l.used);
}
