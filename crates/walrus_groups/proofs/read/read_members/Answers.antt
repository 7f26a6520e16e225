use Rattle.std.proofs.Common.{List, [], ◌∷◌, map, sym, subst}
use Rattle.wasm_entries.specs.Record.{sub}
use Rattle.wasm_entries.specs.declared.record.RawSub.{RawSub}
use Rattle.walrus_base.specs.ModuleTypes.{type_slots}
use Rattle.walrus_groups.specs.Groups.{ReadsTypes}
use Rattle.walrus_groups.proofs.GroupLemmas.{one-alone}
use Rattle.walrus_groups.proofs.read.read_members.Goals as goal

pub returns-in-len1-clause-read : goal.returns-in-len1-clause-read
returns-in-len1-clause-read c =
    subst (λ (raws : List RawSub). ReadsTypes (map sub raws ∷ []) (type_slots c.args.types.now) (type_slots c.read_alone.new.types) c.read_alone.result)
    (sym (one-alone c.args.raw.now c.only-item.result c.in-len1.len_at_least c.in-len1.len_below c.only-item.is)) c.read_alone.ensures.read
