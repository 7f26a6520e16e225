use Rattle.std.proofs.Common.{◌<◌, rules}
use Rattle.walrus_base.specs.Arena.{items}
use Rattle.walrus_base.specs.ModuleTypes.{type_slots}
use Rattle.walrus_code.specs.Indices.{index_of}
use Rattle.walrus_writing.proofs.AppendedTypes.{typed}
use Rattle.walrus_writing.proofs.one_section.write_types.Goals as goal

pub returns : goal.returns
returns c =
    let few : c.in_ok-count.count < 4294967296 = search rules in
    typed (index_of c.args.indices.now) (items (type_slots c.args.types.now)) c.in_ok-count.count c.new-row.result.items c.append_types.new.to.items c.as_slice.result.now _ _ c.new-row.ensures.items few c.in_ok-count.ensures c.as_slice.ensures.value c.in_ok-write_listed.ensures
