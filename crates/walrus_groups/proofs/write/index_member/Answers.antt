use Rattle.walrus_base.specs.Id.{place}
use Rattle.walrus_base.specs.ModuleTypes.{type_slots}
use Rattle.walrus_base.specs.TypeDef.{type_def}
use Rattle.walrus_code.specs.Indices.{index_of}
use Rattle.walrus_groups.proofs.WrittenCauses.{member_written}
use Rattle.walrus_groups.proofs.write.index_member.Goals as goal

pub returns : goal.returns
returns c = record { indexed = member_written (index_of c.args.indices.now) (type_slots c.args.types.now) (place c.args.id) (type_def c.get.result.now) c.index_sub.result c.get.ensures.value c.index_sub.ensures.indexed c.index_sub.ensures.spelled }
