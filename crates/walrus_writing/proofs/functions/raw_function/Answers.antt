use Rattle.std.proofs.Common.{◌∙◌}
use Rattle.walrus_base.specs.Id.{place}
use Rattle.walrus_code.specs.Indices.{index_of}
use Rattle.walrus_writing.proofs.Indexed.{index_seen}
use Rattle.walrus_writing.proofs.functions.raw_function.Goals as goal

pub returns : goal.returns
returns c = c.index_of_type.ensures ∙ index_seen c.args.parts (index_of c.args.indices.now) (place c.args.id)
