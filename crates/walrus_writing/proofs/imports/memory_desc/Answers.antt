use Rattle.std.proofs.Common.{ap}
use Rattle.walrus_contents.specs.View.{memory_of}
use Rattle.walrus_items.specs.Memories.{memory_value}
use Rattle.walrus_model.specs.Sections as said
use Rattle.walrus_writing.proofs.ImportedThings.{memory_described}
use Rattle.walrus_writing.proofs.imports.memory_desc.Goals as goal

pub returns : goal.returns
returns c = λ names. memory_described names (memory_of (memory_value c.args.memory.now)) c.raw_memory.result (ap said.memory_type_of c.raw_memory.ensures.value) c.raw_memory.ensures.stands
