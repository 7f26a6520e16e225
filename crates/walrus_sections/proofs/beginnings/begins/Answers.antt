use Rattle.walrus_sections.proofs.Fronts.{begins_decided}
use Rattle.walrus_sections.proofs.beginnings.begins.Goals as goal

pub returns : goal.returns
returns c = begins_decided c.starts_with.result c.args.bytes.now c.args.front.now c.starts_with.ensures.value
