use Rattle.walrus_sections.proofs.Fronts.{version_decided}
use Rattle.walrus_sections.proofs.beginnings.has_version.Goals as goal

pub returns-then-bytes : goal.returns-then-bytes
returns-then-bytes c = version_decided c.begins.result c.args.bytes.now c.if-bytes.true c.begins.ensures
