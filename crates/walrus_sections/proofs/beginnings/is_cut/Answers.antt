use Rattle.std.proofs.Common.{sym, ◌∙◌}
use Rattle.walrus_sections.proofs.Fronts.{cut_decided}
use Rattle.walrus_sections.proofs.beginnings.is_cut.Goals as goal

pub returns-then-bytes : goal.returns-then-bytes
returns-then-bytes c = cut_decided c.begins.result c.args.bytes.now (sym c.is_empty.ensures ∙ c.if-not-is_empty.true) c.if-bytes.true c.begins.ensures
