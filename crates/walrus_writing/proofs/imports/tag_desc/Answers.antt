use Rattle.walrus_code.specs.Indices.{index_of}
use Rattle.walrus_contents.specs.View.{tag_of}
use Rattle.walrus_items.specs.Tags.{tag_value}
use Rattle.walrus_writing.proofs.ImportedThings.{tag_described}
use Rattle.walrus_writing.proofs.imports.tag_desc.Goals as goal

pub returns : goal.returns
returns c = tag_described (index_of c.args.indices.now) (tag_of (tag_value c.args.tag.now)) c.in-Some.index c.in-Some.ensures.same c.in-Some.ensures.stands
