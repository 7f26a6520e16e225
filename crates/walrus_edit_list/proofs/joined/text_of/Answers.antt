use Rattle.walrus_bodies.specs.Text.{first_local_of}
use Rattle.walrus_edit_list.proofs.Joining.{text_found}
use Rattle.walrus_edit_list.proofs.joined.text_of.Goals as goal

pub returns : goal.returns
returns c = text_found _ _ (first_local_of c.args.text.now) _ c.first_local.ensures c.args.bytes.now _ c.find.ensures
