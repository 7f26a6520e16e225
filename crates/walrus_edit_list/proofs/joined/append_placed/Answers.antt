use Rattle.walrus_bodies.specs.Text.{first_local_of}
use Rattle.walrus_edit_list.specs.Joined.{index_from}
use Rattle.walrus_edit_list.proofs.Joining.{found_from}
use Rattle.walrus_edit_list.proofs.joined.append_placed.Goals as goal

pub returns-in-Ok : goal.returns-in-Ok
returns-in-Ok c = λ yes f. c.in-Ok.ensures (index_from (first_local_of c.args.text.now)) f (λ i low. found_from (first_local_of c.args.text.now) i)
