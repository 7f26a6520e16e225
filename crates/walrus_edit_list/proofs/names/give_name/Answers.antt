use Rattle.std.proofs.Common.{refl}
use Rattle.walrus_edit_list.proofs.names.give_name.Goals as goal

pub returns-in_ok-name_element-in-Element : goal.returns-in_ok-name_element-in-Element
returns-in_ok-name_element-in-Element g c = rw c.in-Element.is (c.in_ok-name_element-in-Element.ensures, refl)
