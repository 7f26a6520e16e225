use Rattle.walrus_items.proofs.ItemLemmas.{is_item-same, same-is_item}
use Rattle.walrus_items.proofs.equality.items_are_told_apart.Goals as goal

pub returns : goal.returns
returns c = λ x y. (is_item-same x y, same-is_item x y)
