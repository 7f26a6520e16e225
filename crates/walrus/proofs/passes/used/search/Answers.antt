use Rattle.std.proofs.Common.{[], sym, subst}
use Rattle.walrus.specs.Asked.{asked_items, searched_view}
use Rattle.walrus.specs.MarkedItems.{HavePlaces}
use Rattle.walrus.specs.declared.passes.marks.MarkedItems.{MarkedItems}
use Rattle.walrus_contents.specs.View.{parts_view}
use Rattle.walrus.proofs.SameSearch.{places_back, spare_on}
use Rattle.walrus.proofs.Spare.{finds_spare}
use Rattle.walrus.proofs.passes.used.search.Goals as goal

pub mark_spare_memory-requires : goal.mark_spare_memory-requires
mark_spare_memory-requires c =
    let v = parts_view c.args.searched.parts in
    let given = c.marks_and_count-marks in
    subst (λ (marks : MarkedItems). HavePlaces v marks) (sym given.ensures.marks) (places_back v [] (asked_items c.args.searched.asked.now) c.in_ok-reached.field-0.marks c.in_ok-reached.ensures.places)

pub returns : goal.returns
returns c =
    let given = c.marks_and_count-marks in
    finds_spare (searched_view c.args.searched) given.result.0 c.mark_spare_memory.new.marks given.result.1 (rw (given.ensures.marks, given.ensures.count) c.in_ok-reached.ensures)
    (spare_on (parts_view c.args.searched.parts) [] (asked_items c.args.searched.asked.now) given.result.0 c.mark_spare_memory.new.marks c.mark_spare_memory.ensures)
