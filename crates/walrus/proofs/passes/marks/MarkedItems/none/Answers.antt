use Rattle.std.proofs.Common.{◌∙◌}
use Rattle.walrus_contents.specs.View.{lent}
use Rattle.walrus.proofs.Marking.{places_made}
use Rattle.walrus.proofs.passes.marks.MarkedItems.none.Goals as goal

pub returns-clause-places : goal.returns-clause-places
returns-clause-places c = places_made (lent c.args.parts) (record {
  types = c.in_ok-new.field-0;
  funcs = c.in_ok-new-2.field-0;
  tables = c.in_ok-new-3.field-0;
  memories = c.in_ok-new-4.field-0;
  tags = c.in_ok-new-5.field-0;
  globals = c.in_ok-new-6.field-0;
  elements = c.in_ok-new-7.field-0;
  data_ = c.in_ok-new-8.field-0;
})
    (c.in_ok-new.ensures.places ∙ c.index.ensures ∙ c.next_id.ensures)
    (c.in_ok-new-2.ensures.places ∙ c.index-2.ensures ∙ c.next_id-2.ensures)
    (c.in_ok-new-3.ensures.places ∙ c.index-3.ensures ∙ c.next_id-3.ensures)
    (c.in_ok-new-4.ensures.places ∙ c.index-4.ensures ∙ c.next_id-4.ensures)
    (c.in_ok-new-5.ensures.places ∙ c.index-5.ensures ∙ c.next_id-5.ensures)
    (c.in_ok-new-6.ensures.places ∙ c.index-6.ensures ∙ c.next_id-6.ensures)
    (c.in_ok-new-7.ensures.places ∙ c.index-7.ensures ∙ c.next_id-7.ensures)
    (c.in_ok-new-8.ensures.places ∙ c.index-8.ensures ∙ c.next_id-8.ensures)
