use Rattle.std.proofs.Common.{map, subst}
use Rattle.std.proofs.lemmas.Result.{err_from_is_err_and}
use Rattle.wasm_entries.specs.Record.{element_entry}
use Rattle.walrus_module.specs.View.{contents_of}
use Rattle.walrus_edit_list.specs.Elements.{AddsElement, RefusesElement}
use Rattle.walrus_edit_list.proofs.Turns.{begins, ends, goes_on, refused}
use Rattle.walrus_edit_list.proofs.elements.add_elements.Goals as goal

pub segments-init : goal.segments-init
segments-init g c = begins AddsElement RefusesElement (map element_entry c.args.raw.now) (contents_of c.args.module.now)

pub segments-preserved : goal.segments-preserved
segments-preserved g c =
    let entry = c.entry-item.result in
    goes_on AddsElement RefusesElement element_entry c.args.raw.now c.segments.entry-index entry (map element_entry c.args.raw.now) (contents_of c.segments.module) (contents_of c.args.module.now) (contents_of c.add_segment.new.module)
    c.segments-test.true c.segments.invariant (subst (λ x. AddsElement (element_entry x) (contents_of c.segments.module) (contents_of c.add_segment.new.module)) c.entry-item.is c.in_ok-add_segment.ensures)

pub returns-in_err-add_segment : goal.returns-in_err-add_segment
returns-in_err-add_segment g c =
    let p = err_from_is_err_and c.from_residual.result c.from_residual.ensures.1 in
    let entry = c.entry-item.result in
    rw (p.1, p.2)
    (refused AddsElement RefusesElement element_entry c.args.raw.now c.segments.entry-index entry (map element_entry c.args.raw.now) (contents_of c.segments.module) (contents_of c.args.module.now) c.in_err-add_segment.field-0.0 c.segments-test.true c.segments.invariant
    (subst (λ x. RefusesElement (element_entry x) (contents_of c.segments.module) c.in_err-add_segment.field-0.0) c.entry-item.is c.in_err-add_segment.ensures))

pub returns : goal.returns
returns g c =
    ends AddsElement RefusesElement element_entry c.args.raw.now c.segments.entry-index (map element_entry c.args.raw.now) (contents_of c.segments.module) (contents_of c.args.module.now) c.segments-test.false c.segments.invariant
