use Rattle.std.proofs.Common.{ap, ◌∙◌}
use Rattle.std.specs.List.{range_with_len}
use Rattle.std.proofs.lemmas.Result.{err_from_is_err_and}
use Rattle.walrus_base.specs.Operators.{Types, Functions, Tables, Memories, Tags, Globals, Elements, DataSegments}
use Rattle.walrus_code.specs.declared.indices.IndicesToIds.{IndicesToIds}
use Rattle.walrus_module.specs.View.{contents_of}
use Rattle.walrus_edit_list.proofs.Numbered.{numbered, too_many}
use Rattle.walrus_edit_list.proofs.ids.ids_of.Goals as goal

pub returns-in_err-first_ids : goal.returns-in_err-first_ids
returns-in_err-first_ids g c =
    let p = err_from_is_err_and c.from_residual.result c.from_residual.ensures.1 in
    rw (p.1, p.2) (too_many (contents_of c.args.module.now) Types _ _ (c.index.ensures ∙ c.next_id.ensures) c.in_err-first_ids.ensures)

pub returns-in_err-first_ids-2 : goal.returns-in_err-first_ids-2
returns-in_err-first_ids-2 g c =
    let p = err_from_is_err_and c.from_residual-in_err-first_ids-2.result c.from_residual-in_err-first_ids-2.ensures.1 in
    rw (p.1, p.2) (too_many (contents_of c.args.module.now) Functions _ _ (c.index-2.ensures ∙ c.next_id-2.ensures) c.in_err-first_ids-2.ensures)

pub returns-in_err-first_ids-3 : goal.returns-in_err-first_ids-3
returns-in_err-first_ids-3 g c =
    let p = err_from_is_err_and c.from_residual-in_err-first_ids-3.result c.from_residual-in_err-first_ids-3.ensures.1 in
    rw (p.1, p.2) (too_many (contents_of c.args.module.now) Tables _ _ (c.index-3.ensures ∙ c.next_id-3.ensures) c.in_err-first_ids-3.ensures)

pub returns-in_err-first_ids-4 : goal.returns-in_err-first_ids-4
returns-in_err-first_ids-4 g c =
    let p = err_from_is_err_and c.from_residual-in_err-first_ids-4.result c.from_residual-in_err-first_ids-4.ensures.1 in
    rw (p.1, p.2) (too_many (contents_of c.args.module.now) Memories _ _ (c.index-4.ensures ∙ c.next_id-4.ensures) c.in_err-first_ids-4.ensures)

pub returns-in_err-first_ids-5 : goal.returns-in_err-first_ids-5
returns-in_err-first_ids-5 g c =
    let p = err_from_is_err_and c.from_residual-in_err-first_ids-5.result c.from_residual-in_err-first_ids-5.ensures.1 in
    rw (p.1, p.2) (too_many (contents_of c.args.module.now) Tags _ _ (c.index-5.ensures ∙ c.next_id-5.ensures) c.in_err-first_ids-5.ensures)

pub returns-in_err-first_ids-6 : goal.returns-in_err-first_ids-6
returns-in_err-first_ids-6 g c =
    let p = err_from_is_err_and c.from_residual-in_err-first_ids-6.result c.from_residual-in_err-first_ids-6.ensures.1 in
    rw (p.1, p.2) (too_many (contents_of c.args.module.now) Globals _ _ (c.index-6.ensures ∙ c.next_id-6.ensures) c.in_err-first_ids-6.ensures)

pub returns-in_err-first_ids-7 : goal.returns-in_err-first_ids-7
returns-in_err-first_ids-7 g c =
    let p = err_from_is_err_and c.from_residual-in_err-first_ids-7.result c.from_residual-in_err-first_ids-7.ensures.1 in
    rw (p.1, p.2) (too_many (contents_of c.args.module.now) Elements _ _ (c.index-7.ensures ∙ c.next_id-7.ensures) c.in_err-first_ids-7.ensures)

pub returns-in_err-first_ids-8 : goal.returns-in_err-first_ids-8
returns-in_err-first_ids-8 g c =
    let p = err_from_is_err_and c.from_residual-in_err-first_ids-8.result c.from_residual-in_err-first_ids-8.ensures.1 in
    rw (p.1, p.2) (too_many (contents_of c.args.module.now) DataSegments _ _ (c.index-8.ensures ∙ c.next_id-8.ensures) c.in_err-first_ids-8.ensures)

pub returns : goal.returns
returns g c =
    let ids : IndicesToIds = record { types = c.in_ok-first_ids.field-0; functions = c.in_ok-first_ids-2.field-0; tables = c.in_ok-first_ids-3.field-0; memories = c.in_ok-first_ids-4.field-0; tags = c.in_ok-first_ids-5.field-0; globals = c.in_ok-first_ids-6.field-0; elements = c.in_ok-first_ids-7.field-0; data_ = c.in_ok-first_ids-8.field-0 } in
    numbered (contents_of c.args.module.now) ids
    (c.in_ok-first_ids.ensures ∙ ap (range_with_len 0) (c.index.ensures ∙ c.next_id.ensures))
    (c.in_ok-first_ids-2.ensures ∙ ap (range_with_len 0) (c.index-2.ensures ∙ c.next_id-2.ensures))
    (c.in_ok-first_ids-3.ensures ∙ ap (range_with_len 0) (c.index-3.ensures ∙ c.next_id-3.ensures))
    (c.in_ok-first_ids-4.ensures ∙ ap (range_with_len 0) (c.index-4.ensures ∙ c.next_id-4.ensures))
    (c.in_ok-first_ids-5.ensures ∙ ap (range_with_len 0) (c.index-5.ensures ∙ c.next_id-5.ensures))
    (c.in_ok-first_ids-6.ensures ∙ ap (range_with_len 0) (c.index-6.ensures ∙ c.next_id-6.ensures))
    (c.in_ok-first_ids-7.ensures ∙ ap (range_with_len 0) (c.index-7.ensures ∙ c.next_id-7.ensures))
    (c.in_ok-first_ids-8.ensures ∙ ap (range_with_len 0) (c.index-8.ensures ∙ c.next_id-8.ensures))
