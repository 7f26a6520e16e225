use Rattle.std.proofs.Common.{List, map, subst, sym}
use Rattle.std.proofs.lemmas.Result.{err_from_is_err_and}
use Rattle.std.specs.Global.{Vec}
use Rattle.std.specs.Prelude.{Err, Ok}
use Rattle.wasm_entries.specs.Record.{group}
use Rattle.wasm_entries.specs.declared.record.RawSub.{RawSub}
use Rattle.walrus.specs.Frames.Record.{sections}
use Rattle.walrus.specs.Items.Errors.{error_of_wire}
use Rattle.walrus.specs.Contents.Contents.{Contents}
use Rattle.walrus.specs.Modules.Flags.{Flags, config_of, flags}
use Rattle.walrus.specs.Modules.View.{contents_of}
use Rattle.walrus_edits.specs.ItemSteps.{ListsItems}
use Rattle.walrus_edits.specs.ItemValues.{AreGroups}
use Rattle.walrus_edits.specs.Items.{AnswersItems}
use Rattle.walrus_edits.proofs.ReadSteps.{is_list, unframed, ungrouped, unlisted, unread}
use Rattle.walrus_edits.proofs.item_list.items.Goals as goal

pub returns-in_err-module : goal.returns-in_err-module
returns-in_err-module c =
    let p = err_from_is_err_and c.from_residual.result c.from_residual.ensures.1 in
    let d = config_of (flags c.of_choices-config.result) in
    rw (p.1, p.2)
    (subst (λ (f : Flags). AnswersItems (config_of f) c.args.bytes.now (Err c.in_err-module.field-0.0)) c.of_choices-config.ensures.value (unread d c.args.bytes.now _ c.in_err-module.ensures))

pub returns-in_err-raw : goal.returns-in_err-raw
returns-in_err-raw c =
    let p = err_from_is_err_and c.from_residual-in_err-raw.result c.from_residual-in_err-raw.ensures.1 in
    let d = config_of (flags c.of_choices-config.result) in
    let taken = c.in_ok-module.ensures.taken in
    rw (p.1, p.2)
    (subst (λ (f : Flags). AnswersItems (config_of f) c.args.bytes.now (Err (error_of_wire c.in_err-raw.field-0.0))) c.of_choices-config.ensures.value
    (unframed d c.args.bytes.now taken.sections c.in_err-raw.field-0.0 (c.in_err-raw.ensures.only taken.sections taken.framed)))

pub returns-in_err-groups : goal.returns-in_err-groups
returns-in_err-groups c =
    let p = err_from_is_err_and c.from_residual-in_err-groups.result c.from_residual-in_err-groups.ensures.1 in
    let d = config_of (flags c.of_choices-config.result) in
    let m = c.in_ok-module.ensures in
    rw (p.1, p.2)
    (subst (λ (f : Flags). AnswersItems (config_of f) c.args.bytes.now (Err c.in_err-groups.field-0.0)) c.of_choices-config.ensures.value
    (ungrouped _ d c.args.bytes.now c.in_ok-module.module m.found m.taken _ c.in_ok-raw.ensures.found c.in_err-groups.field-0.0 c.in_err-groups.ensures))

pub returns-in_err-list : goal.returns-in_err-list
returns-in_err-list c =
    let p = err_from_is_err_and c.from_residual-in_err-list.result c.from_residual-in_err-list.ensures.1 in
    let d = config_of (flags c.of_choices-config.result) in
    let m = c.in_ok-module.ensures in
    let gs = map group c.deref.result.now in
    let s = sections c.in_ok-raw.raw in
    rw (p.1, p.2)
    (subst (λ (f : Flags). AnswersItems (config_of f) c.args.bytes.now (Err (error_of_wire c.in_err-list.field-0.0))) c.of_choices-config.ensures.value
    (unlisted _ d c.args.bytes.now c.in_ok-module.module m.found m.taken s c.in_ok-raw.ensures.found gs
    (subst (λ (l : List (Vec RawSub)). AreGroups (contents_of c.in_ok-module.module).types (map group l)) (sym c.deref.ensures.value) c.in_ok-groups.ensures) c.in_err-list.field-0.0
    (subst (λ (held : Contents). ListsItems s gs held (Err c.in_err-list.field-0.0)) c.parts_of.ensures c.in_err-list.ensures)))

pub returns : goal.returns
returns c =
    let d = config_of (flags c.of_choices-config.result) in
    let m = c.in_ok-module.ensures in
    let gs = map group c.deref.result.now in
    let s = sections c.in_ok-raw.raw in
    subst (λ (f : Flags). AnswersItems (config_of f) c.args.bytes.now (Ok c.in_ok-list.list)) c.of_choices-config.ensures.value
    (is_list _ d c.args.bytes.now c.in_ok-module.module m.found m.taken s c.in_ok-raw.ensures.found gs
    (subst (λ (l : List (Vec RawSub)). AreGroups (contents_of c.in_ok-module.module).types (map group l)) (sym c.deref.ensures.value) c.in_ok-groups.ensures) c.in_ok-list.list
    (subst (λ (held : Contents). ListsItems s gs held (Ok c.in_ok-list.list)) c.parts_of.ensures c.in_ok-list.ensures))
