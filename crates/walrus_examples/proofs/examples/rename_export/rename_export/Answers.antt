use Rattle.std.proofs.Common.{refl}
use Rattle.std.proofs.lemmas.Result.{err_from_is_err_and}
use Rattle.walrus.specs.Modules.Flags.{config_of, defaults}
use Rattle.walrus.proofs.EditEnds.{edit_finishes, edit_refused, parsed_whole}
use Rattle.walrus_examples.proofs.RenameSteps.{rename_whole}
use Rattle.walrus_tools.specs.ExportNames.{RefusesRename, RenamesHeld}
use Rattle.walrus_examples.proofs.examples.rename_export.rename_export.Goals as goal

pub returns-in_err-edit : goal.returns-in_err-edit
returns-in_err-edit c =
    let read = c.in_ok-module in
    let p = err_from_is_err_and c.from_residual-in_err-edit.result c.from_residual-in_err-edit.ensures.1 in
    let refuses = RefusesRename c.args.from.now c.args.to.now c.args.dropped.now in
    rw (p.1, p.2) (edit_refused _ (RenamesHeld c.args.from.now c.args.to.now c.args.dropped.now) refuses (config_of defaults) c.args.bytes.now read.module read.ensures.found (λ k h. h) (λ h. h) _ c.in_err-edit.ensures)

pub returns : goal.returns
returns c =
    let read = c.in_ok-module in
    let held = RenamesHeld c.args.from.now c.args.to.now c.args.dropped.now in
    let refuses = RefusesRename c.args.from.now c.args.to.now c.args.dropped.now in
    let whole = rename_whole (config_of defaults) _ _ _ read.module c.edit.new.all c.in_ok-edit.ensures (parsed_whole _ held refuses (config_of defaults) c.args.bytes.now read.module read.ensures.found) in
    edit_finishes _ held refuses (config_of defaults) c.args.bytes.now read.module read.ensures.found _ (record { exports = c.in_ok-edit.ensures; others = refl }) refl whole read.ensures.kept.raws read.ensures.kept.are
    defaults read.ensures.configured refl refl c.finished.result c.finished.ensures
