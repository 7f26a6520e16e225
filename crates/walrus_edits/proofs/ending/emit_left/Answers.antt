use Rattle.std.proofs.Common.{◌≡◌, ap, ◌∙◌, false, refl, rules, true}
use Rattle.std.proofs.lemmas.Result.{err_from_is_err_and}
use Rattle.walrus.proofs.FinishLemmas.{sections_stay}
use Rattle.walrus.specs.Modules.Flags.{Flags}
use Rattle.walrus.specs.Modules.Settings.{settings}
use Rattle.walrus_edits.proofs.Ended.{collects_so, ended, keeps_so, kept_well, made, search_refused}
use Rattle.walrus_edits.proofs.ending.emit_left.Goals as goal

pub returns-then-not-collects : goal.returns-then-not-collects
returns-then-not-collects g c = λ formed passes.
    let m = c.args.module in
    let left = c.emit_wasm.new.self in
    let no : c.args.collects ≡ false = search rules in
    ended _ m formed passes c.args.collects m left (keeps_so _ c.args.collects no) (made _ m formed passes) refl
    (sections_stay _ _ _ m.customs left.customs c.emit_wasm.result (settings m).preserve_code_transform formed.still c.emit_wasm.ensures.customs)
    (settings m) refl c.emit_wasm.result c.emit_wasm.ensures.left c.emit_wasm.ensures.well_made

pub returns-in_err-run : goal.returns-in_err-run
returns-in_err-run g c = λ formed passes.
    let yes : c.args.collects ≡ true = search rules in
    let p = err_from_is_err_and c.from_residual.result c.from_residual.ensures.1 in
    rw (p.1, p.2) (search_refused _ c.args.module formed passes c.args.collects yes _ c.in_err-run.ensures.refused)

pub returns : goal.returns
returns g c = λ formed passes.
    let m = c.args.module in
    let kept = c.run.new.module in
    let left = c.emit_wasm-2.new.self in
    let yes : c.args.collects ≡ true = search rules in
    ended _ m formed passes c.args.collects kept left (collects_so _ _ c.args.collects yes c.in_ok-run.ensures.collected) (kept_well _ m formed passes _ c.in_ok-run.ensures.collected c.in_ok-run.ensures.sound)
    c.in_ok-run.ensures.others.customs
    (sections_stay _ _ _ kept.customs left.customs c.emit_wasm-2.result (settings kept).preserve_code_transform (ap (λ (f : Flags). f.preserve_code_transform) c.in_ok-run.ensures.others.settings ∙ formed.still) c.emit_wasm-2.ensures.customs)
    (settings kept) c.in_ok-run.ensures.others.settings c.emit_wasm-2.result c.emit_wasm-2.ensures.left c.emit_wasm-2.ensures.well_made
