use Rattle.std.proofs.Common.{refl, ap, ◌∙◌}
use Rattle.walrus.specs.Modules.Asked.{OneMayRefuse}
use Rattle.walrus.specs.Modules.Emitted.{told}
use Rattle.walrus.specs.Modules.Following.{OneMayRefuseThen}
use Rattle.walrus.proofs.Modules.RawStays.{all_raw, leaves_whole, none_refuses_then}
use Rattle.walrus.specs.Modules.Customs.{sections}
use Rattle.walrus.specs.Modules.Flags.{config_of, defaults}
use Rattle.walrus.specs.Modules.View.{meanings}
use Rattle.walrus.proofs.Modules.KeptRaw.{none_asked_refuses, none_refuses}
use Rattle.walrus.proofs.HeadlineLemmas.{answers_gc, answers_kept}
use Rattle.walrus_examples.proofs.examples.shrink.shrink.Goals as goal

pub returns-in_err-run : goal.returns-in_err-run
returns-in_err-run c =
    let read = c.in_ok-module.module in
    answers_gc (config_of defaults) (λ output. output.items) (OneMayRefuse (meanings _ read)) _ _ refl _ _ _ c.in_ok-module.ensures.found
    (none_refuses _ read c.in_ok-module.ensures.kept.raws c.in_ok-module.ensures.kept.are) c.in_err-run.ensures.refused c.from_residual-in_err-run.ensures.1

pub returns : goal.returns
returns c =
    let kept = c.run.new.module in
    let raws = c.in_ok-module.ensures.kept.raws in
    let left = c.emit_wasm.new.self in
    let are = ap sections c.in_ok-run.ensures.others.customs ∙ c.in_ok-module.ensures.kept.are in
    let same = c.emit_wasm.ensures.raw (all_raw kept.customs raws are) in
    let keeps = c.in_ok-run.ensures.others.settings ∙ c.in_ok-module.ensures.configured in
    answers_kept (λ output. output.items) (OneMayRefuseThen _ kept.customs left.customs) (none_refuses_then _ kept left same (none_asked_refuses _ kept raws are)) _ _ keeps _ _ refl _ _ _ c.emit_wasm.result
    c.in_ok-module.ensures.found c.in_ok-run.ensures.collected (leaves_whole _ kept left same (told c.emit_wasm.result) c.emit_wasm.ensures.left) c.emit_wasm.ensures.emitted c.emit_wasm.ensures.refused
