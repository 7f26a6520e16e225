use Rattle.std.proofs.Common.{◌∙◌, ap, refl}
use Rattle.walrus_module.specs.Asked.{OneMayRefuse}
use Rattle.walrus_module.specs.Flags.{config_of, flags}
use Rattle.walrus_module.specs.Following.{OneMayRefuseThen}
use Rattle.walrus_module.specs.View.{meanings}
use Rattle.walrus_module.specs.Customs.{sections}
use Rattle.walrus_module.proofs.KeptRaw.{none_asked_refuses, none_refuses}
use Rattle.walrus_module.specs.Emitted.{told}
use Rattle.walrus.proofs.HeadlineLemmas.{answers_gc, answers_kept, nothing_dead_left}
use Rattle.walrus_module.proofs.RawStays.{all_raw, leaves_whole, none_refuses_then}
use Rattle.walrus.proofs.work.smaller.Goals as goal

pub returns-in_err-run : goal.returns-in_err-run
returns-in_err-run g c =
    let read = c.in_ok-module.module in
    answers_gc (config_of (flags c.args.config.now)) (λ output. output.items) (OneMayRefuse (meanings _ read)) _ _ refl _ _ _ c.in_ok-module.ensures.found
    (none_refuses _ read c.in_ok-module.ensures.kept.raws c.in_ok-module.ensures.kept.are) c.in_err-run.ensures.refused c.from_residual-in_err-run.ensures.1

pub emit_whole-output-requires : goal.emit_whole-output-requires
emit_whole-output-requires g c = nothing_dead_left (config_of (flags c.args.config.now)) _ _ _ c.in_ok-module.ensures.found c.in_ok-run.ensures.collected

pub returns : goal.returns
returns g c =
    let kept = c.run.new.module in
    let left = c.emit_whole-output.new.self in
    let raws = c.in_ok-module.ensures.kept.raws in
    let are = ap sections c.in_ok-run.ensures.others.customs ∙ c.in_ok-module.ensures.kept.are in
    let same = c.emit_whole-output.ensures.raw (all_raw kept.customs raws are) in
    let keeps = c.in_ok-run.ensures.others.settings ∙ c.in_ok-module.ensures.configured in
    answers_kept (λ output. output.items) (OneMayRefuseThen _ kept.customs left.customs) (none_refuses_then _ kept left same (none_asked_refuses _ kept raws are)) _ _ keeps _ _ refl _ _ _ c.emit_whole-output.result
    c.in_ok-module.ensures.found c.in_ok-run.ensures.collected (leaves_whole _ kept left same (told c.emit_whole-output.result) c.emit_whole-output.ensures.left) c.emit_whole-output.ensures.emitted c.emit_whole-output.ensures.refused
