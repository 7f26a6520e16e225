use Rattle.std.proofs.Common.{ℕ, Result, Ok, Err, refl, ap, ◌∙◌, inr}
use Rattle.std.proofs.lemmas.Result.{err_from_is_err_and}
use Rattle.std.specs.Global.{Vec}
use Rattle.walrus.specs.Items.Error.{Error}
use Rattle.walrus.specs.Items.CodeTransform.{CodeTransform}
use Rattle.walrus.specs.Items.Transform.{location_of, transform_of}
use Rattle.std.specs.Prelude.{map}
use Rattle.walrus.specs.Modules.Customs.{sections}
use Rattle.walrus.specs.Modules.Emitted.{told}
use Rattle.walrus.specs.Modules.Flags.{config_of, defaults, flags}
use Rattle.walrus.proofs.Modules.RawStays.{all_raw, leaves_whole}
use Rattle.walrus_examples.proofs.MovesEnds.{moves_answered}
use Rattle.walrus_examples.proofs.MovesRuns.{also_refused, emission_answers, gc_refused, keeps_transform, located_by_place, same_config}
use Rattle.walrus_examples.proofs.examples.moves.moves.Goals as goal

pub returns-in_err-run-clause-written : goal.returns-in_err-run-clause-written
returns-in_err-run-clause-written c =
    let read = c.in_ok-module.module in
    let same = same_config _ _ c.new-config.ensures.value c.preserve_code_transform.ensures.value in
    gc_refused _ c.args.bytes.now (flags c.preserve_code_transform.result.now) same read c.in_ok-module.ensures.found c.in_ok-module.ensures.kept.raws c.in_ok-module.ensures.kept.are (λ r. r.0.items) _ _ c.in_err-run.ensures.refused c.from_residual-in_err-run.ensures.1

pub returns-in_err-output-clause-written : goal.returns-in_err-output-clause-written
returns-in_err-output-clause-written c =
    let read = c.in_ok-module.module in
    let kept = c.run.new.module in
    let left = c.emit_wasm_with_transform.new.self in
    let raws = c.in_ok-module.ensures.kept.raws in
    let same = same_config _ _ c.new-config.ensures.value c.preserve_code_transform.ensures.value in
    let stays = c.in_ok-run.ensures.others.customs in
    let raw = c.emit_wasm_with_transform.ensures.emits.raw (all_raw kept.customs raws (ap sections stays ∙ c.in_ok-module.ensures.kept.are)) in
    let answer : Result (Vec ℕ × CodeTransform) Error = Err c.in_err-output.field-0.0 in
    let p = err_from_is_err_and c.from_residual-in_err-output.result c.from_residual-in_err-output.ensures.1 in
    rw (p.1, p.2) (also_refused (config_of defaults) c.args.bytes.now (λ (r : Vec ℕ × CodeTransform). r.0.items) (λ (r : Vec ℕ × Vec (ℕ × ℕ)). r.0.items) c.in_err-output.field-0.0
    (emission_answers _ c.args.bytes.now (flags c.preserve_code_transform.result.now) same read c.in_ok-module.ensures.found raws c.in_ok-module.ensures.kept.are kept left stays raw (c.in_ok-run.ensures.others.settings ∙ c.in_ok-module.ensures.configured)
    (λ (r : Vec ℕ × CodeTransform). r.0.items) answer c.in_ok-run.ensures.collected c.in_err-output.ensures.emits.left c.in_err-output.ensures.emits.emitted c.in_err-output.ensures.emits.refused))

pub returns-clause-written : goal.returns-clause-written
returns-clause-written c =
    let read = c.in_ok-module.module in
    let kept = c.run.new.module in
    let left = c.emit_wasm_with_transform.new.self in
    let raws = c.in_ok-module.ensures.kept.raws in
    let same = same_config _ _ c.new-config.ensures.value c.preserve_code_transform.ensures.value in
    let stays = c.in_ok-run.ensures.others.customs in
    let raw = c.emit_wasm_with_transform.ensures.emits.raw (all_raw kept.customs raws (ap sections stays ∙ c.in_ok-module.ensures.kept.are)) in
    let answer : Result (Vec ℕ × CodeTransform) Error = Ok (c.in_ok-output.output, c.in_ok-output.transform) in
    emission_answers _ c.args.bytes.now (flags c.preserve_code_transform.result.now) same read c.in_ok-module.ensures.found raws c.in_ok-module.ensures.kept.are kept left stays raw (c.in_ok-run.ensures.others.settings ∙ c.in_ok-module.ensures.configured)
    (λ (r : Vec ℕ × CodeTransform). r.0.items) answer c.in_ok-run.ensures.collected c.in_ok-output.ensures.emits.left c.in_ok-output.ensures.emits.emitted c.in_ok-output.ensures.emits.refused

pub returns-clause-moved : goal.returns-clause-moved
returns-clause-moved c =
    let read = c.in_ok-module.module in
    let kept = c.run.new.module in
    let left = c.emit_wasm_with_transform.new.self in
    let raws = c.in_ok-module.ensures.kept.raws in
    let same = same_config _ _ c.new-config.ensures.value c.preserve_code_transform.ensures.value in
    let stays = c.in_ok-run.ensures.others.customs in
    let raw = c.emit_wasm_with_transform.ensures.emits.raw (all_raw kept.customs raws (ap sections stays ∙ c.in_ok-module.ensures.kept.are)) in
    let answer : Result (Vec ℕ × CodeTransform) Error = Ok (c.in_ok-output.output, c.in_ok-output.transform) in
    moves_answered _ _ c.args.bytes.now read kept left _ (flags c.preserve_code_transform.result.now) same (keeps_transform _ _ c.new-config.ensures.value c.preserve_code_transform.ensures.value) (c.in_ok-run.ensures.others.settings ∙ c.in_ok-module.ensures.configured) refl
    c.in_ok-output.output.items (transform_of c.in_ok-output.transform) c.in_ok-places.places.items c.in_ok-module.ensures.found c.in_ok-run.ensures.collected
    (leaves_whole _ kept left raw (told answer) c.in_ok-output.ensures.emits.left) c.in_ok-run.ensures.items.functions (ap (λ m. m.funcs) c.in_ok-output.ensures.emits.others)
    (located_by_place _ c.args.bytes.now read.funcs (c.preserve_code_transform.ensures.hook ∙ c.new-config.ensures.hook) c.in_ok-module.ensures.located)
    c.in_ok-output.ensures.emits.refused (c.in_ok-output.ensures.transform (inr refl)) (c.in_ok-places.ensures.told ∙ ap (map location_of) c.deref.ensures.value)
