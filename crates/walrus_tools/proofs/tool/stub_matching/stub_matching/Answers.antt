use Rattle.std.proofs.Common.{ap, refl, ◌∙◌, subst}
use Rattle.std.proofs.lemmas.Result.{err_from_is_err_and}
use Rattle.std.specs.Prelude.{Err}
use Rattle.walrus.specs.Modules.Flags.{Flags, config_of, flags}
use Rattle.walrus.specs.Modules.Settings.{settings}
use Rattle.walrus_sections.specs.Choice.{choices_seen}
use Rattle.walrus_tools.specs.StubMatching.{AnswersMatching, RefusesMatching, StubsMatching}
use Rattle.walrus.proofs.EditEnds.{edit_finishes, edit_refused, parsed_whole, ready}
use Rattle.walrus_tools.proofs.MatchingEnds.{matching_held}
use Rattle.walrus_tools.proofs.tool.stub_matching.stub_matching.Goals as goal

pub returns-in_err-stub_chosen : goal.returns-in_err-stub_chosen
returns-in_err-stub_chosen c =
    let ms = choices_seen c.args.modules.now in
    let ns = choices_seen c.args.names.now in
    let f = flags c.of_choices-config.result in
    let read = c.in_ok-module.module in
    let same = c.of_choices-config.ensures.value in
    let p = err_from_is_err_and c.from_residual-in_err-stub_chosen.result c.from_residual-in_err-stub_chosen.ensures.1 in
    rw (p.1, p.2) (subst (λ (g : Flags). AnswersMatching (config_of g) c.args.bytes.now ms ns (Err c.in_err-stub_chosen.field-0.0)) same
    (edit_refused _ (StubsMatching ms ns) (RefusesMatching ms ns) (config_of f) c.args.bytes.now read c.in_ok-module.ensures.found (λ k h. h) (λ h. h) _
    (c.in_err-stub_chosen.ensures (config_of f) (parsed_whole _ (StubsMatching ms ns) (RefusesMatching ms ns) (config_of f) c.args.bytes.now read c.in_ok-module.ensures.found))))

pub finished_ready-requires : goal.finished_ready-requires
finished_ready-requires c =
    let ms = choices_seen c.args.modules.now in
    let ns = choices_seen c.args.names.now in
    let f = flags c.of_choices-config.result in
    let read = c.in_ok-module.module in
    let same = c.of_choices-config.ensures.value in
    let whole = parsed_whole _ (StubsMatching ms ns) (RefusesMatching ms ns) (config_of f) c.args.bytes.now read c.in_ok-module.ensures.found in
    let done = c.in_ok-stub_chosen.ensures (config_of f) whole in
    ready _ (StubsMatching ms ns) (RefusesMatching ms ns) (config_of f) c.args.bytes.now read c.in_ok-module.ensures.found
    _ (matching_held ms ns read _ done.0) (ap (λ m. m.customs) (done.0).stubs.others) done.1 c.in_ok-module.ensures.kept.raws c.in_ok-module.ensures.kept.are
    f (ap settings (done.0).stubs.others ∙ c.in_ok-module.ensures.configured) refl (ap (λ (g : Flags). g.preserve_code_transform) same)

pub returns : goal.returns
returns c =
    let ms = choices_seen c.args.modules.now in
    let ns = choices_seen c.args.names.now in
    let f = flags c.of_choices-config.result in
    let read = c.in_ok-module.module in
    let same = c.of_choices-config.ensures.value in
    let whole = parsed_whole _ (StubsMatching ms ns) (RefusesMatching ms ns) (config_of f) c.args.bytes.now read c.in_ok-module.ensures.found in
    let done = c.in_ok-stub_chosen.ensures (config_of f) whole in
    subst (λ (g : Flags). AnswersMatching (config_of g) c.args.bytes.now ms ns c.finished_ready.result) same
    (edit_finishes _ (StubsMatching ms ns) (RefusesMatching ms ns) (config_of f) c.args.bytes.now read c.in_ok-module.ensures.found
    _ (matching_held ms ns read _ done.0) (ap (λ m. m.customs) (done.0).stubs.others) done.1 c.in_ok-module.ensures.kept.raws c.in_ok-module.ensures.kept.are
    f (ap settings (done.0).stubs.others ∙ c.in_ok-module.ensures.configured) refl (ap (λ (g : Flags). g.preserve_code_transform) same) c.finished_ready.result c.finished_ready.ensures)
