use Rattle.std.proofs.Common.{ap, refl, ◌∙◌, subst}
use Rattle.std.proofs.lemmas.Result.{err_from_is_err_and}
use Rattle.std.specs.Prelude.{Err}
use Rattle.walrus.specs.Modules.Flags.{Flags, config_of, flags}
use Rattle.walrus.specs.Modules.Settings.{settings}
use Rattle.walrus_sections.specs.Choice.{choices_seen}
use Rattle.walrus_tools.specs.StubMatching.{RefusesMatching, StubsMatching}
use Rattle.walrus_tools.specs.Weigh.{AnswersWeighed}
use Rattle.walrus.proofs.EditEnds.{edit_refused, parsed_whole, ready}
use Rattle.walrus_tools.proofs.MatchingEnds.{matching_held}
use Rattle.walrus_tools.proofs.WeighEnds.{edit_weighs, refused_weighed}
use Rattle.walrus_tools.proofs.tool.stub_counted.stub_counted.Goals as goal

pub returns-in_err-stub_chosen : goal.returns-in_err-stub_chosen
returns-in_err-stub_chosen c =
    let ms = choices_seen c.args.modules.now in
    let ns = choices_seen c.args.names.now in
    let f = flags c.of_choices-config.result in
    let read = c.in_ok-module in
    let same = c.of_choices-config.ensures.value in
    let p = err_from_is_err_and c.from_residual-in_err-stub_chosen.result c.from_residual-in_err-stub_chosen.ensures.1 in
    rw (p.1, p.2) (subst (λ (g : Flags). AnswersWeighed (StubsMatching ms ns) (RefusesMatching ms ns) (config_of g) c.args.bytes.now (Err c.in_err-stub_chosen.field-0.0)) same
    (refused_weighed (StubsMatching ms ns) (RefusesMatching ms ns) (config_of f) c.args.bytes.now _
    (edit_refused _ (StubsMatching ms ns) (RefusesMatching ms ns) (config_of f) c.args.bytes.now read.module read.ensures.found (λ k h. h) (λ h. h) _
    (c.in_err-stub_chosen.ensures (config_of f) (parsed_whole _ (StubsMatching ms ns) (RefusesMatching ms ns) (config_of f) c.args.bytes.now read.module read.ensures.found)))))

pub finished_weighed-requires : goal.finished_weighed-requires
finished_weighed-requires c =
    let ms = choices_seen c.args.modules.now in
    let ns = choices_seen c.args.names.now in
    let read = c.in_ok-module in
    let f = flags c.of_choices-config.result in
    let whole = parsed_whole _ (StubsMatching ms ns) (RefusesMatching ms ns) (config_of f) c.args.bytes.now read.module read.ensures.found in
    let done = c.in_ok-stub_chosen.ensures (config_of f) whole in
    ready _ (StubsMatching ms ns) (RefusesMatching ms ns) (config_of f) c.args.bytes.now read.module read.ensures.found
    _ (matching_held ms ns read.module _ done.0) (ap (λ m. m.customs) (done.0).stubs.others) (done.1) read.ensures.kept.raws read.ensures.kept.are
    f (ap settings (done.0).stubs.others ∙ read.ensures.configured) refl (ap (λ (g : Flags). g.preserve_code_transform) c.of_choices-config.ensures.value)

pub returns : goal.returns
returns c =
    let ms = choices_seen c.args.modules.now in
    let ns = choices_seen c.args.names.now in
    let read = c.in_ok-module in
    let f = flags c.of_choices-config.result in
    let whole = parsed_whole _ (StubsMatching ms ns) (RefusesMatching ms ns) (config_of f) c.args.bytes.now read.module read.ensures.found in
    let done = c.in_ok-stub_chosen.ensures (config_of f) whole in
    subst (λ (g : Flags). AnswersWeighed (StubsMatching ms ns) (RefusesMatching ms ns) (config_of g) c.args.bytes.now c.finished_weighed.result) c.of_choices-config.ensures.value
    (edit_weighs _ (StubsMatching ms ns) (RefusesMatching ms ns) (config_of f) c.args.bytes.now read.module read.ensures.found c.kinds_of-before.result c.kinds_of-before.ensures
    _ (matching_held ms ns read.module _ done.0) (ap (λ m. m.customs) (done.0).stubs.others) (done.1) f (ap settings (done.0).stubs.others ∙ read.ensures.configured) refl c.finished_weighed.result c.finished_weighed.ensures)
