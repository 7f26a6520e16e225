use Rattle.walrus_tools.specs.StubMatching.{AnswersMatching}
use Rattle.walrus_tools.specs.Wanted.{config_wanted}
use Rattle.mulkavesh_c.proofs.ChoiceLemmas.{lists_answer}
use Rattle.mulkavesh_c.proofs.names.stubbed.Goals as goal

pub returns : goal.returns
returns c =
    lists_answer c.args.from.now c.args.name.now c.in_ok-modules.modules.items c.deref.result.now c.in_ok-names.names.items c.deref-2.result.now c.deref.ensures.value c.deref-2.ensures.value
    c.in_ok-modules.ensures c.in_ok-names.ensures (AnswersMatching (config_wanted c.args.wanted) c.args.input.now) c.stub_matching.result c.stub_matching.ensures
