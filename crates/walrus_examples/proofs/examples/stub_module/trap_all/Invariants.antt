use Rattle.std.proofs.Common.{◌≡◌, length}
use Rattle.walrus.specs.Items.Imports.{imports}
use Rattle.walrus.specs.Model.Config.{Config}
use Rattle.walrus.specs.Edits.{IsWhole}
use Rattle.walrus_tools.specs.Stub.{comes_from}
use Rattle.walrus_tools.specs.StubAnswers.{StubsSome}
use Rattle.walrus_examples.proofs.examples.stub_module.trap_all.Given as goal

-- at the places so far all is done
abbrev pub invariant-places : goal.invariant-places
invariant-places g l =
    ((config : Config) → IsWhole config l.initial.module → StubsSome config (comes_from l.from (imports l.initial.module.imports)) l.at l.initial.module l.module)
    × (l.at-end ≡ length (imports l.initial.module.imports))
