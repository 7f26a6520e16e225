use Rattle.std.proofs.Common.{◌≡◌, length}
use Rattle.walrus.specs.Base.Marks.{is_marked}
use Rattle.walrus.specs.Items.Imports.{imports}
use Rattle.walrus.specs.Model.Config.{Config}
use Rattle.walrus.specs.Edits.{IsWhole}
use Rattle.walrus_tools.specs.StubMatching.{HitFunctions}
use Rattle.walrus_tools.specs.StubAnswers.{StubsSome}
use Rattle.walrus_tools.proofs.tool.stub_matching.trap_hits.Given as goal

-- at the places so far all is done
abbrev pub invariant-places : goal.invariant-places
invariant-places g l =
    ((config : Config) → IsWhole config l.initial.module → HitFunctions (is_marked l.marks) (imports l.initial.module.imports) → StubsSome config (is_marked l.marks) l.at l.initial.module l.module)
    × (l.at-end ≡ length (imports l.initial.module.imports))
