use Rattle.std.proofs.Common.{List, ◌∙◌, ℕ, ap, map, take_all}
use Rattle.std.specs.declared.ops.Range.{Range}
use Rattle.walrus.specs.Base.IdValue.{Id}
use Rattle.walrus.specs.Base.FunctionKey.{FunctionKey}
use Rattle.walrus.specs.Items.Functions.{functions}
use Rattle.walrus.specs.Items.Transform.{range_of}
use Rattle.walrus_tools.specs.FunctionList.{listed_of, listed_seen, names_in}
use Rattle.walrus_tools.proofs.SizeLemmas.{listed_more}
use Rattle.walrus_tools.proofs.tool.list.all_listed.Goals as goal

pub loop-body-init : goal.loop-body-init
loop-body-init c = ap (map listed_seen) c.new-list.ensures.items

pub loop-body-preserved : goal.loop-body-preserved
loop-body-preserved c =
    listed_more (names_in (functions c.args.all.now)) c.args.bodies.now c.loop-body.body-index _ c.loop-body-test.true c.loop-body.list.items _ _ c.in_ok-push.ensures.items c.loop-body.invariant c.in_ok-function.ensures

pub returns : goal.returns
returns c =
    c.loop-body.invariant
    ∙ ap (λ (xs : List (Id FunctionKey × Range ℕ)). map (listed_of (names_in (functions c.args.all.now))) (map range_of xs)) (take_all c.loop-body.body-index c.args.bodies.now c.loop-body-test.false)
