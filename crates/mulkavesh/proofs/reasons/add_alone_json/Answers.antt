use Rattle.std.proofs.Common.{◌++◌, sym, ap, ◌∙◌}
use Rattle.std.specs.Prelude.{Option}
use Rattle.walrus_tools.specs.declared.goers.Alone.{Alone}
use Rattle.mulkavesh.specs.Reasons.{alone_json}
use Rattle.mulkavesh.proofs.RowLists.{five_behind}
use Rattle.mulkavesh.proofs.reasons.add_alone_json.Goals as goal

pub returns : goal.returns
returns c =
    five_behind _ _ _ _ _ _ _ _ _ _ _ c.in_ok-extend_from_slice.ensures.items c.in_ok-add_decimal.ensures c.in_ok-extend_from_slice-2.ensures.items c.in_ok-add_decimal-2.ensures c.in_ok-push.ensures.items
    ∙ ap (λ (a : Option Alone). c.args.to.now.items ++ alone_json a) (sym c.in-Some.is)
