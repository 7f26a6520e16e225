use Rattle.std.specs.Prelude.{string_bytes}
use Rattle.walrus_tools.proofs.WeighLines.{kinds_behind}
use Rattle.walrus_tools.proofs.tool.report_lines.add_kinds.Goals as goal

pub returns : goal.returns
returns c =
    kinds_behind c.args.before c.args.after (string_bytes c.args.text.now) _ _ _ _ _ _ _ c.in_ok-add_kind.ensures c.in_ok-add_kind-2.ensures c.in_ok-add_kind-3.ensures
    c.in_ok-add_kind-4.ensures c.in_ok-add_kind-5.ensures c.in_ok-add_kind-6.ensures c.in_ok-add_kind-7.ensures
