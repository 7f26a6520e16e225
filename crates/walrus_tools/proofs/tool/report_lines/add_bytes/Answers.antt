use Rattle.std.specs.Prelude.{string_bytes}
use Rattle.walrus_tools.proofs.WeighLines.{bytes_behind}
use Rattle.walrus_tools.proofs.tool.report_lines.add_bytes.Goals as goal

pub returns : goal.returns
returns c =
    bytes_behind c.args.told c.rest_of.result (string_bytes c.args.text.now) _ _ _ _ _ _ c.in_ok-add_sizes.ensures c.in_ok-add_number.ensures c.in_ok-add_number-2.ensures c.rest_of.ensures c.in_ok-add_rest.ensures c.longer.ensures c.in_ok-push_str.ensures.bytes
