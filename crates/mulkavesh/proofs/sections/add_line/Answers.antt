use Rattle.walrus_sections.specs.Sections.{piece_record}
use Rattle.mulkavesh.proofs.SectionLines.{line_joined}
use Rattle.mulkavesh.proofs.sections.add_line.Goals as goal

pub returns : goal.returns
returns c =
    line_joined (piece_record c.args.piece) _ _ _ _ _ _ _ _ c.in_ok-add_decimal.ensures c.in_ok-push.ensures.items c.in_ok-add_decimal-2.ensures c.in_ok-push-2.ensures.items c.in_ok-add_what.ensures
    c.in_ok-add_count.ensures c.in_ok-push-3.ensures.items
