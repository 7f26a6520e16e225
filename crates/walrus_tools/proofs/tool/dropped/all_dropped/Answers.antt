use Rattle.std.proofs.Common.{◌∙◌, List, ap, flat_map, map, take_all}
use Rattle.walrus.specs.Base.IdSet.{has_id}
use Rattle.walrus.specs.Items.Functions.{functions}
use Rattle.walrus_tools.specs.DroppedList.{dropped_of}
use Rattle.walrus_tools.specs.FunctionList.{listed_seen, names_in}
use Rattle.walrus_sections.specs.Parts.{part_record}
use Rattle.walrus_sections.specs.declared.parts.Part.{Part as RawPart}
use Rattle.walrus_tools.proofs.LineLemmas.{lines_more}
use Rattle.walrus_tools.proofs.tool.dropped.all_dropped.Goals as goal

pub parts-init : goal.parts-init
parts-init c = ap (map listed_seen) c.new-list.ensures.items

pub parts-preserved : goal.parts-preserved
parts-preserved c =
    lines_more (dropped_of (has_id c.args.stay.now) (names_in (functions c.args.all.now))) part_record c.args.parts.now c.parts.part-index _ c.parts-test.true _ _ c.parts.invariant c.in_ok-add_dropped.ensures

pub returns : goal.returns
returns c =
    c.parts.invariant
    ∙ ap (λ (ps : List RawPart). flat_map (dropped_of (has_id c.args.stay.now) (names_in (functions c.args.all.now))) (map part_record ps)) (take_all c.parts.part-index c.args.parts.now c.parts-test.false)
