use Rattle.walrus_sections.proofs.PartRows.{module_has_parts, one_part_list_lem, only_modules}
use Rattle.walrus_sections.proofs.parts.one_part_list.Goals as goal

pub returns-clause-once : goal.returns-clause-once
returns-clause-once c = one_part_list_lem

pub returns-clause-all : goal.returns-clause-all
returns-clause-all c = module_has_parts

pub returns-clause-only : goal.returns-clause-only
returns-clause-only c = only_modules
