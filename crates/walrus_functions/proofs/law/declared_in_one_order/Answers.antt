use Rattle.walrus_functions.proofs.LawOrder.{declared_once, grouped_once}
use Rattle.walrus_functions.proofs.law.declared_in_one_order.Goals as goal

pub returns-clause-order : goal.returns-clause-order
returns-clause-order c = declared_once

pub returns-clause-groups : goal.returns-clause-groups
returns-clause-groups c = grouped_once
