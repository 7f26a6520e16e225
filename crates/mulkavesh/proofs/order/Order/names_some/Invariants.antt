use Rattle.std.proofs.Common.{◌≡◌, drop}
use Rattle.std.specs.List.{list_any}
use Rattle.mulkavesh.specs.declared.order.Named.{Named}
use Rattle.mulkavesh.specs.Order.{takes_names}
use Rattle.mulkavesh.proofs.order.Order.names_some.Given as goal

-- what is so of one of the values that are left is so of one of all
abbrev pub invariant-values : goal.invariant-values
invariant-values l =
    list_any (λ (v : Named). takes_names l.self.work v.naming) (drop l.named-index l.self.values.items)
    ≡ list_any (λ (v : Named). takes_names l.self.work v.naming) l.self.values.items
