use Rattle.std.proofs.Common.{◌++◌, map, take, drop}
use Rattle.std.specs.List.{IsDistinct}
use Rattle.std.specs.List.Sorted.{IsStrictlySortedBy}
use Rattle.std.specs.Ordering.{nat_cmp}
use Rattle.walrus_base.specs.Id.{place}
use Rattle.walrus_base.specs.Locals.{locals}
use Rattle.walrus_functions.specs.Declaring.{is_taken, AreTyped, typed, same_local}
use Rattle.walrus_functions.specs.EmittedBody.{types_of}
use Rattle.walrus_functions.proofs.declared.typed_locals.Given as goal

-- those among the locals so far
abbrev pub invariant-loop-id : goal.invariant-loop-id
invariant-loop-id l = record {
  so_far : AreTyped (types_of (locals l.module_locals)) (map place (take l.id-index l.named)) (is_taken l.parameters) (map typed l.found.items);
  distinct : IsDistinct same_local l.found.items;
  rising : IsStrictlySortedBy nat_cmp (map (λ e. e.0) l.found.items ++ map place (drop l.id-index l.named));
}
