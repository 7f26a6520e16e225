-- What a function ends as, where its operators are lent.
use Rattle.std.specs.Prelude.{◌≡◌, List, Result}
use Rattle.std.specs.Borrow.{LendsSoOk, Fml, MutBor, RattleType}
use Rattle.std.specs.Global.{Vec}
use Rattle.std.specs.contracts.alloc.Global as global
use Rattle.std.specs.contracts.vec.Vec as vec
use Rattle.std.specs.contracts.impls.GlobalAllocator.TheImpl.{ghosts}
use Rattle.walrus_code.specs.Code.{ops_of}
use Rattle.walrus_code.specs.declared.operator.Operator.{Operator}
use Rattle.walrus_code.specs.contracts.operator.Operator as operator
use Rattle.walrus_bodies.specs.Results.{locations}
use Rattle.walrus_bodies.specs.Function.{body_of, locations_of, KeepsOthers}
use Rattle.walrus_bodies.specs.contracts.function.LocalFunction.{the_row}
use Rattle.walrus_bodies.specs.declared.function.LocalFunction.{LocalFunction}

-- operators as the logic holds them
abbrev pub operators_row : RattleType
operators_row = vec.the_row operator.the_row global.the_row ghosts

-- with these operators, and the rest as it was
pub record HasOperators (old new : LocalFunction) (operators : List Operator) : Type 0 where
  pub body : body_of new ≡ ops_of operators
  pub located : locations_of new ≡ locations operators
  pub others : KeepsOthers old new

-- once the borrow r ends, the function has the operators that were written through r last; at `Err` it is as it was
abbrev pub LendsOperators : {E : Type 0} → MutBor LocalFunction → Result (MutBor (Vec Operator)) E → Fml
LendsOperators f r = LendsSoOk the_row operators_row f r (λ new v. HasOperators f.now new v.items) (λ new. new ≡ f.now)
