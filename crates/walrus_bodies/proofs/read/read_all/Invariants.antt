use Rattle.std.proofs.Common.{◌≡◌, ◌+◌, ◌-◌, ◌≤◌, List, [], ◌∷◌, ◌++◌, length}
use Rattle.std.specs.Fn.{FnReturnsAt}
use Rattle.walrus_code.specs.Code.{ops_of}
use Rattle.walrus_code.specs.Indices.{ids_at}
use Rattle.walrus_code.specs.Results.{locals_at}
use Rattle.walrus_code.specs.declared.location.InstrLocId.{InstrLocId}
use Rattle.walrus_bodies.specs.declared.blocks.Opened.TheVariants.{Plain}
use Rattle.walrus_bodies.specs.Body.{context, Located}
use Rattle.walrus_bodies.specs.OpenBlocks.{opened}
use Rattle.walrus_bodies.specs.Reader.{ops_at, behind}
use Rattle.walrus_bodies.specs.Results.{locations}
use Rattle.walrus_bodies.proofs.read.read_all.Given as goal

-- the operators so far and those that are left are the operators of the whole, and so are their locations
abbrev pub invariant-loop-turn : goal.invariant-loop-turn
invariant-loop-turn g l =
    let c = context (ids_at l.scope.indices.now) (g.T.FunctionTypes.function_types l.scope.types.now) l.scope.features.now in
    record {
      so_far : behind (ops_of l.operators.items) (ops_at c (locals_at l.scope.locals.now) (length l.bytes - l._turn) (opened l.blocks) l.rest) ≡ ops_at c (locals_at l.scope.locals.now) (length l.bytes) (Plain ∷ []) l.bytes;
      within : length l.rest ≤ length l.bytes;
      located : (locs : List InstrLocId) → Located (FnReturnsAt g.L.Fn l.locate) (l.place + (length l.bytes - length l.rest)) l.rest locs → Located (FnReturnsAt g.L.Fn l.locate) l.place l.bytes (locations l.operators.items ++ locs);
    }
