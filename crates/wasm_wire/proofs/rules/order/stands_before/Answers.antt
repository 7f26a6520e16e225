use Rattle.std.proofs.Common.{◌<◌, arith}
use Rattle.std.proofs.lemmas.Bool.{ltb-true, lt-ltb}
use Rattle.wasm_wire.specs.Ranks.{rank_of}
use Rattle.wasm_wire.proofs.Order.{stands_from_ranks, lower_rank}
use Rattle.wasm_wire.proofs.rules.order.stands_before.Goals as goal

pub returns-then-first-gt0 : goal.returns-then-first-gt0
returns-then-first-gt0 c =
    let first : 0 < rank_of c.args.a = omega (arith, c.rank-first.ensures) in
    (λ h. stands_from_ranks c.args.a c.args.b first (omega (arith, c.rank-first.ensures, c.rank.ensures, ltb-true _ _ h)), λ h. let less = lower_rank c.args.a c.args.b h in lt-ltb _ _ (omega (arith, c.rank-first.ensures, c.rank.ensures)))
