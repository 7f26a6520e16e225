use Rattle.std.proofs.Common.{inl, refl}
use Rattle.wasm_text.proofs.Shortest.{shortest_of}
use Rattle.wasm_text.specs.Places.{between}
use Rattle.wasm_text.proofs.scan.put_mark_if_padded.Goals as goal

pub returns-then-is_shortest-clause-marked : goal.returns-then-is_shortest-clause-marked
returns-then-is_shortest-clause-marked c = (refl, inl (shortest_of (between c.args.at c.args.behind c.args.bytes.now) c.is_shortest.result c.if-is_shortest.true c.is_shortest.ensures, refl))
