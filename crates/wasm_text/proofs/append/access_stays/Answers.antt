use Rattle.std.proofs.Common.{◌+◌, nat_eq, refl}
use Rattle.wasm_text.specs.Marks.{place_of}
use Rattle.wasm_text.specs.Places.{between}
use Rattle.wasm_text.proofs.Shortest.{shortest_of}
use Rattle.wasm_text.proofs.Staying.{access_if}
use Rattle.wasm_text.proofs.append.access_stays.Goals as goal

pub returns-then-is_shortest : goal.returns-then-is_shortest
returns-then-is_shortest g c =
    let short = shortest_of (between (place_of c.args.mark + 1) c.past_u64-behind.result c.args.bytes.now) c.is_shortest.result c.if-is_shortest.true c.is_shortest.ensures in
    access_if (g.N.Numbers.number c.args.numbers.now) c.args.bytes.now c.args.mark c.past_u64-behind.result c.in-Some.flags c.new_number-new.result c.requires c.if-flags-ge64.false c.in-Some.ensures.0 c.in-Some.ensures.1
    c.past_u64-behind.ensures c.if-behind.true short c.new_number-new.ensures (nat_eq c.new_number-new.result 0) refl
