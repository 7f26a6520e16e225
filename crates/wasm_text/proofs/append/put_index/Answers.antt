use Rattle.std.proofs.Common.{◌+◌, arith}
use Rattle.wasm_text.specs.Marks.{place_of}
use Rattle.wasm_text.proofs.Shortest.{lone_between}
use Rattle.wasm_text.proofs.append.put_index.Goals as goal

pub put_index_as-requires-clause-shortest : goal.put_index_as-requires-clause-shortest
put_index_as-requires-clause-shortest g c = lone_between c.args.bytes.now (place_of c.args.mark) (place_of c.args.mark + 1) (omega arith)
