use Rattle.wasm_wire.proofs.Names.{told_by_neighbours}
use Rattle.wasm_wire.proofs.rules.exports.all_differ.Goals as goal

pub returns : goal.returns
returns c =
    told_by_neighbours c.args.names.items c.sort_unstable.new.self.items c.as_slice.result.now _ c.sort_unstable.ensures.permutation
    c.sort_unstable.ensures.sorted c.as_slice.ensures.value c.has_neighbours_alike.ensures
