use Rattle.std.proofs.Common.{arith}
use Rattle.wasm_writer.proofs.Lengths.{counted_start, counted_turn, counted_end}
use Rattle.wasm_forms.proofs.Items.{stop_room}
use Rattle.wasm_writer.proofs.number.groups_len.Goals as goal

pub groups-init : goal.groups-init
groups-init c = counted_start _ _ (omega arith)

pub groups-preserved : goal.groups-preserved
groups-preserved c = counted_turn c.args.stop c.args.number c.groups.len c.groups.left (stop_room c.args.stop c.requires) c.groups-test.true c.groups.invariant

pub returns : goal.returns
returns c = record {
  written = counted_end c.args.stop c.args.number c.groups.len c.groups.left c.groups-test.false c.groups.invariant;
  short = omega (arith, c.groups.invariant.room);
}
