use Rattle.std.proofs.Common.{rules, ◌≡◌, ◌<◌, ◌^◌, ◌++◌, length}
use Rattle.wasm_forms.specs.Spelling.{number_bytes}
use Rattle.wasm_forms.proofs.Adding.{adds_counted}
use Rattle.wasm_entries.proofs.Groups.{room_counted}
use Rattle.wasm_entries.specs.Record.{group}
use Rattle.wasm_entries.specs.TypeSpelling.{group_bytes, GroupFits}
use Rattle.wasm_entries.proofs.group.write_groups.Goals as goal

pub returns-clause-adds : goal.returns-clause-adds
returns-clause-adds c =
    let n : c.in-Ok.count ≡ length c.args.groups.now = search rules in
    let l : c.in-Ok.count < 2 ^ 32 = search rules in
    let e : c.write_u32.new.to.items ≡ c.args.to.now.items ++ number_bytes c.in-Ok.count = search rules in
    adds_counted group GroupFits group_bytes c.args.groups.now c.write_each.result c.args.to.now.items c.write_u32.new.to.items c.write_each.new.to.items c.in-Ok.count n l e c.write_each.ensures.adds

pub returns-clause-room : goal.returns-clause-room
returns-clause-room c =
    let n : c.in-Ok.count ≡ length c.args.groups.now = search rules in
    let e : c.write_u32.new.to.items ≡ c.args.to.now.items ++ number_bytes c.in-Ok.count = search rules in
    room_counted group group_bytes c.args.groups.now c.write_each.result c.args.to.now c.write_u32.new.to c.write_each.new.to c.in-Ok.count n e c.in_ok-write_u32.ensures.room c.write_each.ensures.room
