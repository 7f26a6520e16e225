use Rattle.std.proofs.Common.{rules}
use Rattle.wasm_entries.specs.Record.{group}
use Rattle.walrus_groups.proofs.write.append_group.Goals as goal

pub returns-in-Some : goal.returns-in-Some
returns-in-Some c = record {
  one = group c.in_ok-members.members;
  said = c.in_ok-members.ensures.indexed;
  appends = c.in_ok-write_group.ensures.adds.0;
  fits = c.in_ok-write_group.ensures.adds.1;
  counted = search rules;
}
