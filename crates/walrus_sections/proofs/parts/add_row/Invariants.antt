-- Those that are left, behind the parts so far, are all of them behind the first ones. Each takes a byte at least.
use Rattle.std.proofs.Common.{◌≡◌, ◌+◌, ◌-◌, ◌≤◌, length, map}
use Rattle.walrus_sections.specs.Parts.{part_record}
use Rattle.walrus_sections.specs.PartSteps.{items_from}
use Rattle.walrus_sections.proofs.parts.add_row.Given as goal

abbrev pub invariant-items : goal.invariant-items
invariant-items l = record {
  within : length l.rest ≤ l.end;
  room : l.next + length l.rest ≤ l.index + length l.bytes;
  left : items_from l.is_code (l.count - l._taken) l.next l.end (map part_record l.to.items) l.rest
      ≡ items_from l.is_code l.count l.index l.end (map part_record l.initial.to.items) l.bytes;
}
