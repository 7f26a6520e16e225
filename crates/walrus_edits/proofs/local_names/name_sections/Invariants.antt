use Rattle.std.proofs.Common.{◌≡◌, ◌++◌, drop, map}
use Rattle.walrus.specs.Frames.Record.{custom_record}
use Rattle.walrus_edits.specs.LocalNames.{name_payloads}
use Rattle.walrus_edits.proofs.local_names.name_sections.Given as goal

-- the sections so far, and those called `name` of what is left
abbrev pub invariant-sections : goal.invariant-sections
invariant-sections l = map (λ c. c.bytes.now) l.kept.items ++ name_payloads (map custom_record (drop l.custom-index l.customs)) ≡ name_payloads (map custom_record l.customs)
