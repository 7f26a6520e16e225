use Rattle.std.proofs.Common.{◌≡◌, ℕ, List, ap, rules}
use Rattle.std.specs.Prelude.{Some, option_map}
use Rattle.std.specs.String.{string_bytes}
use Rattle.wasm_frames.specs.Record.{Custom}
use Rattle.walrus_edit_list.specs.Held.{custom_value}
use Rattle.walrus_edit_list.proofs.customs.put_bytes.Goals as goal

-- a section of this name with these bytes
abbrev with_bytes : (name bytes : List ℕ) → Custom
with_bytes name bytes = record { name = name; bytes = bytes }

pub returns-in_ok-section-in-Some : goal.returns-in_ok-section-in-Some
returns-in_ok-section-in-Some c =
    let copied : c.in_ok-section-in-Some.field-0.items ≡ c.args.bytes.now = search rules in
    (custom_value c.in-Some.section, ap (option_map custom_value) c.in-Some.is, ap (λ (x : Custom). Some x) (ap (with_bytes (string_bytes c.in-Some.section.name)) copied))
