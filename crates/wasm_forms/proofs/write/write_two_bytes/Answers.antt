use Rattle.std.proofs.Common.{ℕ, ◌+◌, ◌/◌, ◌%◌, List, [], ◌∷◌, sym, rules}
use Rattle.wasm_forms.specs.Spelling.{number_bytes}
use Rattle.wasm_forms.specs.Writing.{NeedsRoom}
use Rattle.wasm_forms.proofs.Groups.{two_bytes}
use Rattle.wasm_forms.proofs.Room.{needs_as}
use Rattle.wasm_forms.proofs.write.write_two_bytes.Goals as goal

pub returns-clause-written : goal.returns-clause-written
returns-clause-written c = rw (two_bytes c.args.value c.requires.more c.requires.few) c.extend_from_slice.ensures.items

pub returns-clause-room : goal.returns-clause-room
returns-clause-room c =
    let spelled : List ℕ = (128 + c.args.value % 128) ∷ (c.args.value / 128) ∷ [] in
    let enough : NeedsRoom c.extend_from_slice.result c.args.to.now c.extend_from_slice.new.self spelled = search rules in
    needs_as c.extend_from_slice.result _ _ spelled (number_bytes c.args.value) (sym (two_bytes c.args.value c.requires.more c.requires.few)) enough
