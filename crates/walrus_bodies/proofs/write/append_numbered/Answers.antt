use Rattle.std.proofs.Common.{Bool, true, false, [], length, map, subst, Ok}
use Rattle.wasm_forms.specs.Number.{AreBytes}
use Rattle.wasm_text.specs.Marks.{with}
use Rattle.wasm_text.specs.Filling.{Fills, Numbering, anew}
use Rattle.walrus_bodies.specs.Emitting.{places_from}
use Rattle.walrus_bodies.specs.Numbers.{numbering}
use Rattle.walrus_bodies.specs.Text.{bytes_of, first_local_of, texts_of}
use Rattle.walrus_bodies.proofs.KeptLemmas.{written_as_well, none_as_well}
use Rattle.walrus_bodies.proofs.OrderLemmas.{in_order}
use Rattle.walrus_bodies.proofs.WrittenLemmas.{written, unnamed}
use Rattle.walrus_bodies.proofs.write.append_numbered.Goals as goal

pub append_filled-requires : goal.append_filled-requires
append_filled-requires g c = rw (c.bytes-bytes.ensures, c.marks-marks.ensures) (in_order c.args.text.now)

pub returns-then-branch : goal.returns-then-branch
unfolding first_local_of
returns-then-branch g c names given locals features same kept memory_kept agree =
    let t = c.args.text.now in
    let full = numbering names given t.first_local in
    let bytes : AreBytes (bytes_of t) = subst AreBytes c.bytes-bytes.ensures c.bytes_are_held.ensures in
    let f = subst (λ (b : Bool). Fills {E = Unit {0}} (g.N.Numbers.number c.args.numbers.now) c.bytes-bytes.result.now c.marks-marks.result.now c.args.to.now.items c.append_filled.new.to.items (Ok b)) c.if-branch.true c.in_ok-append_filled.ensures.fills in
    let h = subst (λ (n : Numbering). Fills {E = Unit {0}} n c.bytes-bytes.result.now c.marks-marks.result.now c.args.to.now.items c.append_filled.new.to.items (Ok true)) same f in
    let each = rw (c.bytes-bytes.ensures, c.marks-marks.ensures) at h.0 in
    let filled = rw (c.bytes-bytes.ensures, c.marks-marks.ensures) at h.1 in
    (places_from (length c.args.to.now.items) (map (with (anew full)) (texts_of t)), written_as_well t names given locals agree features c.args.to.now.items c.append_filled.new.to.items _ (written t names given features c.args.to.now.items c.append_filled.new.to.items (record { locals_kept = kept; memory_kept = memory_kept }) bytes each filled))

pub returns-else-branch : goal.returns-else-branch
unfolding first_local_of
returns-else-branch g c names given locals features same kept memory_kept agree =
    let t = c.args.text.now in
    let f = subst (λ (b : Bool). Fills {E = Unit {0}} (g.N.Numbers.number c.args.numbers.now) c.bytes-bytes.result.now c.marks-marks.result.now c.args.to.now.items c.append_filled.new.to.items (Ok b)) c.if-branch.false c.in_ok-append_filled.ensures.fills in
    let h = subst (λ (n : Numbering). Fills {E = Unit {0}} n c.bytes-bytes.result.now c.marks-marks.result.now c.args.to.now.items c.append_filled.new.to.items (Ok false)) same f in
    let some = rw (c.bytes-bytes.ensures, c.marks-marks.ensures) at h in
    ([], none_as_well t names given locals agree (unnamed t names given some))
