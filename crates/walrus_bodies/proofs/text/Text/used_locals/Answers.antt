use Rattle.std.proofs.Common.{ℕ, false, ap, ◌∙◌, length, replicate}
use Rattle.std.proofs.lemmas.List.{length-replicate}
use Rattle.walrus_bodies.specs.declared.plain_code.LeftOut.{LeftOut}
use Rattle.walrus_bodies.proofs.OrderLemmas.{in_order}
use Rattle.walrus_bodies.proofs.FlagLemmas.{used_shown, count_is, all_off}
use Rattle.walrus_bodies.proofs.text.Text.used_locals.Goals as goal

pub flag_marks-requires : goal.flag_marks-requires
flag_marks-requires c = rw (c.bytes.ensures, c.marks.ensures) (in_order c.args.self.now)

pub returns-clause-flags : goal.returns-clause-flags
returns-clause-flags c =
    let t = c.args.self.now in
    let off = all_off c.local_count.result _ c.new-flags.result.items c.resize.new.self.items c.new-flags.ensures.items c.new-flags.ensures.len c.in_ok-resize.ensures.items in
    let counted = ap (λ (n : ℕ). replicate n false) (c.local_count.ensures ∙ count_is t) in
    let marked = rw (c.bytes.ensures, c.marks.ensures) at c.flag_marks.ensures.flagged in
    used_shown t c.resize.new.self.items c.flag_marks.new.flags.items c.flag_from.new.flags.items (off ∙ counted) marked c.flag_marks.ensures.as_many
    (rw (ap (λ (o : LeftOut). o.first) c.left_out.ensures) at c.flag_from.ensures.flagged)

pub returns-clause-as_many : goal.returns-clause-as_many
returns-clause-as_many c =
    let off = all_off c.local_count.result _ c.new-flags.result.items c.resize.new.self.items c.new-flags.ensures.items c.new-flags.ensures.len c.in_ok-resize.ensures.items in
    c.flag_from.ensures.as_many ∙ c.flag_marks.ensures.as_many ∙ ap length off ∙ length-replicate c.local_count.result false ∙ c.local_count.ensures
