use Rattle.std.proofs.Common.{ap, sym, ◌∙◌}
use Rattle.std.proofs.lemmas.List.{length-map}
use Rattle.walrus_bodies.specs.Text.{bytes_of, entry_of, texts_of, first_local_of}
use Rattle.walrus_bodies.specs.declared.plain_code.Entry.{Entry}
use Rattle.walrus_bodies.specs.Placed.{placed_op}
use Rattle.walrus_bodies.proofs.HeldLemmas.{whole}
use Rattle.walrus_bodies.proofs.TextLemmas.{row_of}
use Rattle.walrus_bodies.proofs.text.Text.size.Goals as goal

pub returns : goal.returns
unfolding texts_of first_local_of
returns c =
    let t = c.args.self.now in
    ap (λ (e : Entry). e.count) c.entry.ensures ∙ sym (length-map _ (placed_op t.first_local) ∙ (row_of (entry_of t).count (bytes_of t) (whole t)).1)
