use Rattle.std.proofs.Common.{◌≡◌, ℕ, ◌<◌, arith, refl}
use Rattle.walrus_base.specs.Id.{place}
use Rattle.walrus_functions.proofs.KnownLemmas.{noted_one}
use Rattle.walrus_functions.proofs.handlers.note_found.Goals as goal

pub returns-in_ok-insert : goal.returns-in_ok-insert
returns-in_ok-insert c =
    let below : place c.args.id < place c.args.next = omega arith in
    noted_one (λ (p : ℕ). (p ≡ place c.args.id) × (p < place c.args.next)) c.args.handler c.args.id c.args.known.now c.insert.new.self c.in_ok-insert.ensures.updates.0 (refl, below)
