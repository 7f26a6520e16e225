use Rattle.std.proofs.Common.{◌≡◌, ◌<◌, sym, ◌∙◌}
use Rattle.walrus_base.specs.Id.{place}
use Rattle.walrus_functions.proofs.KnownLemmas.{settled}
use Rattle.walrus_functions.proofs.handlers.note_settled.Goals as goal

pub returns-in_ok-note_found : goal.returns-in_ok-note_found
returns-in_ok-note_found c =
    settled c.args.bound c.args.handler (λ p. (p ≡ place c.args.id) × (p < place c.args.next)) c.args.known.now c.note_found.new.known (sym c.is_below.ensures ∙ c.if-is_below.true) c.in_ok-note_found.ensures
