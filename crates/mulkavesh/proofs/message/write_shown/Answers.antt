use Rattle.std.proofs.Common.{◌≡◌, ℕ, List, ◌++◌, append_assoc, sym, ap, ◌∙◌}
use Rattle.std.proofs.KnownBytes.{Appends-trans}
use Rattle.walrus_tools.proofs.DeviceLemmas.{on_err, front_of_first, front_of_second}
use Rattle.mulkavesh.specs.Visible.{shown}
use Rattle.mulkavesh.proofs.message.write_shown.Goals as goal

pub returns-in_err-write_all-clause-begun : goal.returns-in_err-write_all-clause-begun
returns-in_err-write_all-clause-begun g c =
    let i = c.pieces.invariant.0 in
    let piece = c.front_shown.result.0.now in
    let rest = shown c.front_shown.result.1.now in
    let whole : shown c.args.text.now ≡ i.0 ++ (piece ++ rest) = i.1 ∙ ap (λ (l : List ℕ). i.0 ++ l) c.front_shown.ensures.told in
    on_err c.from_residual.result
    (rw whole (front_of_second _ _ _ i.0 (piece ++ rest) i.2 (front_of_first _ _ piece rest c.in_err-write_all.ensures.begun)))

pub pieces-preserved : goal.pieces-preserved
pieces-preserved g c =
    let i = c.pieces.invariant.0 in
    let piece = c.front_shown.result.0.now in
    let rest = shown c.front_shown.result.1.now in (
      (
        i.0 ++ piece,
        i.1 ∙ ap (λ (l : List ℕ). i.0 ++ l) c.front_shown.ensures.told ∙ sym (append_assoc i.0 piece rest),
        Appends-trans _ _ _ i.0 piece i.2 c.in_ok-write_all.ensures.ok,
      ),
      c.in_ok-write_all.ensures.counts ∙ c.pieces.invariant.1,
    )
