use Rattle.std.proofs.Common.{ℕ, List, ◌∷◌, ap, drop, sym, ◌∙◌, arith}
use Rattle.std.specs.Prelude.{◌<◌}
use Rattle.mulkavesh.specs.Visible.{hidden_length, shown}
use Rattle.mulkavesh.proofs.ShowLemmas.{hidden_first}
use Rattle.mulkavesh.proofs.visible.front_shown.Goals as goal

pub returns-then-hidden-gt0 : goal.returns-then-hidden-gt0
returns-then-hidden-gt0 c =
    let some : 0 < hidden_length c.args.text.now = omega arith in
    record {
      told = hidden_first c.args.text.now some ∙ ap (λ (l : List ℕ). 63 ∷ shown l) (ap (λ (n : ℕ). drop n c.args.text.now) (sym c.hidden_length-hidden.ensures.length) ∙ sym c.split_at.ensures.back);
      shorter = omega arith;
    }
