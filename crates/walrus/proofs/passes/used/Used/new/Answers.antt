use Rattle.walrus_module.specs.View.{view}
use Rattle.walrus.proofs.ReachedLemmas.{sets_kept}
use Rattle.walrus.proofs.passes.used.Used.new.Goals as goal

pub returns : goal.returns
returns g c =
    let G = λ (i : g.dyn-1.0.I). (g.dyn-1.0.entry i).1 in
    record {
      kept = sets_kept (view G c.args.module.now) c.in_ok-marks.marks c.in_ok-of.field-0 c.in_ok-marks.ensures.kept c.in_ok-of.ensures;
      sound = c.in_ok-marks.ensures.sound;
    }
