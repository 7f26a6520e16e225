use Rattle.walrus_module.specs.View.{contents_of, view}
use Rattle.walrus.proofs.ReachedLemmas.{at_most_live, sets_kept}
use Rattle.walrus.proofs.passes.used.Used.counted.Goals as goal

pub returns : goal.returns
returns g c =
    let G = λ (i : g.dyn-1.0.I). (g.dyn-1.0.entry i).1 in
    let v = view G c.args.module.now in
    let found = c.in_ok-marks.ensures in
    record {
      kept = sets_kept v c.in_ok-marks.marks c.in_ok-of.field-0 found.kept c.in_ok-of.ensures;
      count = found.count;
      at_most = at_most_live (contents_of c.args.module.now) v.customs v.section_roots _ found.count found.sound;
      sound = found.sound;
    }
