use Rattle.walrus.proofs.passes.used.marked.Goals as goal

pub returns : goal.returns
returns g c = record { kept = c.in_ok-marks.ensures.kept; sound = c.in_ok-marks.ensures.sound }
