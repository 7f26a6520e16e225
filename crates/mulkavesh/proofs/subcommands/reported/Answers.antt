use Rattle.mulkavesh.proofs.subcommands.reported.Goals as goal

pub returns : goal.returns
returns c = (c.in_ok-weighed.weighed, c.in_ok-weighed.ensures, c.in_ok-told.ensures)
