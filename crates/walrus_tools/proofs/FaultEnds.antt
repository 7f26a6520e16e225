-- What is wrong with bytes, by what reading them found.
use Rattle.std.proofs.Common.{ℕ, List}
use Rattle.std.specs.Prelude.{Option, Some, None}
use Rattle.walrus.specs.Model.Config.{Config}
use Rattle.walrus.specs.Theorem.Features.{features_of}
use Rattle.walrus.proofs.Theorem.ReadAccepted.{accepts_read_lem}
use Rattle.walrus.specs.Modules.Faults.{FindsFault}
use Rattle.walrus.specs.Modules.Fault.{Fault}
use Rattle.walrus_tools.specs.Faults.{Finds}

pub found_so : (c : Config) (bytes : List ℕ) (found : Option Fault) → FindsFault (features_of c) bytes found → Finds c bytes found
found_so c bytes None h = (accepts_read_lem c bytes).1 (record { sections = h.sections; framed = h.framed; rules = h.rules; bodies = h.bodies; read = h.read })
found_so c bytes (Some fault) h = (
  h.0,
  (λ a.
      let r = (accepts_read_lem c bytes).0 a in
      h.1 (record { sections = r.sections; framed = r.framed; rules = r.rules; bodies = r.bodies; read = r.read })),
)
