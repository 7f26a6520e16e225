use Rattle.std.proofs.Common.{ap₂, map, ℕ, ◌∙◌}
use Rattle.walrus.specs.Base.Marks.{is_marked}
use Rattle.walrus.specs.Items.Transform.{range_of}
use Rattle.walrus_tools.specs.declared.goers.Alone.{Alone}
use Rattle.walrus_tools.proofs.GoersTurn.{sizes_are}
use Rattle.walrus_tools.proofs.goers.alone_of.Goals as goal

pub returns : goal.returns
returns c =
    let made : ℕ → ℕ → Alone = λ functions bytes. record { functions = functions; bytes = bytes } in
    ap₂ made c.count_marked.ensures (c.size_of_marked.ensures ∙ sizes_are (is_marked c.args.goers.now) (map range_of c.args.bodies.now))
