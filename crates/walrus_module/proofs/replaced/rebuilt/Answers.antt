use Rattle.std.proofs.Common.{rules, ◌≡◌, List, [], refl, inr, subst}
use Rattle.std.specs.Prelude.{Result}
use Rattle.walrus_base.specs.declared.id.Id.{Id}
use Rattle.walrus_base.specs.declared.keys.LocalKey.{LocalKey}
use Rattle.walrus_ir.specs.Sequence.{built}
use Rattle.walrus_ir.specs.declared.sequence.InstrSeqBuilder.{InstrSeqBuilder}
use Rattle.walrus_items.specs.declared.error.Error.{Error}
use Rattle.walrus_module.specs.Replaced.{Builds, IsBuilt}
use Rattle.walrus_module.proofs.replaced.rebuilt.Goals as goal

answered : {post : Builds} {args : List (Id LocalKey)} {a b : Result (Unit {0}) Error} {builder : InstrSeqBuilder} → a ≡ b → IsBuilt post args a builder → IsBuilt post args b builder
answered {post = post} same was = record { shown = was.shown; given = was.given; left = was.left; empty = was.empty; arguments = was.arguments; called = subst (λ r. post was.shown was.given r was.left) same was.called; leaves = was.leaves }

pub returns-in-Err : goal.returns-in-Err
returns-in-Err g c =
    let e : built c.new-body.result ≡ [] = search rules in
    inr (_, answered c.in-Err.is (record { shown = _; given = _; left = _; empty = e; arguments = refl; called = c.build.ensures; leaves = refl }))

pub returns : goal.returns
returns g c =
    let e : built c.new-body.result ≡ [] = search rules in
    record {
      builder = c.build.new.arg2;
      called = answered c.in_default.is (record { shown = _; given = _; left = _; empty = e; arguments = refl; called = c.build.ensures; leaves = refl });
      typed = search rules;
      takes = search rules;
      body = search rules;
      places = search rules;
      handlers = search rules;
      unnamed = search rules;
    }
