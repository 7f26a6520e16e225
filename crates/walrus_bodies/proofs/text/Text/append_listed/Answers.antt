use Rattle.std.proofs.Common.{◌≡◌, ℕ, ap, ◌∙◌}
use Rattle.std.specs.Prelude.{Vec}
use Rattle.std.specs.declared.alloc.Global.{Global}
use Rattle.walrus_code.specs.declared.location.InstrLocId.{InstrLocId}
use Rattle.walrus_code.specs.Code.{ops_of}
use Rattle.walrus_code.specs.Indices.{index_of, local_index}
use Rattle.walrus_bodies.specs.Text.{ops_in}
use Rattle.walrus_bodies.proofs.WrittenLemmas.{written_under, refused_under}
use Rattle.walrus_bodies.proofs.text.Text.append_listed.Goals as goal

pub returns-in_err-_placed : goal.returns-in_err-_placed
returns-in_err-_placed c features =
    let t = c.args.self.now in
    let ops = ops_of c.as_slice-listed.result.now in
    let are : ops ≡ ops_in t = ap ops_of c.as_slice-listed.ensures.value ∙ c.in_ok-operators.ensures.body in
    let w = c.in_err-_placed.ensures.written in (
      w.0,
      refused_under t (index_of c.args.indices.now) (local_index c.args.locals.now) _ features c.args.to.now.items c.append_operators.new.to.items w.0 (Vec (InstrLocId × ℕ) Global) ops are c.from_residual-in_err-_placed.result c.in_err-_placed.field-0.0 c.from_residual-in_err-_placed.ensures.1 w.1.0,
    )

pub returns : goal.returns
returns c features =
    let t = c.args.self.now in
    let ops = ops_of c.as_slice-listed.result.now in
    let are : ops ≡ ops_in t = ap ops_of c.as_slice-listed.ensures.value ∙ c.in_ok-operators.ensures.body in
    let w = c.in_ok-_placed.ensures.written in
    (w.0, written_under t (index_of c.args.indices.now) (local_index c.args.locals.now) _ features c.args.to.now.items c.append_operators.new.to.items w.0 ops are w.1.0)
