use Rattle.std.proofs.Common.{map, sym}
use Rattle.std.proofs.lemmas.Result.{err_from_is_err_and}
use Rattle.walrus_base.specs.Id.{place}
use Rattle.walrus_code.specs.Indices.{index_of, local_index}
use Rattle.walrus_functions.specs.declared.emit.EmittedBody.{EmittedBody}
use Rattle.walrus_writing.proofs.Indexed.{body_refused, local_seen}
use Rattle.walrus_writing.proofs.LocatedBodies.{offsets_written}
use Rattle.walrus_writing.proofs.offsets.one_body.Goals as goal

pub returns-clause-value : goal.returns-clause-value
returns-clause-value c = record {
  local = c.in-Some.local.now;
  is = local_seen c.args.under.parts (place c.args.id) c.in-Some.local.now (sym c.in-Some.ensures);
  places = map (λ p. p.1) c.in_ok-body.body.places.items;
  numbers = local_index c.in_ok-body.body.locals;
  ids = map place c.in_ok-body.body.order.items;
  used = c.in_ok-body.body.used.items;
  written = c.in_ok-body.ensures.written;
}

pub returns-in_err-body-clause-fails : goal.returns-in_err-body-clause-fails
returns-in_err-body-clause-fails c =
    let p = err_from_is_err_and c.from_residual.result c.from_residual.ensures.1 in
    rw (p.1, p.2) (body_refused c.args.under.parts (index_of c.args.under.indices.now) c.args.under.features.now (place c.args.id) c.in-Some.local.now (λ (b : EmittedBody). b.bytes.items) (λ b. map (λ p. p.1) b.places.items) (λ b. local_index b.locals) (λ b. map place b.order.items) (λ b. b.used.items) _ c.requires.indexed (sym c.in-Some.ensures) c.in_err-body.ensures.written)

pub returns-clause-located : goal.returns-clause-located
returns-clause-located c =
    let body = c.in_ok-body.body in
    offsets_written c.args.under.parts (index_of c.args.under.indices.now) c.args.under.features.now (place c.args.id) c.in-Some.local.now body.places.items body.bytes.items (local_index body.locals)
    (map place body.order.items) body.used.items (sym c.in-Some.ensures) c.in_ok-body.ensures.located c.in_ok-body.ensures.written
