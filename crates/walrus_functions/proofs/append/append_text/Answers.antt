use Rattle.std.proofs.Common.{map}
use Rattle.walrus_base.specs.Id.{place}
use Rattle.walrus_functions.specs.EmittedBody.{source_of}
use Rattle.walrus_functions.specs.declared.append.AppendedBody.{AppendedBody}
use Rattle.walrus_functions.proofs.InPlaceWritten.{always, silent}
use Rattle.walrus_functions.proofs.append.append_text.Goals as goal

pub returns-then-arg_count-eq0 : goal.returns-then-arg_count-eq0
returns-then-arg_count-eq0 c =
    let s = source_of c.args.indices.now c.args.module_locals.now c.args.types.now c.args.function.now c.args.features.now in
    always s c.args.tells (λ (body : AppendedBody). map place body.order.items) (λ body. body.used.items) c.args.to.now.items c.append_bare.new.to.items c.append_bare.result c.append_bare.ensures

pub append_in_place-requires-clause-kept : goal.append_in_place-requires-clause-kept
append_in_place-requires-clause-kept c = c.stays_in_place.ensures.kept c.if-stays_in_place.true

pub returns-then-stays_in_place : goal.returns-then-stays_in_place
returns-then-stays_in_place c =
    let s = source_of c.args.indices.now c.args.module_locals.now c.args.types.now c.args.function.now c.args.features.now in
    silent s c.args.tells (λ (body : AppendedBody). map place body.order.items) (λ body. body.used.items) c.args.to.now.items c.append_in_place.new.to.items c.append_in_place.result (c.stays_in_place.ensures.silent c.if-stays_in_place.true) c.append_in_place.ensures

pub returns : goal.returns
returns c =
    let s = source_of c.args.indices.now c.args.module_locals.now c.args.types.now c.args.function.now c.args.features.now in
    always s c.args.tells (λ (body : AppendedBody). map place body.order.items) (λ body. body.used.items) c.args.to.now.items c.append_used.new.to.items c.append_used.result c.append_used.ensures
