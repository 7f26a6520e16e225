use Rattle.std.proofs.Common.{◌∙◌, List, length, map, ap, subst}
use Rattle.walrus_base.specs.declared.id.Id.{Id}
use Rattle.walrus_base.specs.declared.keys.FunctionKey.{FunctionKey}
use Rattle.std.proofs.lemmas.Result.{err_from_is_err_and}
use Rattle.walrus_code.specs.Indices.{index_of}
use Rattle.walrus_writing.proofs.PayloadRefusals.{both_refused}
use Rattle.walrus_plan.specs.Places.{places}
use Rattle.walrus_writing.specs.Customs.{chosen_producers}
use Rattle.walrus_writing.specs.Names.{all_local_names, first_own, if_chosen, names_said}
use Rattle.walrus_writing.proofs.NamesLemmas.{few_behind, few_brought}
use Rattle.walrus_base.specs.Locals.{locals}
use Rattle.walrus_base.specs.Operators.{Functions}
use Rattle.walrus_writing.specs.Bodies.{AreBodies}
use Rattle.walrus_writing.specs.Parts.{BodySeen}
use Rattle.walrus_writing.proofs.write.make.Goals as goal

pub first_index-first-requires : goal.first_index-first-requires
first_index-first-requires c = record { few = few_brought c.args.prepared.now.plan (c.requires.planned.few Functions) }

pub written_bodies-requires-clause-few : goal.written_bodies-requires-clause-few
written_bodies-requires-clause-few c =
    few_behind c.args.prepared.now.plan c.first_index-first.result (length c.as_slice-order.result.now) c.first_index-first.ensures (ap length c.as_slice-order.ensures.value) (c.requires.planned.few Functions)

pub returns-in_err-payloads-clause-fails : goal.returns-in_err-payloads-clause-fails
returns-in_err-payloads-clause-fails c =
    let w = c.in_ok-written.ensures.value in
    let used = map (λ (b : BodySeen). b.used) w.bodies in
    let p = err_from_is_err_and c.from_residual-in_err-payloads.result c.from_residual-in_err-payloads.ensures.1 in
    rw (p.1, p.2)
    (both_refused (if_chosen c.args.choices.now.names (names_said c.args.parts (places c.args.prepared.now.plan) (first_own c.args.prepared.now.plan) used)) (chosen_producers c.args.parts c.args.choices.now) c.args.parts c.args.choices.now.features _
    (c.in_err-payloads.ensures used (λ asked. w.names_are asked ∙ ap (λ first. all_local_names (locals c.args.parts.locals.now) first used) c.first_index-first.ensures)))

pub returns-clause-written : goal.returns-clause-written
returns-clause-written c =
    let w = c.in_ok-written.ensures.value in
    let used = map (λ (b : BodySeen). b.used) w.bodies in (
      w.bodies,
      (
        subst (λ (ids : List (Id FunctionKey)). AreBodies c.args.parts (index_of c.args.prepared.now.indices) c.args.choices.now.features ids w.bodies) c.as_slice-order.ensures.value w.are,
        w.texts_are,
        c.in_ok-payloads.ensures used (λ asked. w.names_are asked ∙ ap (λ first. all_local_names (locals c.args.parts.locals.now) first used) c.first_index-first.ensures),
      ),
    )
