use Rattle.std.proofs.lemmas.Result.{err_from_is_err_and}
use Rattle.walrus_plan.specs.Places.{places}
use Rattle.walrus_writing.specs.Customs.{chosen_producers}
use Rattle.walrus_writing.specs.Names.{first_own, if_chosen, names_said}
use Rattle.walrus_writing.proofs.PayloadRefusals.{names_refused, producers_refused}
use Rattle.walrus_writing.proofs.customs.made_payloads.Goals as goal

pub returns-in_err-names : goal.returns-in_err-names
returns-in_err-names c = λ used named.
    let p = err_from_is_err_and c.from_residual.result c.from_residual.ensures.1 in
    rw (p.1, p.2)
    (names_refused (if_chosen c.args.choices.now.names (names_said c.args.parts (places c.args.plan.now) (first_own c.args.plan.now) used)) (chosen_producers c.args.parts c.args.choices.now) _ (c.in_err-names.ensures used named))

pub returns-in_err-producers : goal.returns-in_err-producers
returns-in_err-producers c = λ used named.
    let p = err_from_is_err_and c.from_residual-in_err-producers.result c.from_residual-in_err-producers.ensures.1 in
    rw (p.1, p.2)
    (producers_refused (if_chosen c.args.choices.now.names (names_said c.args.parts (places c.args.plan.now) (first_own c.args.plan.now) used)) (chosen_producers c.args.parts c.args.choices.now) _ c.in_err-producers.ensures)

pub returns : goal.returns
returns c = λ used named. c.both_payloads.ensures _ _ (c.in_ok-names.ensures used named) c.in_ok-producers.ensures
