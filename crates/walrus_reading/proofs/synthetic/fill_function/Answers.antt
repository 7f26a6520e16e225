use Rattle.std.proofs.Common.{Some, List, ℕ, ap, ◌∙◌, sym}
use Rattle.std.specs.Prelude.{Option}
use Rattle.walrus_base.specs.Id.{place}
use Rattle.walrus_items.specs.Functions.{FunctionValue, function_value, functions}
use Rattle.walrus_model.specs.Names.{or_else}
use Rattle.walrus_reading.specs.Shown.{mend_function}
use Rattle.walrus_reading.specs.Synthetic.{text_of_function}
use Rattle.walrus_reading.proofs.Filled.{put_name, stays_named}
use Rattle.walrus_reading.proofs.synthetic.fill_function.Goals as goal

pub returns-then-not-function_lacks_name-clause-filled :
    goal.returns-then-not-function_lacks_name-clause-filled
returns-then-not-function_lacks_name-clause-filled c =
    stays_named mend_function (λ f. f.name) (λ g x e. ap (λ (n : Option (List ℕ)). record x { name = n }) e) (functions c.args.all.now) c.args.place (text_of_function c.args.place)
    (sym c.function_lacks_name.ensures ∙ c.if-not-function_lacks_name.true)

pub returns-clause-filled : goal.returns-clause-filled
returns-clause-filled c =
    let v : FunctionValue = function_value c.get_mut.result.now in
    put_name mend_function (λ f. f.name) (λ g x e. ap (λ (n : Option (List ℕ)). record x { name = n }) e) function_value c.args.all.now.arena.places.items (place c.at.result) c.args.place (text_of_function c.args.place) _ v c.at.ensures c.get_mut.ensures.value
    (sym c.function_lacks_name.ensures ∙ c.if-not-function_lacks_name.false)
    (λ none. ap (λ (n : Option (List ℕ)). record v { name = n }) (ap (λ (t : List ℕ). Some t) c.in_ok-text.ensures.ok ∙ ap (λ (o : Option (List ℕ)). or_else o (Some (text_of_function c.args.place))) (sym none)))
