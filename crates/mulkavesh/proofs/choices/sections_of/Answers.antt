use Rattle.std.proofs.Common.{List, [], ◌∷◌, ◌++◌, codes, ap, ◌∙◌}
use Rattle.walrus_sections.specs.Choice.{Choice}
use Rattle.mulkavesh.specs.Choices.{all_choices, choices_about, going, where_said}
use Rattle.mulkavesh.specs.declared.choices.About.TheVariants.{Sections}
use Rattle.mulkavesh.proofs.choices.sections_of.Goals as goal

pub returns : goal.returns
returns c =
    let gone = c.args.order.now.gone in
    let named = c.in_ok-choices.ensures ∙ ap (choices_about Sections) c.deref.ensures.value in
    let names = c.in_ok-add_where.ensures ∙ ap (λ (l : List Choice). l ++ where_said gone.names (going (codes "name") ∷ [])) named in
    let producers = c.in_ok-add_where-2.ensures ∙ ap (λ (l : List Choice). l ++ where_said gone.producers (going (codes "producers") ∷ [])) names in
    let debug = c.in_ok-add_where-3.ensures ∙ ap (λ (l : List Choice). l ++ where_said gone.debug (going (codes ".debug*") ∷ [])) producers in
    c.in_ok-add_all_where.ensures ∙ ap (λ (l : List Choice). l ++ where_said c.args.order.now.is_all all_choices) debug
