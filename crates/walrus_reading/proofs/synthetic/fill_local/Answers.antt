use Rattle.std.proofs.Common.{Some, List, ℕ, map, ap, ◌∙◌, sym}
use Rattle.std.specs.Prelude.{Option, option_map}
use Rattle.walrus_base.proofs.FullSlots.{full_set}
use Rattle.walrus_base.specs.Id.{place}
use Rattle.walrus_base.specs.Locals.{locals}
use Rattle.walrus_model.specs.Names.{or_else}
use Rattle.walrus_reading.specs.Shown.{LocalValue, local_value, local_values, mend_local}
use Rattle.walrus_reading.specs.Synthetic.{text_of_local}
use Rattle.walrus_reading.proofs.Filled.{put_name, stays_named}
use Rattle.walrus_reading.proofs.Put.{seen_there}
use Rattle.walrus_reading.proofs.synthetic.fill_local.Goals as goal

pub returns-then-not-local_lacks_name-clause-filled :
    goal.returns-then-not-local_lacks_name-clause-filled
returns-then-not-local_lacks_name-clause-filled c =
    stays_named mend_local (λ l. l.name) (λ g x e. ap (λ (n : Option (List ℕ)). record x { name = n }) e) (local_values c.args.all.now) c.args.place (text_of_local c.args.parameters c.args.local)
    (sym c.local_lacks_name.ensures ∙ c.if-not-local_lacks_name.true)

pub returns-clause-filled : goal.returns-clause-filled
returns-clause-filled c =
    let v : LocalValue = local_value c.get_mut.result.now in
    let text : List ℕ = text_of_local c.args.parameters c.args.local in
    ap (map (option_map local_value)) (full_set c.args.all.now.places.items (place c.at.result) _)
    ∙ put_name mend_local (λ l. l.name) (λ g x e. ap (λ (n : Option (List ℕ)). record x { name = n }) e) local_value (locals c.args.all.now) (place c.at.result) c.args.place text _ v c.at.ensures
    (seen_there local_value (locals c.args.all.now) (place c.at.result) c.get_mut.result.now c.get_mut.ensures.value)
    (sym c.local_lacks_name.ensures ∙ c.if-not-local_lacks_name.false)
    (λ none. ap (λ (n : Option (List ℕ)). record v { name = n }) (ap (λ (t : List ℕ). Some t) c.in_ok-text.ensures ∙ ap (λ (o : Option (List ℕ)). or_else o (Some text)) (sym none)))
