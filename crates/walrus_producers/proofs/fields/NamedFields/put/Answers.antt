use Rattle.std.proofs.Common.{◌≡◌, set, sym, ap, subst, ◌∙◌}
use Rattle.std.specs.Prelude.{MatchResult}
use Rattle.std.proofs.lemmas.List.{map-set}
use Rattle.walrus_producers.specs.Fields.{field_name, field_seen, fields_seen}
use Rattle.walrus_producers.specs.Producers.{with_field}
use Rattle.walrus_producers.specs.Values.{IsIndex, first_of, value_seen}
use Rattle.walrus_producers.proofs.Index.{index_kept}
use Rattle.walrus_producers.proofs.PutLemmas.{field_pushed, field_put, name_kept, seen_or}
use Rattle.walrus_producers.proofs.fields.NamedFields.put.Goals as goal

pub invariant_of-self : goal.invariant_of-self
invariant_of-self c =
    let items = c.self.inside.fields.items in
    let was = c.index_mut.result.now in
    subst (IsIndex field_name c.self.inside.places) (sym (map-set field_seen items c.in-Some.place c.put.new.self))
    (index_kept field_name c.self.inside.places (fields_seen items) c.self.invariant (field_seen c.put.new.self) c.in-Some.place (field_seen was)
    (name_kept c.args.name.now (value_seen c.args.value) was c.put.new.self c.put.result c.put.ensures
    ∙ ap (λ f. field_name (field_seen f)) c.index_mut.ensures.value ∙ ap field_name (seen_or was items c.in-Some.place)))

pub returns-in-Some : goal.returns-in-Some
returns-in-Some c =
    let items = c.self.inside.fields.items in
    let at = ap (λ l. first_of field_name c.args.name.now (fields_seen l)) c.self.view_is ∙ sym c.place_of.ensures ∙ c.in-Some.is in
    subst (λ l. MatchResult c.put.result (λ x. fields_seen (set items c.in-Some.place c.put.new.self) ≡ with_field c.args.name.now (value_seen c.args.value) (fields_seen l))
    (λ e. fields_seen (set items c.in-Some.place c.put.new.self) ≡ fields_seen l)) c.self.view_is
    (field_put c.args.name.now (value_seen c.args.value) items c.in-Some.place c.index_mut.result.now c.put.new.self c.put.result at c.index_mut.ensures.value c.put.ensures)

pub returns-in_ok-new-in-None : goal.returns-in_ok-new-in-None
returns-in_ok-new-in-None c =
    field_pushed c.args.name.now (value_seen c.args.value) c.in_ok-new-in-None.field-0 c.args.self.now c.push.new.self c.push.result c.in_ok-new-in-None.ensures (sym c.place_of.ensures ∙ c.in-None.is) c.push.ensures
