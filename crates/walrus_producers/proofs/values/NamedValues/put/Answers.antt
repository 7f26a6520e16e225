use Rattle.std.proofs.Common.{◌≡◌, Some, None, sym, subst, ap, ◌∙◌}
use Rattle.std.specs.Prelude.{position, slice_set}
use Rattle.std.proofs.lemmas.List.{map-set}
use Rattle.walrus_producers.specs.Values.{IsIndex, is_named, value_name, value_seen, values_seen}
use Rattle.walrus_producers.proofs.Index.{index_put}
use Rattle.walrus_producers.proofs.PutLemmas.{value_found, value_pushed}
use Rattle.walrus_producers.proofs.values.NamedValues.put.Goals as goal

pub invariant_of-self : goal.invariant_of-self
invariant_of-self c =
    let values = values_seen c.self.inside.values.items in
    let new = value_seen c.args.value in
    let at : position (is_named new.name) values ≡ Some c.in-Some.place =
    ap (λ n. position (is_named n) values) (sym c.name.ensures) ∙ ap (λ l. position (is_named c.name.result.now) (values_seen l)) c.self.view_is ∙ sym c.place_of.ensures ∙ c.in-Some.is in
    subst (IsIndex value_name c.self.inside.places) (sym (map-set value_seen c.self.inside.values.items c.in-Some.place c.args.value))
    (index_put value_name c.self.inside.places values c.self.invariant new c.in-Some.place at)

pub returns-in-Some : goal.returns-in-Some
returns-in-Some c =
    let new = value_seen c.args.value in
    let at : position (is_named new.name) (values_seen c.args.self.now) ≡ Some c.in-Some.place =
    ap (λ n. position (is_named n) (values_seen c.args.self.now)) (sym c.name.ensures) ∙ sym c.place_of.ensures ∙ c.in-Some.is in
    map-set value_seen c.self.inside.values.items c.in-Some.place c.args.value ∙ ap (λ l. slice_set (values_seen l) c.in-Some.place new) c.self.view_is ∙ value_found new (values_seen c.args.self.now) c.in-Some.place at

pub returns-in-None : goal.returns-in-None
returns-in-None c =
    let none : position (is_named (value_seen c.args.value).name) (values_seen c.args.self.now) ≡ None =
    ap (λ n. position (is_named n) (values_seen c.args.self.now)) (sym c.name.ensures) ∙ sym c.place_of.ensures ∙ c.in-None.is in
    value_pushed c.args.value c.args.self.now c.push.new.self c.push.result none c.push.ensures
