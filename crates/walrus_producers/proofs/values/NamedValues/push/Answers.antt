use Rattle.std.proofs.Common.{◌≡◌, ◌++◌, ◌∷◌, [], length, sym, ap, subst, ◌∙◌}
use Rattle.std.proofs.lemmas.List.{map-append, length-map}
use Rattle.walrus_producers.specs.Values.{IsIndex, value_name, value_seen, values_seen}
use Rattle.walrus_producers.proofs.Index.{index_none, index_told}
use Rattle.walrus_producers.proofs.values.NamedValues.push.Goals as goal
use Rattle.walrus_producers.proofs.values.NamedValues.push.Goals.{then-is_none+in_ok-name+in_ok-insert, else-is_none}

pub invariant_of-self-3 : goal.invariant_of-self-3
invariant_of-self-3 c =
    let values = values_seen c.reserve.new.self.items in
    let new = value_seen c.args.value in
    elim c.if-is_none.branch [
      | then-is_none+in_ok-name+in_ok-insert w ↦
          let items : values_seen c.push_reserved.new.self.items ≡ values ++ new ∷ [] =
          ap values_seen (c.push_reserved.ensures.items ∙ ap (λ s. s.values.items ++ c.args.value ∷ []) w.self-inside-is) ∙ map-append value_seen c.reserve.new.self.items (c.args.value ∷ []) in
          let told : IsIndex value_name w.insert.new.self (values ++ new ∷ []) =
          index_none value_name c.self.inside.places values (subst (IsIndex value_name c.self.inside.places) (ap values_seen (sym c.reserve.ensures.items)) c.self.invariant) new
          w.in_ok-name.name w.insert.new.self c.name.result.now c.place_of.result (length w.as_slice.result.now) (w.in_ok-name.ensures.ok ∙ w.name-then-is_none.ensures) (ap length w.as_slice.ensures.value ∙ sym (length-map c.reserve.new.self.items value_seen)) c.name.ensures c.place_of.ensures w.if-is_none.ensures w.in_ok-insert.ensures.updates in
          subst (λ p. IsIndex value_name p (values_seen c.push_reserved.new.self.items)) (sym (ap (λ s. s.places) w.self-inside-is)) (subst (IsIndex value_name w.insert.new.self) (sym items) told)
      | else-is_none w ↦
          let items : values_seen c.push_reserved.new.self.items ≡ values ++ new ∷ [] =
          ap values_seen (c.push_reserved.ensures.items ∙ ap (λ s. s.values.items ++ c.args.value ∷ []) w.self-inside-is) ∙ map-append value_seen c.reserve.new.self.items (c.args.value ∷ []) in
          let told : IsIndex value_name c.self.inside.places (values ++ new ∷ []) =
          index_told value_name c.self.inside.places values (subst (IsIndex value_name c.self.inside.places) (ap values_seen (sym c.reserve.ensures.items)) c.self.invariant) new c.name.result.now c.place_of.result c.name.ensures c.place_of.ensures w.if-is_none.ensures in
          subst (λ p. IsIndex value_name p (values_seen c.push_reserved.new.self.items)) (sym (ap (λ s. s.places) w.self-inside-is)) (subst (IsIndex value_name c.self.inside.places) (sym items) told)
    ]
