use Rattle.std.proofs.Common.{◌≡◌, ◌++◌, ◌∷◌, [], length, sym, ap, subst, ◌∙◌}
use Rattle.std.proofs.lemmas.List.{map-append, length-map}
use Rattle.walrus_producers.specs.Fields.{field_name, field_seen, fields_seen}
use Rattle.walrus_producers.specs.Values.{IsIndex}
use Rattle.walrus_producers.proofs.Index.{index_none, index_told}
use Rattle.walrus_producers.proofs.fields.NamedFields.push.Goals as goal
use Rattle.walrus_producers.proofs.fields.NamedFields.push.Goals.{then-is_none+in_ok-name+in_ok-insert, else-is_none}

pub invariant_of-self-3 : goal.invariant_of-self-3
invariant_of-self-3 c =
    let fields = fields_seen c.reserve.new.self.items in
    let new = field_seen c.args.field in
    elim c.if-is_none.branch [
      | then-is_none+in_ok-name+in_ok-insert w ↦
          let items : fields_seen c.push_reserved.new.self.items ≡ fields ++ new ∷ [] =
          ap fields_seen (c.push_reserved.ensures.items ∙ ap (λ s. s.fields.items ++ c.args.field ∷ []) w.self-inside-is) ∙ map-append field_seen c.reserve.new.self.items (c.args.field ∷ []) in
          let told : IsIndex field_name w.insert.new.self (fields ++ new ∷ []) =
          index_none field_name c.self.inside.places fields (subst (IsIndex field_name c.self.inside.places) (ap fields_seen (sym c.reserve.ensures.items)) c.self.invariant) new
          w.in_ok-name.name w.insert.new.self c.name.result.now c.place_of.result (length w.as_slice.result.now) (w.in_ok-name.ensures.ok ∙ w.name-then-is_none.ensures) (ap length w.as_slice.ensures.value ∙ sym (length-map c.reserve.new.self.items field_seen)) c.name.ensures c.place_of.ensures w.if-is_none.ensures w.in_ok-insert.ensures.updates in
          subst (λ p. IsIndex field_name p (fields_seen c.push_reserved.new.self.items)) (sym (ap (λ s. s.places) w.self-inside-is)) (subst (IsIndex field_name w.insert.new.self) (sym items) told)
      | else-is_none w ↦
          let items : fields_seen c.push_reserved.new.self.items ≡ fields ++ new ∷ [] =
          ap fields_seen (c.push_reserved.ensures.items ∙ ap (λ s. s.fields.items ++ c.args.field ∷ []) w.self-inside-is) ∙ map-append field_seen c.reserve.new.self.items (c.args.field ∷ []) in
          let told : IsIndex field_name c.self.inside.places (fields ++ new ∷ []) =
          index_told field_name c.self.inside.places fields (subst (IsIndex field_name c.self.inside.places) (ap fields_seen (sym c.reserve.ensures.items)) c.self.invariant) new c.name.result.now c.place_of.result c.name.ensures c.place_of.ensures w.if-is_none.ensures in
          subst (λ p. IsIndex field_name p (fields_seen c.push_reserved.new.self.items)) (sym (ap (λ s. s.places) w.self-inside-is)) (subst (IsIndex field_name c.self.inside.places) (sym items) told)
    ]
