use Rattle.std.proofs.Common.{◌≡◌, map, ap, ◌∙◌, ◌++◌, ◌∷◌, sym, [], inl, inr}
use Rattle.std.proofs.lemmas.List.{map-append}
use Rattle.std.specs.BTreeMap.{get}
use Rattle.std.specs.Option.{option_copied_mut}
use Rattle.walrus_base.specs.Id.{place}
use Rattle.walrus_base.specs.Composite.{function_type}
use Rattle.walrus_base.specs.contracts.composite.FunctionTypeOrd.TheImpl as order
use Rattle.walrus_base.proofs.FunctionSame.{function_equal, equal_function, order_total}
use Rattle.walrus_base.proofs.Noted.{has-push_new, pushed_ends, pushed_noted, inserted_ends, inserted_noted}
use Rattle.walrus_base.proofs.index.FunctionIndex.note.Goals as goal

pub returns-in_err-push-in-Some-clause-stays : goal.returns-in_err-push-in-Some-clause-stays
returns-in_err-push-in-Some-clause-stays c =
    pushed_ends order_total c.args.self.now.ids (c.get_mut.follows.lender c.push.new.self) c.args.function.now c.push.new.self
    (λ q. function_type q ≡ function_type c.args.function.now) (λ q same. sym (equal_function c.args.function.now q same))
    c.in-Some.ids.now (c.get_mut.follows.holds c.push.new.self)
    (sym c.get_mut.ensures.value ∙ ap (λ r. option_copied_mut r) c.in-Some.is) (place c.args.id) (inl (ap (λ ids. map (λ id. place id) ids) c.in_err-push-in-Some.ensures.items))

pub returns-in_ok-push-in-Some-clause-stays : goal.returns-in_ok-push-in-Some-clause-stays
returns-in_ok-push-in-Some-clause-stays c =
    pushed_ends order_total c.args.self.now.ids (c.get_mut.follows.lender c.push.new.self) c.args.function.now c.push.new.self
    (λ q. function_type q ≡ function_type c.args.function.now) (λ q same. sym (equal_function c.args.function.now q same))
    c.in-Some.ids.now (c.get_mut.follows.holds c.push.new.self)
    (sym c.get_mut.ensures.value ∙ ap (λ r. option_copied_mut r) c.in-Some.is) (place c.args.id)
    (inr (ap (λ ids. map (λ id. place id) ids) c.in_ok-push-in-Some.ensures.items ∙ map-append (λ id. place id) c.in-Some.ids.now.items (c.args.id ∷ [])))

pub returns-in_ok-push-in-Some-clause-noted : goal.returns-in_ok-push-in-Some-clause-noted
returns-in_ok-push-in-Some-clause-noted c = λ q same.
    pushed_noted order_total c.args.self.now.ids (c.get_mut.follows.lender c.push.new.self) c.args.function.now c.push.new.self c.in-Some.ids.now (c.get_mut.follows.holds c.push.new.self)
    (sym c.get_mut.ensures.value ∙ ap (λ r. option_copied_mut r) c.in-Some.is) (place c.args.id) (rw c.in_ok-push-in-Some.ensures.items (has-push_new c.in-Some.ids.now.items c.args.id))
    q (function_equal c.args.function.now q (sym same))

pub returns-in_ok-insert-in-None-clause-stays : goal.returns-in_ok-insert-in-None-clause-stays
returns-in_ok-insert-in-None-clause-stays c = λ q.
    let before = c.get_mut.follows.lender-at-none in
    let same = c.get_mut.follows.holds-at-none in
    rw (sym same) (inserted_ends order_total before c.insert.new.self c.in_ok-key-in-None.key c.push-in-None.new.self
    (λ q. function_type q ≡ function_type c.args.function.now) (λ q same. sym (equal_function c.in_ok-key-in-None.key q same) ∙ c.in_ok-key-in-None.ensures)
    c.in_ok-insert-in-None.ensures.updates
    c.args.function.now (function_equal c.in_ok-key-in-None.key c.args.function.now c.in_ok-key-in-None.ensures)
    (ap (λ m. get (order.ghosts).cmp m c.args.function.now) same ∙ sym c.get_mut.ensures.value ∙ ap (λ r. option_copied_mut r) c.in-None.is)
    (place c.args.id) (ap (λ ids. map (λ id. place id) ids) c.in_ok-push-in-None.ensures.items ∙ ap (λ ids. map (λ id. place id) (ids ++ c.args.id ∷ [])) c.new-ids.ensures.items)
    q)

pub returns-in_ok-insert-in-None-clause-noted : goal.returns-in_ok-insert-in-None-clause-noted
returns-in_ok-insert-in-None-clause-noted c = λ q same.
    inserted_noted order_total c.get_mut.follows.lender-at-none c.insert.new.self c.in_ok-key-in-None.key c.push-in-None.new.self c.in_ok-insert-in-None.ensures.updates
    (place c.args.id) (rw c.in_ok-push-in-None.ensures.items (rw c.new-ids.ensures.items (has-push_new [] c.args.id)))
    q (function_equal c.in_ok-key-in-None.key q (c.in_ok-key-in-None.ensures ∙ sym same))
