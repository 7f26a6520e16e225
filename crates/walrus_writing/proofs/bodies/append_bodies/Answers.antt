use Rattle.std.proofs.Common.{◌∙◌, ◌++◌, ℕ, List, arith, ap, length, map}
use Rattle.wasm_forms.specs.Spelling.{block_bytes}
use Rattle.wasm_payloads.specs.Lent.{locals_entry}
use Rattle.walrus_base.specs.Id.{place}
use Rattle.walrus_base.specs.Locals.{locals}
use Rattle.walrus_code.specs.Indices.{index_of}
use Rattle.walrus_writing.specs.Names.{used_listed}
use Rattle.walrus_writing.proofs.JoinedBodies.{all_appended, none_appended, one_appended}
use Rattle.walrus_writing.proofs.UsedNames.{told_or_none}
use Rattle.walrus_writing.proofs.bodies.append_bodies.Goals as goal

pub append_one-requires : goal.append_one-requires
append_one-requires c = record { indexed = c.requires.indexed c.order.id-index _ c.order-test.true }

pub order-init : goal.order-init
order-init c = record {
  counted = omega arith;
  appended = none_appended c.args.under.parts (index_of c.args.under.indices.now) c.args.under.features.now _ _ _ _ _ _ (ap (map locals_entry) c.new-named.ensures.items) c.new-lengths.ensures.items;
}

pub order-preserved : goal.order-preserved
order-preserved c =
    let seen = c.in_ok-body.ensures.value.0 in
    let is = c.in_ok-body.ensures.value.1 in
    let body = c.in_ok-body.body in
    let all = locals c.args.under.parts.locals.now in
    record {
      counted = omega (arith, c.order.invariant.counted);
      appended = one_appended c.args.under.parts (index_of c.args.under.indices.now) c.args.under.features.now c.args.first c.args.chosen c.args.asked c.args.order.now c.order.id-index _ _ _ _ _ _ (length c.as_slice.result.now) c.clear.new.self.items c.append_one.new.to.items _ c.order.to.items _ seen
          c.order-test.true c.order.invariant.counted c.order.invariant.appended is.written c.clear.ensures.items is.added
          (c.in_ok-append_sized.ensures.value ∙ ap (λ (l : List ℕ). c.order.to.items ++ block_bytes l) c.as_slice.ensures.value) (ap length c.as_slice.ensures.value) c.in_ok-append_sized.ensures.told
          (told_or_none all c.tells_names-tells.result c.args.chosen seen.used (used_listed (map place body.order.items) body.used.items) _ _ _ c.tells_names-tells.ensures.unnamed is.told c.in_ok-push_names.ensures.value (λ none. ap (map locals_entry) (c.in_ok-push_names.ensures.stays none)));
    }

pub returns-clause-value : goal.returns-clause-value
returns-clause-value c = all_appended c.args.under.parts (index_of c.args.under.indices.now) c.args.under.features.now c.args.first c.args.chosen c.args.asked c.args.order.now c.order.id-index _ _ _ _ c.order-test.false c.order.invariant.appended
