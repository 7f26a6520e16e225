use Rattle.std.proofs.Common.{rules, ◌≡◌, ℕ, ◌-◌, ◌<◌, ◌∙◌, [], length, map, arith, ap}
use Rattle.std.proofs.lemmas.Bool.Decides.{nat_tests}
use Rattle.wasm_payloads.specs.Lent.{locals_entry}
use Rattle.walrus_code.specs.Indices.{index_of}
use Rattle.walrus_writing.proofs.AppendedBodies.{coded, none_coded}
use Rattle.walrus_writing.proofs.JoinedBodies.{as_many, none_asked}
use Rattle.walrus_writing.proofs.code.write_code.Goals as goal

pub returns-then-is_empty : goal.returns-then-is_empty
returns-then-is_empty c =
    let none : length c.args.order.now ≡ 0 = grind (arith, nat_tests) in
    record {
      texts = [];
      written = none_asked c.args.under.parts (index_of c.args.under.indices.now) c.args.under.features.now c.args.order.now c.args.first c.args.chosen _ none (ap (map locals_entry) c.new.ensures.items);
      stands = none_coded c.args.to.now.items;
    }

pub returns : goal.returns
returns c =
    let some : 0 < length c.args.order.now = grind (arith, nat_tests) in
    let bodies = c.in_ok-told.ensures.value in
    let many = as_many c.args.under.parts (index_of c.args.under.indices.now) c.args.under.features.now c.args.order.now c.args.first c.args.chosen bodies.texts _ bodies.written in
    let sized : c.in-Ok.size ≡ c.len.result - c.len-until.result = search rules in
    let size : c.in-Ok.size < 4294967296 = search rules in
    record {
      texts = bodies.texts;
      written = bodies.written;
      stands = coded bodies.texts c.args.to.now.items c.push.new.self.items c.write_u32.new.to.items c.write_u32-2.new.to.items c.append_bodies.new.to.items c.put_number.new.to.items c.guess_of.result _ c.in-Ok.size c.len-from.result c.len-until.result
          (omega (arith, some, many)) many c.in_ok-push.ensures.items (c.len-from.ensures ∙ c.push.new.self.ok.0) c.in_ok-write_u32.ensures.written (c.len-until.ensures ∙ c.write_u32.new.to.ok.0) c.in_ok-write_u32-2.ensures.written bodies.stand
          (sized ∙ ap (λ (n : ℕ). n - c.len-until.result) (c.len.ensures ∙ c.append_bodies.new.to.ok.0)) size c.in_ok-put_number.ensures;
    }
