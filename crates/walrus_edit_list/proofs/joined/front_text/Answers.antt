use Rattle.std.proofs.Common.{◌≡◌, sym, ap, ◌∙◌, subst}
use Rattle.std.specs.List.{range_with_len}
use Rattle.std.specs.Prelude.{IfSome, Option}
use Rattle.walrus_bodies.specs.Function.{arg_count_of, args_of}
use Rattle.walrus_bodies.specs.Text.{first_local_of}
use Rattle.walrus_bodies.specs.declared.text.Text.{Text}
use Rattle.walrus_edit_list.proofs.Joining.{IsJoined, fronts_so}
use Rattle.walrus_edit_list.proofs.joined.front_text.Goals as goal

pub returns-in-Some-2 : goal.returns-in-Some-2
returns-in-Some-2 c =
    let own = c.args.own.now in
    let text = c.in-Some.text.now in
    let first : args_of own ≡ range_with_len (first_local_of text) (arg_count_of own) = subst (λ (o : Option Text). IfSome o (λ t. args_of own ≡ range_with_len (first_local_of t) (arg_count_of own))) (sym c.in-Some.ensures.is) c.args_are_first.ensures in
    let counted : arg_count_of own ≡ c.in-Ok.params = sym (c.in-Ok.ensures.1 ∙ c.arg_count.ensures) in
    let joined : IsJoined c.args.bytes.now text c.in-Some-2.made = rw c.in-Some-2.is at c.in_ok-made.ensures in
    fronts_so c.args.bytes.now own c.of_text.result text c.in-Some-2.made c.in-Ok.params (sym c.in-Some.ensures.is) c.in-Some.ensures.body (first ∙ ap (range_with_len (first_local_of text)) counted)
    joined
    (c.of_text.ensures.ty ∙ c.ty.ensures) c.of_text.ensures.args c.of_text.ensures.body c.of_text.ensures.name c.of_text.ensures.handler_types
