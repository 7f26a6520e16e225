use Rattle.std.proofs.Common.{ℕ, List, ◌++◌, map, sym, ap, ap₂, ◌∙◌, subst, arith, nat_le}
use Rattle.std.specs.Bool.{Decides}
use Rattle.std.proofs.lemmas.List.{length-map}
use Rattle.walrus_base.specs.Id.{place}
use Rattle.walrus_base.specs.Operators.{locals_of}
use Rattle.walrus_functions.specs.Declaring.{AreOnce}
use Rattle.walrus_items.specs.Function.{args_of, body_of}
use Rattle.walrus_module.specs.Tested.{DeclaresFew}
use Rattle.walrus_module.proofs.FewLocals.{decided}
use Rattle.walrus_module.proofs.declared.declares_few.Goals as goal

pub returns : goal.returns
returns c =
    let f = c.args.function.now in
    let parameters = c.take_once.new.ids in
    let used = c.take_once-2.new.ids in
    let own : AreOnce (args_of f) (map place parameters.items) = subst (λ (xs : List ℕ). AreOnce xs (map place parameters.items)) c.in_ok-parameters.ensures c.take_once.ensures in
    let named = c.in_ok-push_named.ensures ∙ ap₂ (λ (xs ys : List ℕ). xs ++ ys) c.in_ok-used.ensures (ap locals_of (c.as_slice.ensures.body ∙ c.in_ok-operators.ensures.body)) in
    let all : AreOnce (args_of f ++ locals_of (body_of f)) (map place used.items) = subst (λ (xs : List ℕ). AreOnce xs (map place used.items)) named c.take_once-2.ensures in
    subst (λ (n : ℕ). Decides (nat_le n 50_000) (DeclaresFew f)) (sym c.saturating_sub.ensures)
    (decided f (map place used.items) (map place parameters.items) all own c.len.result c.len-2.result
    (omega (arith, c.len.ensures, length-map used.items place, used.ok.0))
    (omega (arith, c.len-2.ensures, length-map parameters.items place, parameters.ok.0)))
