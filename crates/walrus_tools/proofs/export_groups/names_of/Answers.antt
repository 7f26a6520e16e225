use Rattle.std.proofs.Common.{◌≡◌, ℕ, List, ap, map, subst, sym, ◌∙◌}
use Rattle.std.specs.Global.{Vec}
use Rattle.std.specs.Option.{option_copied}
use Rattle.std.specs.Prelude.{IfOk, String, string_bytes}
use Rattle.std.specs.declared.alloc.Global.{Global}
use Rattle.walrus.specs.Code.Code.{item_of}
use Rattle.walrus_tools.specs.LinkSteps.{key_of, names_at, texts, texts_of}
use Rattle.walrus_tools.proofs.export_groups.names_of.Goals as goal

pub returns-in-Some : goal.returns-in-Some
returns-in-Some c =
    let there : texts c.as_slice.result.now ≡ names_at c.args.groups.now (key_of (item_of c.args.item)) =
    ap texts c.as_slice.ensures.value ∙ ap (λ r. texts_of (option_copied r)) (sym c.in-Some.is) ∙ ap (λ o. texts_of o) c.get.ensures.value ∙ ap (λ k. names_at c.args.groups.now k) c.key_of-key.ensures in
    subst (λ (ns : List (List ℕ)). IfOk c.all_owned.result (λ (all : Vec (String Global)). map string_bytes all.items ≡ ns)) there c.all_owned.ensures
