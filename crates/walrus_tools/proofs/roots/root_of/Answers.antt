use Rattle.std.proofs.Common.{◌≡◌, true, false, Option, ap, rules, subst, sym, ◌∙◌}
use Rattle.walrus.specs.Base.Id.{place}
use Rattle.walrus.specs.Base.Operators.{DataSegments, Elements, Item, function_item}
use Rattle.walrus.specs.Code.Code.{item_of}
use Rattle.walrus.specs.Code.ItemId.{ItemId}
use Rattle.walrus.specs.Contents.View.{lent, parts_view}
use Rattle.walrus_tools.specs.Links.{IsExported}
use Rattle.walrus_tools.specs.RootSteps.{FindsRoot}
use Rattle.walrus_tools.specs.declared.roots.Root.{Root}
use Rattle.walrus_tools.proofs.RootLemmas.{data_root, element_root, exported_so, function_root, not_exported, plain_root}
use Rattle.walrus_tools.proofs.roots.root_of.Goals as goal

pub returns-then-is_exported : goal.returns-then-is_exported
returns-then-is_exported c =
    let yes : c.is_exported.result ≡ true = search rules in
    exported_so (lent c.args.parts) (item_of c.args.item) (sym yes ∙ c.is_exported.ensures)

pub returns-in-Function : goal.returns-in-Function
returns-in-Function c =
    let v = parts_view c.args.parts in
    let no : c.is_exported.result ≡ false = search rules in
    let out = subst (λ (x : Item). IsExported v x → ⊥) (ap item_of c.in-Function.is) (not_exported (lent c.args.parts) (item_of c.args.item) (sym no ∙ c.is_exported.ensures)) in
    subst (λ (item : ItemId). FindsRoot v (item_of item) c.start_root.result) (sym c.in-Function.is)
    (subst (λ (r : Option Root). FindsRoot v (function_item (place c.in-Function.id)) r) (sym c.start_root.ensures) (function_root (lent c.args.parts) (place c.in-Function.id) out))

pub returns-in-Element : goal.returns-in-Element
returns-in-Element c =
    let v = parts_view c.args.parts in
    let no : c.is_exported.result ≡ false = search rules in
    let out = subst (λ (x : Item). IsExported v x → ⊥) (ap item_of c.in-Element.is) (not_exported (lent c.args.parts) (item_of c.args.item) (sym no ∙ c.is_exported.ensures)) in
    subst (λ (item : ItemId). FindsRoot v (item_of item) c.element_root.result) (sym c.in-Element.is)
    (subst (λ (r : Option Root). FindsRoot v (Elements, place c.in-Element.id) r) (sym c.element_root.ensures) (element_root (lent c.args.parts) (place c.in-Element.id) out))

pub returns-in-Data : goal.returns-in-Data
returns-in-Data c =
    let v = parts_view c.args.parts in
    let no : c.is_exported.result ≡ false = search rules in
    let out = subst (λ (x : Item). IsExported v x → ⊥) (ap item_of c.in-Data.is) (not_exported (lent c.args.parts) (item_of c.args.item) (sym no ∙ c.is_exported.ensures)) in
    subst (λ (item : ItemId). FindsRoot v (item_of item) c.data_root.result) (sym c.in-Data.is)
    (subst (λ (r : Option Root). FindsRoot v (DataSegments, place c.in-Data.id) r) (sym c.data_root.ensures) (data_root (lent c.args.parts) (place c.in-Data.id) out))

pub returns-in_default : goal.returns-in_default
returns-in_default c =
    let no : c.is_exported.result ≡ false = search rules in
    plain_root (lent c.args.parts) c.args.item (not_exported (lent c.args.parts) (item_of c.args.item) (sym no ∙ c.is_exported.ensures)) c.in_default.not-Function c.in_default.not-Element c.in_default.not-Data
