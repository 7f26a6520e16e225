use Rattle.std.proofs.Common.{rules, ◌≡◌, ◌≢◌, false, true, [], ◌∷◌, ◌++◌, List, map, sym, ap, ◌∙◌, subst, refl}
use Rattle.std.specs.Prelude.{AllPairs}
use Rattle.std.proofs.lemmas.List.{map-append}
use Rattle.walrus_code.specs.Code.{item_of}
use Rattle.walrus_code.specs.declared.items.ItemId.{ItemId}
use Rattle.walrus_base.specs.Operators.{Item}
use Rattle.walrus_contents.specs.Named.{items_in}
use Rattle.walrus.specs.MarkedItems.{has_mark}
use Rattle.walrus.proofs.Entered.{notes_again, notes_new, once_more}
use Rattle.walrus.proofs.passes.worklist.Worklist.note.Goals as goal

pub invariant_of-self-clause-once : goal.invariant_of-self-clause-once
invariant_of-self-clause-once c =
    let x = item_of c.args.item in
    let old = c.args.self.now in
    let off : has_mark old.marks x ≡ false = search rules in
    let grown : items_in c.push_reserved.new.self ≡ items_in old.entered ++ x ∷ [] = ap (λ (ids : List ItemId). map item_of ids) c.push_reserved.ensures.items ∙ map-append item_of old.entered.items (c.args.item ∷ []) in
    subst (λ (xs : List Item). AllPairs (λ (y z : Item). y ≢ z) xs) (sym grown) (once_more old.marks (items_in old.entered) c.requires.agrees x off old.once)

pub returns-then-is_new-clause-noted : goal.returns-then-is_new-clause-noted
returns-then-is_new-clause-noted c =
    let x = item_of c.args.item in
    let old = c.args.self.now in
    let off : has_mark old.marks x ≡ false = search rules in
    let grown : items_in c.push_reserved.new.self ≡ items_in old.entered ++ x ∷ [] = ap (λ (ids : List ItemId). map item_of ids) c.push_reserved.ensures.items ∙ map-append item_of old.entered.items (c.args.item ∷ []) in
    notes_new x old _ c.mark-is_new.ensures.marks c.requires.agrees off grown c.push_reserved.ensures.capacity refl

pub returns-else-is_new-clause-noted : goal.returns-else-is_new-clause-noted
returns-else-is_new-clause-noted c =
    let x = item_of c.args.item in
    let old = c.args.self.now in
    let on : has_mark old.marks x ≡ true = search rules in
    notes_again x old _ c.mark-is_new.ensures.marks c.requires.agrees on refl refl refl
