use Rattle.std.proofs.Common.{◌≡◌, Some, refl, sym}
use Rattle.walrus_base.specs.Arena.{item_at}
use Rattle.walrus_base.specs.TypeDef.{type_def, type_name}
use Rattle.walrus_base.proofs.OwnIdLemmas.{under_own_ids-replaced}
use Rattle.walrus_base.proofs.SlotLemmas.{live_here, replaced_same, replaced_new}
use Rattle.walrus_base.proofs.slots.rename.Goals as goal

pub returns-in-Some-clause-defs : goal.returns-in-Some-clause-defs
returns-in-Some-clause-defs c =
    let old = c.args.places.now.items in
    let here : item_at old c.args.place ≡ Some c.in-Some.ty = live_here old c.args.place c.args.place c.index_mut.result.now c.in-Some.ty c.requires refl c.index_mut.ensures.value (sym c.in-Some.ensures.value) in
    replaced_same type_def old c.args.place c.take.new.self c.in-Some.ty (record c.in-Some.ty { name = c.args.name }) here refl

pub returns-in-Some-clause-names : goal.returns-in-Some-clause-names
returns-in-Some-clause-names c = replaced_new type_name c.args.places.now.items c.args.place c.take.new.self (record c.in-Some.ty { name = c.args.name })

pub returns-in-Some-clause-own : goal.returns-in-Some-clause-own
returns-in-Some-clause-own c = λ start.
    let old = c.args.places.now.items in
    let here : item_at old c.args.place ≡ Some c.in-Some.ty = live_here old c.args.place c.args.place c.index_mut.result.now c.in-Some.ty c.requires refl c.index_mut.ensures.value (sym c.in-Some.ensures.value) in
    under_own_ids-replaced start old c.args.place c.take.new.self c.in-Some.ty (record c.in-Some.ty { name = c.args.name }) here refl
