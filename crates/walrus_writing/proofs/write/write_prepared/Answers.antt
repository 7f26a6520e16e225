use Rattle.std.proofs.Common.{ℕ, map, sym, subst}
use Rattle.std.specs.Global.{Vec}
use Rattle.wasm_frames.specs.Record.{custom_record}
use Rattle.walrus_code.specs.Indices.{index_of}
use Rattle.walrus_items.specs.declared.transform.CodeTransform.{CodeTransform}
use Rattle.walrus_model.specs.Abstract.{Abstract}
use Rattle.walrus_writing.specs.Customs.{task}
use Rattle.walrus_writing.specs.Transform.{EmitsParts}
use Rattle.walrus_writing.proofs.BodiesTold.{told_ok}
use Rattle.walrus_writing.proofs.Emitting.{emitted_ok, unfit, small}
use Rattle.walrus_writing.proofs.RefusesAll.{items_refused}
use Rattle.walrus_writing.proofs.write.write_prepared.Goals as goal

pub returns-clause-written : goal.returns-clause-written
returns-clause-written c =
    λ config v with asked.
    let sections = map custom_record c.args.customs.now in
    let names = index_of c.args.prepared.indices in
    let p = c.args.parts in
    let plan = c.requires.planned in
    let choices = c.args.choices.now in
    let wrote = c.write_items.ensures in
    let bytes_of = λ (r : Vec ℕ × CodeTransform). r.0.items in
    subst (λ (x : Abstract). EmitsParts c.args.tells config p x c.write_items.result) (sym asked.parts)
    (record {
      emitted = emitted_ok config p c.requires.there c.requires.declared v.customs v.section_roots names sections asked.asked asked.texts choices with bytes_of c.write_items.result wrote.spells;
      refused = items_refused config p v.customs v.section_roots c.requires.there plan.matched plan.reads plan.in_order names sections choices with bytes_of c.write_items.result
          (unfit config p c.requires.there c.requires.declared v.customs v.section_roots names sections asked.asked asked.texts choices with, small config p c.requires.there c.requires.declared v.customs v.section_roots names sections asked.asked asked.texts choices with)
          wrote.spells wrote.refused;
      transform = λ tells. told_ok config p (task choices names sections) with c.requires.there c.requires.declared v.customs v.section_roots asked.asked asked.texts c.write_items.result wrote.spells (wrote.told tells);
    })

pub returns-clause-spells : goal.returns-clause-spells
returns-clause-spells c = c.write_items.ensures.spells
