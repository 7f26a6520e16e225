use Rattle.std.proofs.Common.{◌+◌, List, map, drop, Ok, Err, sym, ◌∙◌, subst}
use Rattle.std.proofs.lemmas.Result.{err_from_is_err_and}
use Rattle.wasm_entries.specs.Record.{Group, sub, group}
use Rattle.walrus_base.specs.ModuleTypes.{type_slots}
use Rattle.walrus_groups.specs.Groups.{ReadsTypes}
use Rattle.walrus_groups.proofs.GroupLemmas.{none-read, group-then, group-ends, groups-next, groups-end}
use Rattle.walrus_groups.proofs.Unnamed.{added_then}
use Rattle.walrus_groups.proofs.read.read_types.Goals as goal

pub returns-in_err-read_members-clause-read : goal.returns-in_err-read_members-clause-read
returns-in_err-read_members-clause-read c =
    let p = err_from_is_err_and c.from_residual.result c.from_residual.ensures.1 in
    let next = groups-next c.args.groups.now c.loop-members.members-index c.members-item.result c.deref.result.now c.loop-members-test.true c.members-item.is c.deref.ensures.value in
    rw (p.1, p.2) (c.loop-members.invariant.told (type_slots c.read_members.new.types) (Err c.in_err-read_members.field-0.0)
    (subst (λ (gs : List Group). ReadsTypes gs (type_slots c.loop-members.types) (type_slots c.read_members.new.types) (Err c.in_err-read_members.field-0.0)) (sym next)
    (group-ends (map sub c.deref.result.now) (map group (drop (c.loop-members.members-index + 1) c.args.groups.now)) (type_slots c.loop-members.types) (type_slots c.read_members.new.types) (type_slots c.read_members.new.types) c.in_err-read_members.field-0.0 c.in_err-read_members.ensures.read)))

pub returns-clause-read : goal.returns-clause-read
returns-clause-read c =
    c.loop-members.invariant.told (type_slots c.loop-members.types) (Ok tt)
    (subst (λ (gs : List Group). ReadsTypes gs (type_slots c.loop-members.types) (type_slots c.loop-members.types) (Ok tt)) (sym (groups-end c.args.groups.now c.loop-members.members-index c.loop-members-test.false)) (none-read (type_slots c.loop-members.types)))

pub loop-members-preserved : goal.loop-members-preserved
loop-members-preserved c =
    let next = groups-next c.args.groups.now c.loop-members.members-index c.members-item.result c.deref.result.now c.loop-members-test.true c.members-item.is c.deref.ensures.value in
    record {
      in_place = c.in_ok-read_members.ensures.in_place;
      only_types = λ other differs. c.in_ok-read_members.ensures.only_types other differs ∙ c.loop-members.invariant.only_types other differs;
      unnamed = added_then _ _ _ c.loop-members.invariant.unnamed c.in_ok-read_members.ensures.unnamed;
      told = λ new r rest. c.loop-members.invariant.told new r
          (subst (λ (gs : List Group). ReadsTypes gs (type_slots c.loop-members.types) new r) (sym next)
          (group-then (map sub c.deref.result.now) (map group (drop (c.loop-members.members-index + 1) c.args.groups.now)) (type_slots c.loop-members.types) (type_slots c.read_members.new.types) new r c.in_ok-read_members.ensures.read rest));
    }
