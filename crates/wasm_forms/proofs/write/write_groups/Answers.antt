use Rattle.std.proofs.Common.{[], ◌∷◌, ◌++◌, ap, ◌∙◌, arith}
use Rattle.wasm_forms.proofs.Groups.{partway_start, partway_turn, partway_end, partway_longer}
use Rattle.wasm_forms.proofs.Items.{stop_room}
use Rattle.wasm_forms.proofs.write.write_groups.Goals as goal

pub groups-init : goal.groups-init
groups-init c = record { way = partway_start _ _ _ _ (omega arith); room = omega arith }

pub groups-preserved : goal.groups-preserved
groups-preserved c = record {
  way = partway_turn c.args.to.now.items c.groups.to.items c.push.new.self.items c.args.below c.args.stop c.args.number c.groups.left (stop_room c.args.stop c.requires) c.groups-test.true
      (c.in_default.ensures.items ∙ ap (λ x. c.groups.to.items ++ x ∷ []) c.more_group.ensures) c.groups.invariant.way;
  room = omega arith;
}

pub returns-in-Err-clause-room : goal.returns-in-Err-clause-room
returns-in-Err-clause-room c = omega (arith, c.in-Err.ensures.full, partway_longer c.args.to.now.items c.groups.to.items c.args.below c.args.stop c.args.number c.groups.left c.groups.invariant.way)

pub returns-in-Err-push-clause-room : goal.returns-in-Err-push-clause-room
returns-in-Err-push-clause-room c = omega (arith, c.in-Err-push.ensures.full, partway_longer c.args.to.now.items c.groups.to.items c.args.below c.args.stop c.args.number c.groups.left c.groups.invariant.way)

pub returns-clause-written : goal.returns-clause-written
returns-clause-written c =
    partway_end c.args.to.now.items c.groups.to.items c.push-2.new.self.items c.args.below c.args.stop c.args.number c.groups.left c.groups-test.false
    (c.in_default-push.ensures.items ∙ ap (λ x. c.groups.to.items ++ x ∷ []) c.last_group.ensures) c.groups.invariant.way
