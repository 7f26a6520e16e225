use Rattle.std.proofs.Common.{length, map, sym, ap, ◌∙◌}
use Rattle.std.specs.List.{range_with_len}
use Rattle.std.proofs.lemmas.Result.{err_from_is_err_and}
use Rattle.wasm_entries.specs.Record.{sub}
use Rattle.walrus_base.specs.Operators.{Types}
use Rattle.walrus_base.specs.ModuleTypes.{type_slots}
use Rattle.walrus_code.specs.Indices.{places_in}
use Rattle.walrus_groups.proofs.GroupLemmas.{counted, ids-behind-types, places-after, group-long, group-read, group-refused, members-refused}
use Rattle.walrus_groups.proofs.Unnamed.{group_added}
use Rattle.walrus_groups.proofs.read.read_group.Goals as goal

pub give_indices-requires-clause-in_place : goal.give_indices-requires-clause-in_place
give_indices-requires-clause-in_place c = counted _ _ c.requires.in_place

pub give_indices-requires-clause-behind : goal.give_indices-requires-clause-behind
give_indices-requires-clause-behind c = ids-behind-types (places_in c.args.indices.now Types) (type_slots c.args.types.now) c.as_slice.result.now (length c.args.raw.now) c.requires.in_place (ap (map _) c.as_slice.ensures.value ∙ c.in_ok-ids.ensures)

pub returns-in_err-give_indices-clause-read : goal.returns-in_err-give_indices-clause-read
returns-in_err-give_indices-clause-read c =
    let p = err_from_is_err_and c.from_residual-in_err-give_indices.result c.from_residual-in_err-give_indices.ensures.1 in
    rw (p.1, p.2) (group-refused c.args.raw.now (places_in c.args.indices.now Types) (type_slots c.args.types.now) (type_slots c.args.types.now) c.as_slice.result.now c.in_err-give_indices.field-0.0 c.requires.in_place (ap (map _) c.as_slice.ensures.value ∙ c.in_ok-ids.ensures) c.in_err-give_indices.ensures.refused)

pub returns-in_err-members-clause-read : goal.returns-in_err-members-clause-read
returns-in_err-members-clause-read c =
    let p = err_from_is_err_and c.from_residual-in_err-members.result c.from_residual-in_err-members.ensures.1 in
    let after = places-after (places_in c.args.indices.now Types) (places_in c.give_indices.new.indices Types) (type_slots c.args.types.now) c.as_slice.result.now c.args.raw.now c.requires.in_place (ap (map _) c.as_slice.ensures.value ∙ c.in_ok-ids.ensures) c.in_ok-give_indices.ensures.in_place in
    rw (p.1, p.2) (members-refused c.give_indices.new.indices (map sub c.args.raw.now) (type_slots c.args.types.now) (type_slots c.args.types.now) c.in_err-members.field-0.0 after c.in_err-members.ensures)

pub returns-clause-read : goal.returns-clause-read
returns-clause-read c =
    let after = places-after (places_in c.args.indices.now Types) (places_in c.give_indices.new.indices Types) (type_slots c.args.types.now) c.as_slice.result.now c.args.raw.now c.requires.in_place (ap (map _) c.as_slice.ensures.value ∙ c.in_ok-ids.ensures) c.in_ok-give_indices.ensures.in_place in
    group-read c.give_indices.new.indices (map sub c.args.raw.now) _ _ _ after c.in_ok-members.ensures c.in_ok-add_group.ensures.slots

pub returns-clause-in_place : goal.returns-clause-in_place
returns-clause-in_place c =
    let after = places-after (places_in c.args.indices.now Types) (places_in c.give_indices.new.indices Types) (type_slots c.args.types.now) c.as_slice.result.now c.args.raw.now c.requires.in_place (ap (map _) c.as_slice.ensures.value ∙ c.in_ok-ids.ensures) c.in_ok-give_indices.ensures.in_place in
    let read = group-read c.give_indices.new.indices (map sub c.args.raw.now) (type_slots c.args.types.now) (type_slots c.add_group.new.self) c.in_ok-members.members.items after c.in_ok-members.ensures c.in_ok-add_group.ensures.slots in
    after ∙ ap (λ n. range_with_len 0 n) (sym (group-long (map sub c.args.raw.now) (type_slots c.args.types.now) (type_slots c.add_group.new.self) read))

pub returns-clause-unnamed : goal.returns-clause-unnamed
returns-clause-unnamed c = group_added _ _ _ c.in_ok-add_group.ensures.names
