use Rattle.std.proofs.Common.{[], ◌∷◌, sym, ap, ◌∙◌}
use Rattle.std.specs.List.{range_with_len}
use Rattle.std.proofs.lemmas.Result.{err_from_is_err_and}
use Rattle.wasm_entries.specs.Record.{sub}
use Rattle.walrus_base.specs.Operators.{Types}
use Rattle.walrus_base.specs.ModuleTypes.{type_slots}
use Rattle.walrus_code.specs.Indices.{places_in}
use Rattle.walrus_groups.proofs.GroupLemmas.{counted, known, group-long, alone-found, group-read, group-refused, member-refused, places-after}
use Rattle.walrus_groups.proofs.read.read_alone.Goals as goal

pub give_index-requires-clause-in_place : goal.give_index-requires-clause-in_place
give_index-requires-clause-in_place c = counted _ _ c.requires.in_place

pub give_index-requires-clause-behind : goal.give_index-requires-clause-behind
give_index-requires-clause-behind c = c.next_id.ensures ∙ sym (known _ _ c.requires.in_place)

pub returns-in_err-give_index-clause-read : goal.returns-in_err-give_index-clause-read
returns-in_err-give_index-clause-read c =
    let p = err_from_is_err_and c.from_residual.result c.from_residual.ensures.1 in
    rw (p.1, p.2) (group-refused (c.args.raw.now ∷ []) (places_in c.args.indices.now Types) (type_slots c.args.types.now) (type_slots c.args.types.now) (c.next_id.result ∷ []) c.in_err-give_index.field-0.0 c.requires.in_place (ap (λ n. n ∷ []) c.next_id.ensures) c.in_err-give_index.ensures.refused)

pub returns-in_err-member-clause-read : goal.returns-in_err-member-clause-read
returns-in_err-member-clause-read c =
    let p = err_from_is_err_and c.from_residual-in_err-member.result c.from_residual-in_err-member.ensures.1 in
    let after = places-after (places_in c.args.indices.now Types) (places_in c.give_index.new.indices Types) (type_slots c.args.types.now) (c.next_id.result ∷ []) (c.args.raw.now ∷ []) c.requires.in_place (ap (λ n. n ∷ []) c.next_id.ensures) c.in_ok-give_index.ensures.in_place in
    rw (p.1, p.2) (member-refused c.give_index.new.indices (sub c.args.raw.now) (type_slots c.args.types.now) (type_slots c.args.types.now) c.in_err-member.field-0.0 after c.in_err-member.ensures)

pub returns-clause-read : goal.returns-clause-read
returns-clause-read c =
    let after = places-after (places_in c.args.indices.now Types) (places_in c.give_index.new.indices Types) (type_slots c.args.types.now) (c.next_id.result ∷ []) (c.args.raw.now ∷ []) c.requires.in_place (ap (λ n. n ∷ []) c.next_id.ensures) c.in_ok-give_index.ensures.in_place in
    group-read c.give_index.new.indices (sub c.args.raw.now ∷ []) _ _ (c.in_ok-member.member ∷ []) after (alone-found c.give_index.new.indices (sub c.args.raw.now) c.in_ok-member.member c.in_ok-member.ensures) c.in_ok-add_alone.ensures.slots

pub returns-clause-in_place : goal.returns-clause-in_place
returns-clause-in_place c =
    let after = places-after (places_in c.args.indices.now Types) (places_in c.give_index.new.indices Types) (type_slots c.args.types.now) (c.next_id.result ∷ []) (c.args.raw.now ∷ []) c.requires.in_place (ap (λ n. n ∷ []) c.next_id.ensures) c.in_ok-give_index.ensures.in_place in
    let read = group-read c.give_index.new.indices (sub c.args.raw.now ∷ []) (type_slots c.args.types.now) (type_slots c.add_alone.new.self) (c.in_ok-member.member ∷ []) after (alone-found c.give_index.new.indices (sub c.args.raw.now) c.in_ok-member.member c.in_ok-member.ensures) c.in_ok-add_alone.ensures.slots in
    after ∙ ap (λ n. range_with_len 0 n) (sym (group-long (sub c.args.raw.now ∷ []) (type_slots c.args.types.now) (type_slots c.add_alone.new.self) read))
