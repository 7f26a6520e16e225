use Rattle.std.proofs.lemmas.Result.{err_from_is_err_and}
use Rattle.std.proofs.Common.{Bool, map, ap, subst, ◌∙◌}
use Rattle.wasm_frames.specs.Record.{custom_record, sections}
use Rattle.walrus_reading.specs.Customs.{kept_customs, section_seen}
use Rattle.walrus_reading.proofs.Accepting.{is_parsed}
use Rattle.walrus_reading.specs.Named.{HasNames}
use Rattle.walrus_reading.proofs.NamesTaken.{taken_from}
use Rattle.walrus_reading.proofs.NarrowRules.{narrow_rules}
use Rattle.walrus_reading.proofs.Refusals.{frames_refused, rules_refused, room_refused, bodies_refused, refused_bytes}
use Rattle.walrus_reading.proofs.Rooms.{fits_indices}
use Rattle.walrus_reading.proofs.module.read.Goals as goal

pub returns-in_err-raw-clause-refused : goal.returns-in_err-raw-clause-refused
returns-in_err-raw-clause-refused g c = λ config with.
    let p = err_from_is_err_and c.from_residual.result c.from_residual.ensures.1 in
    rw (p.1, p.2) (refused_bytes config c.args.features c.args.synthetic with c.args.bytes.now _ (frames_refused c.args.features c.args.bytes.now _ c.in_err-raw.ensures.only c.in_err-raw.ensures.not_large))

pub returns-in_err-check-clause-refused : goal.returns-in_err-check-clause-refused
returns-in_err-check-clause-refused g c = λ config with.
    let p = err_from_is_err_and c.from_residual-in_err-check.result c.from_residual-in_err-check.ensures.1 in
    rw (p.1, p.2) (refused_bytes config c.args.features c.args.synthetic with c.args.bytes.now _ (rules_refused c.args.features c.args.bytes.now (sections c.in_ok-raw.raw) _ c.in_ok-raw.ensures.found c.in_err-check.ensures))

pub returns-in_err-check_room-clause-refused : goal.returns-in_err-check_room-clause-refused
returns-in_err-check_room-clause-refused g c = λ config with.
    let p = err_from_is_err_and c.from_residual-in_err-check_room.result c.from_residual-in_err-check_room.ensures.1 in
    rw (p.1, p.2) (refused_bytes config c.args.features c.args.synthetic with c.args.bytes.now _ (room_refused c.args.features c.args.bytes.now (sections c.in_ok-raw.raw) _ c.in_ok-raw.ensures.found c.in_err-check_room.ensures))

pub read_named-requires-clause-rules : goal.read_named-requires-clause-rules
read_named-requires-clause-rules g c = narrow_rules (sections c.in_ok-raw.raw) c.in_ok-check.ensures

pub read_named-requires-clause-room : goal.read_named-requires-clause-room
read_named-requires-clause-room g c = fits_indices c.args.bytes.now (sections c.in_ok-raw.raw) c.in_ok-raw.ensures.found c.in_ok-check.ensures.in_order c.in_ok-check_room.ensures

pub returns-in_err-contents-clause-refused : goal.returns-in_err-contents-clause-refused
returns-in_err-contents-clause-refused g c = λ config with.
    let p = err_from_is_err_and c.from_residual-in_err-contents.result c.from_residual-in_err-contents.ensures.1 in
    rw (p.1, p.2) (refused_bytes config c.args.features c.args.synthetic with c.args.bytes.now _
    (bodies_refused c.args.features c.args.synthetic c.args.bytes.now (sections c.in_ok-raw.raw) _ c.in_ok-raw.ensures.found c.in_err-contents.ensures.taken))

pub returns-clause-taken : goal.returns-clause-taken
returns-clause-taken g c =
    taken_from c.args.features c.args.synthetic c.args.bytes.now (sections c.in_ok-raw.raw) c.in_ok-contents.contents c.in_ok-raw.ensures.found c.in_ok-check.ensures c.in_ok-contents.ensures.taken

pub returns-clause-kept : goal.returns-clause-kept
returns-clause-kept g c = record {
  sections = sections c.in_ok-raw.raw;
  framed = c.in_ok-raw.ensures.found;
  kept = c.in_ok-customs.ensures.kept ∙ ap (λ cs. kept_customs (map custom_record cs)) c.deref.ensures.value;
}

pub returns-clause-found : goal.returns-clause-found
returns-clause-found g c = λ config with.
    is_parsed config c.args.features c.args.bytes.now (sections c.in_ok-raw.raw) c.in_ok-contents.contents (map section_seen c.in_ok-customs.customs.items) with.features_are c.in_ok-raw.ensures.found c.in_ok-check.ensures
    (subst (λ (b : Bool). HasNames c.args.features b (sections c.in_ok-raw.raw) c.in_ok-contents.contents) with.synthetic_are c.in_ok-contents.ensures.taken) c.in_ok-contents.ensures.produced
    (c.in_ok-customs.ensures.kept ∙ ap (λ cs. kept_customs (map custom_record cs)) c.deref.ensures.value)
