-- What has taken sections with their names is the module that the bytes read as.
use Rattle.std.proofs.Common.{◌≡◌, ℕ, List, map, refl, ap, subst, sym, ◌∙◌}
use Rattle.std.specs.Prelude.{flat_map, zip}
use Rattle.std.specs.List.{AllZip}
use Rattle.wasm_frames.specs.Frames.{Frames}
use Rattle.wasm_frames.specs.Record as wire
use Rattle.wasm_payloads.specs.Names.{Named, Names}
use Rattle.wasm_wire.specs.Rules.{Rules}
use Rattle.walrus_bodies.specs.declared.features.Features.{Features}
use Rattle.walrus_producers.specs.Seen.{producers}
use Rattle.walrus_model.specs.Abstract.{Custom, ProducerField}
use Rattle.walrus_model.specs.Config.{Config}
use Rattle.walrus_model.specs.Reads.{declared, ReadsBodyWith}
use Rattle.walrus_model.specs.Sections.{custom_of, customs_of}
use Rattle.walrus_theorem.specs.Chain.{ParsedAs}
use Rattle.walrus_theorem.specs.Features.{features_of}
use Rattle.walrus_theorem.specs.Headline.{ReadsModule, field_of}
use Rattle.walrus_theorem.specs.Sections.{module_of}
use Rattle.walrus_contents.specs.View.{contents_view}
use Rattle.walrus_contents.specs.declared.parts.Contents.{Contents}
use Rattle.walrus_reading.specs.TakenNames.{is_known, name_payloads}
use Rattle.walrus_theorem.specs.Rules.{OnlyRecords}
use Rattle.walrus_theorem.proofs.RulesAgree.{agree, reads_agree}
use Rattle.walrus_reading.specs.Customs.{kept_customs}
use Rattle.walrus_reading.specs.Named.{HasNames}
use Rattle.walrus_reading.specs.Parsed.{IsParsed, LocalsInTurn}
use Rattle.walrus_reading.specs.Producers.{HoldsProducers}
use Rattle.walrus_reading.specs.Stays.{AllStay}
use Rattle.walrus_reading.proofs.KeptSegments.{no_elements_past, none_past}
use Rattle.walrus_reading.proofs.NamesJoined.{comes_out, namings_read}
use Rattle.walrus_reading.proofs.NamesTaken.{renamed_by_names}
use Rattle.walrus_reading.proofs.Numbered.{stay}

-- what sections name is declared, the tables and memories of active segments too
pub named_stay : (s : wire.Module) → Rules s → AllStay (declared s) s
named_stay s h = stay (declared s) s refl h.indices

pub is_parsed : (c : Config) (features : Features) (bytes : List ℕ) (r : wire.Module) (m : Contents) (customs : List wire.Custom) → features ≡ features_of c → Frames bytes r → Rules r → HasNames features c.synthetic_names r m → HoldsProducers r m.producers
    → customs ≡ kept_customs r.customs → IsParsed c bytes (record (contents_view m) { customs = map custom_of customs })
is_parsed c features bytes r m customs same framed rules h held kept =
    let t = h.taken.taken in
    let ps : List ProducerField = flat_map (map field_of) held.fields in
    let names : List Named = flat_map (λ xs. xs) h.named.namings in
    let only : OnlyRecords r = ((agree features r t.bodies t.read).0 rules).0 in
    let all : AllStay (declared r) r = named_stay r rules in
    let renamed = renamed_by_names h.bounds r.customs h.before m h.named in
    let known : AllZip (Names (is_known h.starts)) (name_payloads r.customs) h.named.namings =
    subst (λ (starts : List ℕ). AllZip (Names (is_known starts)) (name_payloads r.customs) h.named.namings) h.are_bounds.starts_are h.named.read in
    let made : (p : ParsedAs c (module_of r t.bodies ps names) (record (contents_view m) { customs = customs_of r.customs })) × LocalsInTurn (module_of r t.bodies ps names) p.renaming =
    comes_out c features r h.before m h.starts h.taken ps names h.bounds only.as_many_bodies (record { tables = no_elements_past r all.elements; memories = none_past r all.data_segments })
    (ap producers (sym renamed.producers) ∙ held.are) h.are_bounds h.asked h.named.are in
    let reads : ReadsModule c bytes (module_of r t.bodies ps names) = record {
      sections = r;
      framed = framed;
      in_order = only.in_order;
      as_many_bodies = only.as_many_bodies;
      data_count = only.data_count;
      bodies = t.bodies;
      read = subst (λ (f : Features). AllZip (ReadsBodyWith f r) (zip r.functions r.bodies) t.bodies) same t.read;
      namings = h.named.namings;
      named = namings_read features r h.before h.starts h.taken only.as_many_bodies h.named.namings known;
      fields = held.fields;
      produced = held.read;
      is = refl;
    } in
    let kept_too : (p : ParsedAs c (module_of r t.bodies ps names) (record (contents_view m) { customs = map custom_of customs })) × LocalsInTurn (module_of r t.bodies ps names) p.renaming =
    subst (λ (cs : List Custom). (p : ParsedAs c (module_of r t.bodies ps names) (record (contents_view m) { customs = cs })) × LocalsInTurn (module_of r t.bodies ps names) p.renaming) (sym (ap (map custom_of) kept)) made in
    record {
      module_read = module_of r t.bodies ps names;
      reads = reads;
      holds = (reads_agree c bytes (module_of r t.bodies ps names) reads).0 rules;
      parsed = kept_too.0;
      in_turn = kept_too.1;
    }
