-- What names and producers say refuses nothing.
use Rattle.std.proofs.Common.{ℕ, List, [], ◌∷◌, length, map, refl}
use Rattle.std.specs.Prelude.{codes, flat_map}
use Rattle.std.specs.List.{AllZip}
use Rattle.wasm_frames.specs.Record as wire
use Rattle.wasm_payloads.specs.Names.{Named, Names}
use Rattle.wasm_payloads.specs.Producers.{Field, Fields}
use Rattle.wasm_payloads.specs.Steps.{fields_at, subsection_at, times_at}
use Rattle.wasm_payloads.proofs.Found.{fields_found, names_are}
use Rattle.walrus_model.specs.Config.{Config}
use Rattle.walrus_theorem.specs.Features.{features_of}
use Rattle.walrus_theorem.specs.Headline.{Accepts, ReadsModule, field_of, has_function, payloads}
use Rattle.walrus_theorem.specs.Rules.{AcceptsRead, AreRead, OnlyRecords}
use Rattle.walrus_theorem.specs.Sections.{module_of}
use Rattle.walrus_theorem.proofs.RulesAgree.{agree, reads_agree}

-- each beside what it leads to
each_zipped : {A B : Type 0} (R : A → B → Type 0) (f : A → B) → ((a : A) → R a (f a)) → (xs : List A) → AllZip R xs (map f xs)
each_zipped R f each [] = tt
each_zipped R f each (x ∷ xs) = (each x, each_zipped R f each xs)

-- what stands whole before the first fault of a payload
abbrev namings_in : wire.Module → List ℕ → List Named
namings_in s bytes = (times_at (subsection_at (has_function s)) (length bytes) bytes).0

abbrev fields_in : List ℕ → List Field
fields_in bytes = (fields_at bytes).0

accepted : (c : Config) (bytes : List ℕ) → AreRead c bytes → Accepts c bytes
accepted c bytes r =
    let s = r.sections in
    let only : OnlyRecords s = ((agree (features_of c) s r.bodies r.read).0 r.rules).0 in
    let namings : List (List Named) = map (namings_in s) (payloads (codes "name") s) in
    let fields : List (List Field) = map fields_in (payloads (codes "producers") s) in
    let m = module_of s r.bodies (flat_map (map field_of) fields) (flat_map (λ xs. xs) namings) in
    let reads : ReadsModule c bytes m = record {
      sections = s;
      framed = r.framed;
      in_order = only.in_order;
      as_many_bodies = only.as_many_bodies;
      data_count = only.data_count;
      bodies = r.bodies;
      read = r.read;
      namings = namings;
      named = each_zipped (Names (has_function s)) (namings_in s) (names_are (has_function s)) (payloads (codes "name") s);
      fields = fields;
      produced = each_zipped Fields fields_in (λ payload. fields_found payload (fields_in payload) refl) (payloads (codes "producers") s);
      is = refl;
    } in (m, reads, (reads_agree c bytes m reads).0 r.rules)

pub accepts_read_lem : AcceptsRead
accepts_read_lem c bytes = (
  (λ a. record {
    sections = a.1.sections;
    framed = a.1.framed;
    rules = (reads_agree c bytes a.0 a.1).1 a.2;
    bodies = a.1.bodies;
    read = a.1.read;
  }),
  (λ r. accepted c bytes r),
)
