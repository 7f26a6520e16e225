-- The names of locals of one section more.
use Rattle.std.proofs.Common.{◌≡◌, ℕ, ◌+◌, ◌<◌, ◌≤◌, Bool, List, [], ◌∷◌, ◌++◌, length, take, map, flat_map, sym, ap, subst, ◌∙◌, append_assoc, append-nil}
use Rattle.std.proofs.lemmas.Grind.{flat_map-append}
use Rattle.std.proofs.lemmas.List.{take_all}
use Rattle.std.specs.Prelude.{slice_index_or}
use Rattle.std.specs.List.{AllZip}
use Rattle.walrus_base.proofs.ZipTurns.{zip_turn}
use Rattle.walrus.specs.Frames.Record as wire
use Rattle.wasm_frames.specs.declared.record.RawCustom.{RawCustom}
use Rattle.wasm_payloads.specs.Names.{Named, Names}
use Rattle.wasm_payloads.specs.Sink.{after_all}
use Rattle.walrus_edits.specs.ItemRecords.{Told}
use Rattle.walrus_edits.specs.ItemValues.{local_named}
use Rattle.walrus_edits.specs.LocalNames.{AreLocalNames, SaysLocals, name_payloads}

-- these sections say these names of locals
pub record AreHanded (known : ℕ → Bool) (sections : List RawCustom) (told : List Told) : Type 0 where
  pub namings : List (List Named)
  pub read : AllZip (λ (c : RawCustom) (names : List Named). Names known c.bytes.now names) sections namings
  pub are : told ≡ flat_map local_named (flat_map (λ ns. ns) namings)

-- what a sink shows once it took these
abbrev pub after_named : List Told → Named → List Told
after_named told naming = told ++ local_named naming

pub all_after : (told : List Told) (names : List Named) → after_all after_named told names ≡ told ++ flat_map local_named names
all_after told [] = sym (append-nil told)
all_after told (name ∷ names) = all_after (told ++ local_named name) names ∙ append_assoc told (local_named name) (flat_map local_named names)

pub handed_none : (known : ℕ → Bool) (told : List Told) → told ≡ [] → AreHanded known [] told
handed_none known told none = record { namings = []; read = tt; are = none }

pub handed_more : (known sink : ℕ → Bool) (sections : List RawCustom) (i : ℕ) (d : RawCustom) (told new : List Told) → sink ≡ known → i < length sections → AreHanded known (take i sections) told
    → SaysLocals sink (slice_index_or sections i d).bytes.now told new → AreHanded known (take (i + 1) sections) new
handed_more known sink sections i d told new same below h says = record {
  namings = h.namings ++ says.0 ∷ [];
  read = zip_turn (λ (c : RawCustom) (ns : List Named). Names known c.bytes.now ns) sections i d h.namings says.0 below h.read (subst (λ (k : ℕ → Bool). Names k (slice_index_or sections i d).bytes.now says.0) same says.1);
  are = says.2 ∙ ap (λ l. l ++ flat_map local_named says.0) h.are
      ∙ sym (ap (flat_map local_named) (flat_map-append (λ ns. ns) h.namings (says.0 ∷ []) ∙ ap (λ l. flat_map (λ ns. ns) h.namings ++ l) (append-nil says.0))
      ∙ flat_map-append local_named (flat_map (λ ns. ns) h.namings) says.0);
}

zip_seen : (known : ℕ → Bool) (sections : List RawCustom) (namings : List (List Named)) → AllZip (λ (c : RawCustom) (names : List Named). Names known c.bytes.now names) sections namings
    → AllZip (Names known) (map (λ (c : RawCustom). c.bytes.now) sections) namings
zip_seen known [] [] h = tt
zip_seen known [] (n ∷ ns) h = elim h [ ]
zip_seen known (c ∷ cs) [] h = elim h [ ]
zip_seen known (c ∷ cs) (n ∷ ns) h = (h.0, zip_seen known cs ns h.1)

pub handed_all : (known : ℕ → Bool) (customs : List wire.Custom) (sections : List RawCustom) (i : ℕ) (told : List Told) → map (λ (c : RawCustom). c.bytes.now) sections ≡ name_payloads customs → AreHanded known (take i sections) told
    → length sections ≤ i → AreLocalNames known customs told
handed_all known customs sections i told same h past =
    let whole : AllZip (λ (c : RawCustom) (names : List Named). Names known c.bytes.now names) sections h.namings = subst (λ (l : List RawCustom). AllZip (λ (c : RawCustom) (names : List Named). Names known c.bytes.now names) l h.namings) (take_all i sections past) h.read in
    record { namings = h.namings; read = subst (λ (l : List (List ℕ)). AllZip (Names known) l h.namings) same (zip_seen known sections h.namings whole); are = h.are }
