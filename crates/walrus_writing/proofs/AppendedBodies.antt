-- What is appended behind a section's id and size: content, bodies, each behind its size, and the records of a section.
use Rattle.std.proofs.Common.{◌≡◌, ℕ, ◌-◌, ◌<◌, ◌≤◌, List, [], ◌∷◌, ◌++◌, length, map, take, drop, append_assoc, refl, sym, ap, ap₂, ◌∙◌, arith}
use Rattle.std.specs.Prelude.{Ok}
use Rattle.std.proofs.lemmas.List.{append-nil, drop_at, length-append, take_at}
use Rattle.wasm_entries.specs.Record.{data_entry}
use Rattle.wasm_entries.specs.Spelling.{DataFits, data_bytes}
use Rattle.wasm_entries.specs.declared.record.RawData.{RawData}
use Rattle.wasm_forms.specs.Spelling.{block_bytes, number_bytes, row_bytes, vector_bytes}
use Rattle.wasm_forms.specs.Writing.{FitsLength, FitsVector}
use Rattle.wasm_forms.proofs.Adding.{fits_map, fits_unmap, vector_map}
use Rattle.wasm_frames.specs.Frames.{Code, DataSegments}
use Rattle.wasm_frames.specs.Record.{Body}
use Rattle.wasm_frames.specs.Spelling.{body_bytes}
use Rattle.wasm_writer.specs.Measures.{Measures}
use Rattle.wasm_writer.specs.Spelling.{SectionFits, listed, section_bytes, spelled}
use Rattle.wasm_writer.specs.Writing.{unless_empty}
use Rattle.wasm_writer.proofs.Listed.{fits_none, wrote_listed}
use Rattle.wasm_wire.specs.ModuleSpelling.{if_any}
use Rattle.walrus_writing.specs.BySection.{Stand}
use Rattle.walrus_writing.specs.Parts.{unplaced}
use Rattle.walrus_writing.proofs.ProducersSpelled.{behind_filled, block_fits, vector_fits}

-- content behind its section's id and size
pub content_behind : (id size : ℕ) (content old between new : List ℕ) → size ≡ length content → between ≡ old ++ id ∷ number_bytes size → new ≡ between ++ content → new ≡ old ++ section_bytes id content
content_behind id size content old between new long opened added =
    added ∙ ap (λ (l : List ℕ). l ++ content) opened ∙ append_assoc old (id ∷ number_bytes size) content ∙ ap (λ (n : ℕ). old ++ id ∷ (number_bytes n ++ content)) long

-- ---- bodies

pub none_coded : (old : List ℕ) → Stand old old (if_any Code []) × SectionFits (Code [])
none_coded old = (sym (append-nil old), fits_none (λ (b : Body). FitsLength b.bytes) body_bytes)

some_coded : (texts : List (List ℕ)) (old new : List ℕ) → 0 < length texts → new ≡ old ++ spelled (Code (map unplaced texts)) → Stand old new (if_any Code (map unplaced texts))
some_coded [] old new some is = absurd (omega (arith, some))
some_coded (t ∷ ts) old new some is = is ∙ ap (λ (l : List ℕ). old ++ l) (sym (append-nil (spelled (Code (map unplaced (t ∷ ts))))))

body_filled : (b : Body) → 1 ≤ length (body_bytes b)
body_filled b = behind_filled (length b.bytes) b.bytes

-- of so few bytes, they fit
bodies_fit : (code : List Body) → FitsLength (vector_bytes body_bytes code) → SectionFits (Code code)
bodies_fit code few = (vector_fits body_bytes body_filled (λ (b : Body). FitsLength b.bytes) (λ b. block_fits b.bytes) code few, few)

-- Behind the section's id a guess of its size stands, then their count and each of them; and then their size is put in the place of the guess.
pub coded : (texts : List (List ℕ)) (old opened guessed counted filled new : List ℕ) (guess count size from until : ℕ) → 0 < length texts → count ≡ length texts
    → opened ≡ old ++ 10 ∷ [] → from ≡ length opened → guessed ≡ opened ++ number_bytes guess → until ≡ length guessed → counted ≡ guessed ++ number_bytes count → filled ≡ counted ++ row_bytes block_bytes texts
    → size ≡ length filled - until → size < 4294967296 → new ≡ take from filled ++ (number_bytes size ++ drop until filled)
    → Stand old new (if_any Code (map unplaced texts)) × SectionFits (Code (map unplaced texts))
coded texts old opened guessed counted filled new guess count size from until some many begun at guess_is behind noted added sized low put =
    let code : List Body = map unplaced texts in
    let content : List ℕ = vector_bytes body_bytes code in
    let holds : number_bytes count ++ row_bytes block_bytes texts ≡ content = ap (λ (n : ℕ). number_bytes n ++ row_bytes block_bytes texts) many ∙ vector_map unplaced body_bytes texts in
    let is : filled ≡ guessed ++ content =
    added ∙ ap (λ (l : List ℕ). l ++ row_bytes block_bytes texts) noted ∙ append_assoc guessed (number_bytes count) (row_bytes block_bytes texts) ∙ ap (λ (l : List ℕ). guessed ++ l) holds in
    let long : size ≡ length content = omega (arith, sized, behind, ap length is, length-append guessed content) in
    let front : take from filled ≡ opened =
    ap (take from) (is ∙ ap (λ (l : List ℕ). l ++ content) guess_is ∙ append_assoc opened (number_bytes guess) content) ∙ take_at opened (number_bytes guess ++ content) from (sym at) in
    let rest : drop until filled ≡ content = ap (drop until) is ∙ drop_at guessed content until (sym behind) in (
      some_coded texts old new some
          (put ∙ ap₂ (λ (l r : List ℕ). l ++ (number_bytes size ++ r)) (front ∙ begun) rest ∙ append_assoc old (10 ∷ []) (number_bytes size ++ content)
          ∙ ap (λ (n : ℕ). old ++ 10 ∷ (number_bytes n ++ content)) long),
      bodies_fit code (omega (arith, long, low)),
    )

-- ---- data segments

opened_list : {X : Type 0} (xs : List X) (id size : ℕ) (content old between new : List ℕ) → 0 < length xs → size ≡ length content → between ≡ old ++ id ∷ number_bytes size → new ≡ between ++ content → new ≡ old ++ unless_empty xs (section_bytes id content)
opened_list [] id size content old between new some long opened added = absurd (omega (arith, some))
opened_list (x ∷ xs) id size content old between new some long opened added = content_behind id size content old between new long opened added

pub data_listed : (xs : List RawData) (old between new : List ℕ) (size : ℕ) → 0 < length xs
    → Measures (Ok size) (vector_bytes (λ x. data_bytes (data_entry x)) xs) (FitsVector (λ x. DataFits (data_entry x)) xs) → between ≡ old ++ 11 ∷ number_bytes size → new ≡ between ++ vector_bytes (λ x. data_bytes (data_entry x)) xs
    → (new ≡ old ++ listed DataSegments (map data_entry xs)) × SectionFits (DataSegments (map data_entry xs))
data_listed xs old between new size some told opened added =
    wrote_listed DataSegments data_entry (λ (x : RawData). DataFits (data_entry x)) data_bytes 11 xs (Ok (tt {0})) old new refl refl (fits_map data_entry DataFits xs) (fits_unmap data_entry DataFits xs)
    (opened_list xs 11 size (vector_bytes (λ x. data_bytes (data_entry x)) xs) old between new some told.0 opened added, (told.2, omega (arith, told.0, told.1)))
