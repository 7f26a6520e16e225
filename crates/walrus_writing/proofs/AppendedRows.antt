-- What the loops keep that append entries, and the section of what they appended.
use Rattle.std.proofs.Common.{◌≡◌, ℕ, ◌<◌, List, [], ◌∷◌, ◌++◌, length, map, refl, sym, ap, ap₂, ◌∙◌, subst, arith, append_assoc, append-nil}
use Rattle.std.proofs.lemmas.List.{length-append, length-map, map-append}
use Rattle.wasm_forms.specs.Spelling.{number_bytes, row_bytes, vector_bytes}
use Rattle.wasm_forms.specs.Writing.{EachFits, FitsLength, FitsVector}
use Rattle.wasm_frames.specs.Frames.{Section}
use Rattle.wasm_writer.specs.Spelling.{SectionFits, listed, section_bytes, spelled}
use Rattle.wasm_writer.proofs.Listed.{no_section}
use Rattle.walrus_writing.specs.Appended.{AppendsEntry, AppendsEntries, ListsEntries}
use Rattle.walrus_writing.specs.BySection.{Writes}

row_snoc : {X : Type 0} (spell : X → List ℕ) (xs : List X) (x : X) → row_bytes spell (xs ++ x ∷ []) ≡ row_bytes spell xs ++ spell x
row_snoc spell [] x = append-nil (spell x)
row_snoc spell (y ∷ ys) x = ap (λ (l : List ℕ). spell y ++ l) (row_snoc spell ys x) ∙ sym (append_assoc (spell y) (row_bytes spell ys) (spell x))

each_snoc : {X : Type 0} (F : X → Type 0) (xs : List X) (x : X) → EachFits F xs → F x → EachFits F (xs ++ x ∷ [])
each_snoc F [] x all one = (one, tt)
each_snoc F (y ∷ ys) x all one = (all.0, each_snoc F ys x all.1 one)

-- ---- what lists entries

pub lists_none : (id count : ℕ) (row old : List ℕ) → count ≡ 0 → ListsEntries id count row old old
lists_none id count row old none = (λ u. refl, λ (some : 0 < count). absurd (omega (arith, some, none)))

pub lists_some : (id count : ℕ) (row old new : List ℕ) → 0 < count → (new ≡ old ++ section_bytes id (number_bytes count ++ row)) × FitsLength (number_bytes count ++ row) → ListsEntries id count row old new
lists_some id count row old new some wrote = (λ (none : count ≡ 0). absurd (omega (arith, some, none)), λ u. wrote)

-- the section of entries whose bytes these are
module _ {E : Type 0} (spell : E → List ℕ) (Fits : E → Type 0) (make : List E → Section) (id : ℕ) (held : (es : List E) → spelled (make es) ≡ section_bytes id (vector_bytes spell es)) (fits : (es : List E) → FitsVector Fits es → FitsLength (vector_bytes spell es) → SectionFits (make es)) where
  pub rows_listed : (es : List E) → EachFits Fits es → (count : ℕ) (row old new : List ℕ) → count ≡ length es → count < 4294967296 → row ≡ row_bytes spell es → ListsEntries id count row old new → (new ≡ old ++ listed make es) × SectionFits (make es)
  rows_listed [] fit count row old new counted few is w =
      let empty = no_section make Fits spell [] old refl in (w.0 counted ∙ empty.0, fits [] empty.1.0 empty.1.1)
  rows_listed (e ∷ es) fit count row old new counted few is w =
      let some = w.1 (omega (arith, counted)) in
      let all_is : number_bytes count ++ row ≡ vector_bytes spell (e ∷ es) = ap₂ (λ (n : ℕ) (l : List ℕ). number_bytes n ++ l) counted is in (
        some.0 ∙ ap (λ (l : List ℕ). old ++ section_bytes id l) all_is ∙ ap (λ (l : List ℕ). old ++ l) (sym (held (e ∷ es))),
        fits (e ∷ es) (omega (arith, few, counted), fit) (subst (λ (l : List ℕ). FitsLength l) all_is some.1),
      )

-- ---- the entries so far

module _ {W E : Type 0} (entry : W → E) (spell : E → List ℕ) (Fits : E → Type 0) where
  abbrev pub Entries : (List W → Type 0) → ℕ → List ℕ → List ℕ → Type 0
  Entries Said count old new = AppendsEntries entry spell Fits Said count old new

  pub none_appended : (Said : List W → Type 0) (old : List ℕ) → Said [] → Entries Said 0 old old
  none_appended Said old said = record {
    raw = [];
    said = said;
    appends = sym (append-nil old);
    counted = refl;
    fit = tt;
  }

  pub one_appended : (Said Else : List W → Type 0) (One : W → Type 0) (count more : ℕ) (old now new : List ℕ) → ((raw : List W) (one : W) → Said raw → One one → Else (raw ++ one ∷ []))
      → Entries Said count old now → AppendsEntry entry spell Fits One count more now new → Entries Else more old new
  one_appended Said Else One count more old now new so a b =
      let both : map entry (a.raw ++ b.one ∷ []) ≡ map entry a.raw ++ entry b.one ∷ [] = map-append entry a.raw (b.one ∷ []) in
      record {
        raw = a.raw ++ b.one ∷ [];
        said = so a.raw b.one a.said b.said;
        appends = b.appends ∙ ap (λ (l : List ℕ). l ++ spell (entry b.one)) a.appends ∙ append_assoc old (row_bytes spell (map entry a.raw)) (spell (entry b.one))
            ∙ ap (λ (l : List ℕ). old ++ l) (sym (row_snoc spell (map entry a.raw) (entry b.one))) ∙ ap (λ (l : List E). old ++ row_bytes spell l) (sym both);
        counted = omega (arith, b.counted, a.counted, length-append a.raw (b.one ∷ []));
        fit = subst (λ (l : List E). EachFits Fits l) (sym both) (each_snoc Fits (map entry a.raw) (entry b.one) a.fit b.fits);
      }

  -- of records of which that is said, this is said
  pub said_else : (Said Else : List W → Type 0) (count : ℕ) (old new : List ℕ) → ((raw : List W) → Said raw → Else raw) → Entries Said count old new → Entries Else count old new
  said_else Said Else count old new so a = record {
    raw = a.raw;
    said = so a.raw a.said;
    appends = a.appends;
    counted = a.counted;
    fit = a.fit;
  }

  -- the section that lists them
  pub entries_listed : (make : List E → Section) (id : ℕ) → ((es : List E) → spelled (make es) ≡ section_bytes id (vector_bytes spell es)) → ((es : List E) → FitsVector Fits es → FitsLength (vector_bytes spell es) → SectionFits (make es))
      → (Said : List W → Type 0) (count : ℕ) (first row lent old new : List ℕ) → first ≡ [] → count < 4294967296 → Entries Said count first row → lent ≡ row → ListsEntries id count lent old new → Writes make (map entry) Said old new
  entries_listed make id held fits Said count first row lent old new none few a same w =
      let stands = rows_listed spell Fits make id held fits (map entry a.raw) a.fit count lent old new (a.counted ∙ sym (length-map a.raw entry)) few (same ∙ a.appends ∙ ap (λ (l : List ℕ). l ++ row_bytes spell (map entry a.raw)) none) w in
      record {
        raw = a.raw;
        said = a.said;
        appends = stands.0;
        fits = stands.1;
      }
