-- Sections as bytes: one of them, what of all is too long to be told, and what is answered.
use Rattle.std.proofs.Common.{◌≡◌, ◌<◌, ◌≤◌, ◌+◌, ◌^◌, inl, inr, ℕ, Bool, List, [], ◌∷◌, ◌++◌, length, ap, ◌∙◌, append_assoc, arith}
use Rattle.std.specs.Prelude.{Result, Ok, Err, IfErr, IfOk, OnOk}
use Rattle.std.specs.Global.{Vec}
use Rattle.wasm_frames.specs.Pieces.{Piece}
use Rattle.walrus_items.specs.declared.error.Error.{Error}
use Rattle.walrus_items.specs.declared.error.Error.TheVariants as error
use Rattle.walrus_sections.specs.Numbers.{IsLongName, RefusesIf, name_bytes, no_name, number_bytes}
use Rattle.walrus_sections.specs.Sections.{AnswersSections, HasLongSection, IsLongList, IsLongSection, StandUpTo, count_of, is_counted, list_bytes, names_of, section_bytes}
use Rattle.walrus_sections.proofs.Among.{because}

-- ---- one section

-- two bytes and four rows of bytes, one behind another
joined : (a : List ℕ) (x y : ℕ) (k l m n : List ℕ) → (((((a ++ x ∷ []) ++ y ∷ []) ++ k) ++ l) ++ m) ++ n ≡ a ++ (x ∷ y ∷ (k ++ l ++ m ++ n))
joined a x y k l m n =
    ap (λ (b : List ℕ). (((b ++ k) ++ l) ++ m) ++ n) (append_assoc a (x ∷ []) (y ∷ []))
    ∙ ap (λ (b : List ℕ). ((b ++ l) ++ m) ++ n) (append_assoc a (x ∷ y ∷ []) k)
    ∙ ap (λ (b : List ℕ). (b ++ m) ++ n) (append_assoc a (x ∷ y ∷ k) l)
    ∙ ap (λ (b : List ℕ). b ++ n) (append_assoc a (x ∷ y ∷ (k ++ l)) m)
    ∙ append_assoc a (x ∷ y ∷ (k ++ l ++ m)) n

-- what is put behind the bytes step by step is the section
pub section_joined : (p : Piece) (start size flag count : ℕ) → start ≡ p.start → size ≡ length p.bytes → flag ≡ is_counted p.entries → count ≡ count_of p.entries
    → (a b c d e f g : List ℕ) → b ≡ a ++ p.id ∷ [] → c ≡ b ++ flag ∷ [] → d ≡ c ++ number_bytes start → e ≡ d ++ number_bytes size → f ≡ e ++ number_bytes count
    → g ≡ f ++ name_bytes (names_of p.name) → g ≡ a ++ section_bytes p
section_joined p start size flag count start_is size_is flag_is count_is a b c d e f g b_is c_is d_is e_is f_is g_is =
    let n : List ℕ = name_bytes (names_of p.name) in
    g_is
    ∙ ap (λ (t : List ℕ). t ++ n) (f_is ∙ ap (λ (t : List ℕ). t ++ number_bytes count) (e_is ∙ ap (λ (t : List ℕ). t ++ number_bytes size) (d_is ∙ ap (λ (t : List ℕ). t ++ number_bytes start)
    (c_is ∙ ap (λ (t : List ℕ). t ++ flag ∷ []) b_is))))
    ∙ joined a p.id flag (number_bytes start) (number_bytes size) (number_bytes count) n
    ∙ ap (λ (k : ℕ). a ++ (p.id ∷ k ∷ (number_bytes start ++ number_bytes size ++ number_bytes count ++ n))) flag_is
    ∙ ap (λ (k : ℕ). a ++ (p.id ∷ is_counted p.entries ∷ (number_bytes k ++ number_bytes size ++ number_bytes count ++ n))) start_is
    ∙ ap (λ (k : ℕ). a ++ (p.id ∷ is_counted p.entries ∷ (number_bytes p.start ++ number_bytes k ++ number_bytes count ++ n))) size_is
    ∙ ap (λ (k : ℕ). a ++ (p.id ∷ is_counted p.entries ∷ (number_bytes p.start ++ number_bytes (length p.bytes) ++ number_bytes k ++ n))) count_is

pub section_fits : (p : Piece) → p.start < 2 ^ 32 → length p.bytes < 2 ^ 32 → (IsLongName (names_of p.name) → ⊥) → IsLongSection p → ⊥
section_fits p start size name (inl h) = omega (arith, start, h)
section_fits p start size name (inr (inl h)) = omega (arith, size, h)
section_fits p start size name (inr (inr h)) = name h

pub long_start : (p : Piece) (e : Error) → RefusesIf (2 ^ 32 ≤ p.start) e → RefusesIf (IsLongSection p) e
long_start p = because (2 ^ 32 ≤ p.start) (IsLongSection p) (λ h. inl h)

pub long_size : (p : Piece) (e : Error) → RefusesIf (2 ^ 32 ≤ length p.bytes) e → RefusesIf (IsLongSection p) e
long_size p = because (2 ^ 32 ≤ length p.bytes) (IsLongSection p) (λ h. inr (inl h))

pub long_name : (p : Piece) (e : Error) → RefusesIf (IsLongName (names_of p.name)) e → RefusesIf (IsLongSection p) e
long_name p = because (IsLongName (names_of p.name)) (IsLongSection p) (λ h. inr (inr h))

pub text_fits : (name : List ℕ) → length name < no_name → IsLongName (name ∷ []) → ⊥
text_fits name short long = omega (arith, short, long)

-- ---- the list

pub list_fits : (place : ℕ) (pieces : List Piece) → place < 2 ^ 32 → (HasLongSection pieces → ⊥) → IsLongList place pieces → ⊥
list_fits place pieces short none (inl h) = omega (arith, short, h)
list_fits place pieces short none (inr h) = none h

pub long_place : (place : ℕ) (pieces : List Piece) (e : Error) → RefusesIf (2 ^ 32 ≤ place) e → RefusesIf (IsLongList place pieces) e
long_place place pieces = because (2 ^ 32 ≤ place) (IsLongList place pieces) (λ h. inl h)

pub long_sections : (place : ℕ) (pieces : List Piece) (e : Error) → RefusesIf (HasLongSection pieces) e → RefusesIf (IsLongList place pieces) e
long_sections place pieces = because (HasLongSection pieces) (IsLongList place pieces) (λ h. inr h)

-- ---- the answer

module _ (bytes : List ℕ) (is_whole : Bool) (place : ℕ) (pieces : List Piece) (stand : StandUpTo bytes is_whole place pieces) where
  pub answers : (r : Result (Vec ℕ) Error) → IfOk r (λ list. list.items ≡ list_bytes is_whole place pieces) → OnOk r (IsLongList place pieces → ⊥) → IfErr r (RefusesIf (IsLongList place pieces))
      → AnswersSections bytes r
  answers (Ok list) value fits refused = record { is_whole = is_whole; place = place; pieces = pieces; stand = stand; is = value; fits = fits }
  answers (Err (error.Memory m)) value fits refused = tt
  answers (Err (error.InvalidWasm kind)) value fits refused = absurd refused
  answers (Err error.TooLarge) value fits refused = record { is_whole = is_whole; place = place; pieces = pieces; stand = stand; long = refused }
  answers (Err _) value fits refused = absurd refused
