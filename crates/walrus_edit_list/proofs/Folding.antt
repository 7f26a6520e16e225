-- Edits that were applied so far.
use Rattle.std.proofs.Common.{◌≡◌, ℕ, ◌+◌, ◌≤◌, List, [], ◌∷◌, ◌++◌, Some, length, refl, sym, ap, ◌∙◌, subst, inl, inr, arith}
use Rattle.std.proofs.lemmas.List.{append-nil, append_assoc, length-append}
use Rattle.walrus_bodies.specs.declared.features.Features.{Features}
use Rattle.walrus_items.specs.Errors.{out_of_memory}
use Rattle.walrus_items.specs.declared.error.Error.{Error}
use Rattle.walrus_edit_list.specs.Applies.{AppliesEach, EditsBy, RefusesFirst, RefusesNext}
use Rattle.walrus_edit_list.specs.Edits.{IsEdit, Said, edit_at}
use Rattle.walrus_edit_list.specs.Held.{Held}
use Rattle.walrus_edit_list.specs.Makes.{Makes}
use Rattle.walrus_edit_list.proofs.EditRows.{edit_read, row_more, some_bytes}

module _ (f : Features) where
  edits_more : (es : List Said) (e : Said) (a b c : Held) → EditsBy f es a b → Makes f e b c → EditsBy f (es ++ e ∷ []) a c
  edits_more [] e a b c same one = (c, subst (λ (x : Held). Makes f e x c) same one, refl)
  edits_more (d ∷ es) e a b c (middle, first, more) one = (middle, first, edits_more es e middle b c more one)

  -- so many edits stand in front of what is left, and were applied
  pub record SoFar (bytes : List ℕ) (n : ℕ) (rest : List ℕ) (old now : Held) : Type 0 where
    pub front : List ℕ
    pub parts : bytes ≡ front ++ rest
    pub each : AppliesEach f front n old now
    pub room : n + length rest ≤ length bytes

  pub begins : (bytes : List ℕ) (old : Held) → SoFar bytes 0 bytes old old
  begins bytes old = record {
    front = [];
    parts = refl;
    each = record { all = []; are = refl; count = refl; edits = refl };
    room = omega arith;
  }

  pub next : (bytes : List ℕ) (n : ℕ) (rest behind : List ℕ) (old now new : Held) → SoFar bytes n rest old now → (e : Said) → edit_at rest ≡ Some (e, behind) → Makes f e now new → SoFar bytes (n + 1) behind old new
  next bytes n rest behind old now new so e reads makes =
      let piece = edit_read rest e behind reads in
      let longer : length (so.each.all ++ e ∷ []) ≡ length so.each.all + 1 = length-append so.each.all (e ∷ []) in
      let long : length rest ≡ length piece.0 + length behind = ap length piece.1.0 ∙ length-append piece.0 behind in
      record {
        front = so.front ++ piece.0;
        parts = so.parts ∙ ap (λ (l : List ℕ). so.front ++ l) piece.1.0 ∙ sym (append_assoc so.front piece.0 behind);
        each = record {
          all = so.each.all ++ e ∷ [];
          are = row_more IsEdit so.front piece.0 so.each.all e so.each.are piece.1.1;
          count = longer ∙ ap (λ (k : ℕ). k + 1) so.each.count;
          edits = edits_more so.each.all e old now new so.each.edits makes;
        };
        room = omega (arith, so.room, long, some_bytes piece.0 e piece.1.1);
      }

  ends : (bytes : List ℕ) (n : ℕ) (rest : List ℕ) (old now : Held) → SoFar bytes n rest old now → rest ≡ [] → AppliesEach f bytes n old now
  ends bytes n rest old now so none = subst (λ (l : List ℕ). AppliesEach f l n old now) (sym (so.parts ∙ ap (λ (l : List ℕ). so.front ++ l) none ∙ append-nil so.front)) so.each

  empty_of : {X : Type 0} (xs : List X) → length xs ≡ 0 → xs ≡ []
  empty_of [] e = refl
  empty_of (x ∷ xs) e = absurd (omega (arith, e))

  pub ends_short : (bytes : List ℕ) (n : ℕ) (rest : List ℕ) (old now : Held) → SoFar bytes n rest old now → length rest ≡ 0 → AppliesEach f bytes n old now
  ends_short bytes n rest old now so short = ends bytes n rest old now so (empty_of rest short)

  pub ends_all : (bytes : List ℕ) (n : ℕ) (rest : List ℕ) (old now : Held) → SoFar bytes n rest old now → n ≡ length bytes → AppliesEach f bytes (length bytes) old now
  ends_all bytes n rest old now so last =
      let short : length rest ≡ 0 = omega (arith, so.room, last) in
      subst (λ (k : ℕ). AppliesEach f bytes k old now) last (ends_short bytes n rest old now so short)

  pub refused : (bytes : List ℕ) (n : ℕ) (rest : List ℕ) (old now : Held) (e : Error) → SoFar bytes n rest old now → (length rest ≡ 0 → ⊥) → RefusesFirst f rest now e → RefusesNext f bytes n old e
  refused bytes n rest old now e so some refuses =
      record { front = so.front; rest = rest; parts = so.parts; made = now; each = so.each; refuses = inr ((λ none. some (ap length none)), refuses) }

  -- nothing was applied yet, and memory is refused
  pub refused_first : (bytes : List ℕ) (old : Held) (e : Error) → e ≡ out_of_memory → RefusesNext f bytes 0 old e
  refused_first bytes old e is = record { front = []; rest = bytes; parts = refl; made = old; each = record { all = []; are = refl; count = refl; edits = refl }; refuses = inl is }
