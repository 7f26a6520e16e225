-- What the loops over lists of constant expressions keep, and what they answer.
use Rattle.std.proofs.Common.{◌≡◌, ◌∙◌, ℕ, ◌+◌, ◌<◌, List, [], ◌∷◌, ◌++◌, Option, Some, None, map, length, drop, get_or, refl, sym, ap, subst, append_assoc, append-nil, All}
use Rattle.std.specs.Prelude.{IsSome, Contains, Err}
use Rattle.std.proofs.lemmas.List.{map-append}
use Rattle.std.proofs.lemmas.List.Elements.{All-nil, All-push}
use Rattle.wasm_forms.specs.Reading.{◌>>=◌}
use Rattle.wasm_forms.proofs.Bind.{bind_some}
use Rattle.walrus_base.specs.Operators.{Op}
use Rattle.walrus_code.specs.Names.{Lookup}
use Rattle.walrus_code.specs.Results.{Finds}
use Rattle.walrus_code.specs.declared.error.IrError.{IrError}
use Rattle.walrus_code.specs.declared.error.IrError.TheVariants.{Malformed, Memory, NoIndex, NotWritable, TooLarge}
use Rattle.walrus_groups.specs.Named.{each}
use Rattle.walrus_base.proofs.Lists.{Contains-head, Contains-append_2}
use Rattle.walrus_base.proofs.Standing.{some_inj}
use Rattle.walrus_constants.specs.Named.{named_const}
use Rattle.walrus_constants.specs.Written.{LacksAnIndex, IsUnspelled, IsSpelled, IndexesConst, FirstRefused, IndexesConsts}
use Rattle.walrus_constants.proofs.Causes.{not_found}
use Rattle.walrus_groups.proofs.Loops.{behind, one_more}
use Rattle.walrus_code.proofs.Arguments.{cut}

-- ---- lists

-- the next one of those that are left, and those behind it
pub next_of : {A B : Type 0} (f : A → B) (xs : List A) (i : ℕ) (x : A) (y : B) → i < length xs → x ≡ get_or xs i x → y ≡ f x → map f (drop i xs) ≡ y ∷ map f (drop (i + 1) xs)
next_of f xs i x y h is same = ap (map f) (cut xs i x h) ∙ ap (λ z. f z ∷ map f (drop (i + 1) xs)) (sym is) ∙ ap (λ z. z ∷ map f (drop (i + 1) xs)) (sym same)

pub mapped_push : {A B : Type 0} (f : A → B) (items more : List A) (x : A) → more ≡ items ++ x ∷ [] → map f more ≡ map f items ++ f x ∷ []
mapped_push f items more x pushed = ap (map f) pushed ∙ map-append f items (x ∷ [])

pub all_pushed : {A B : Type 0} (P : B → Type 0) (f : A → B) (items more : List A) (x : A) → more ≡ items ++ x ∷ [] → All P (map f items) → P (f x) → All P (map f more)
all_pushed P f items more x pushed all one = subst (λ l. All P l) (sym (mapped_push f items more x pushed)) (All-push P (map f items) (f x) all one)

-- ---- reading: those found so far and those that are left are those of the whole

pub read_begins : {Y : Type 0} (done : List Y) (whole : Option (List Y)) → done ≡ [] → behind done whole ≡ whole
read_begins done None none = refl
read_begins done (Some all) none = ap (λ l. Some (l ++ all)) none

module _ {X Y : Type 0} (find : X → Option Y) where
  pub read_next : (done more : List Y) (left rest : List X) (whole : Option (List Y)) (x : X) (y : Y) → left ≡ x ∷ rest → find x ≡ Some y → more ≡ done ++ y ∷ [] → behind done (each find left) ≡ whole → behind more (each find rest) ≡ whole
  read_next done more left rest whole x y step found pushed keeps =
      ap (λ l. behind l (each find rest)) pushed
      ∙ one_more done y (each find rest)
      ∙ sym (ap (λ o. behind done (o >>= λ z. each find rest >>= λ others. Some (z ∷ others))) found)
      ∙ sym (ap (λ l. behind done (each find l)) step)
      ∙ keeps

  none_read : (done : List Y) (left rest : List X) (whole : Option (List Y)) (x : X) → left ≡ x ∷ rest → find x ≡ None → behind done (each find left) ≡ whole → whole ≡ None
  none_read done left rest whole x step none keeps =
      sym keeps ∙ ap (λ l. behind done (each find l)) step ∙ ap (λ o. behind done (o >>= λ z. each find rest >>= λ others. Some (z ∷ others))) none

  -- the next one is refused, and so are all of them
  pub read_refused : {A B : Type 0} (one : A → Y) (many : B → List Y) (done : List Y) (left rest : List X) (whole : Option (List Y)) (x : X) (e : IrError) → left ≡ x ∷ rest → behind done (each find left) ≡ whole → Finds one (Err e) (find x) → Finds many (Err e) whole
  read_refused one many done left rest whole x Malformed step keeps none = none_read done left rest whole x step none keeps
  read_refused one many done left rest whole x (Memory m) step keeps u = tt
  read_refused one many done left rest whole x NoIndex step keeps u = absurd u
  read_refused one many done left rest whole x NotWritable step keeps u = absurd u
  read_refused one many done left rest whole x TooLarge step keeps u = absurd u

  pub read_all : (done : List Y) (left : List X) (whole : Option (List Y)) → left ≡ [] → behind done (each find left) ≡ whole → whole ≡ Some done
  read_all done left whole none keeps = sym keeps ∙ ap (λ l. behind done (each find l)) none ∙ ap (λ l. Some l) (append-nil done)

-- ---- writing

each_push : {X Y : Type 0} (find : X → Option Y) (xs : List X) (ys : List Y) (x : X) (y : Y) → each find xs ≡ Some ys → find x ≡ Some y → each find (xs ++ x ∷ []) ≡ Some (ys ++ y ∷ [])
each_push find [] ys x y e found = ap (λ o. o >>= λ z. Some (z ∷ [])) found ∙ ap (λ l. Some (l ++ y ∷ [])) (some_inj [] ys e)
each_push find (w ∷ xs) ys x y e found =
    let b = bind_some (find w) (λ v. each find xs >>= λ others. Some (v ∷ others)) ys e in
    let d = bind_some (each find xs) (λ others. Some (b.0 ∷ others)) ys b.2 in
    ap (λ o. o >>= λ v. each find (xs ++ x ∷ []) >>= λ others. Some (v ∷ others)) b.1
    ∙ ap (λ o. o >>= λ others. Some (b.0 ∷ others)) (each_push find xs d.0 x y d.1 found)
    ∙ ap (λ l. Some (l ++ y ∷ [])) (some_inj (b.0 ∷ d.0) ys d.2)

abbrev none_of : (Y : Type 0) → Option Y
none_of Y = None

nothing_then : {X Y : Type 0} (o : Option X) → (o >>= λ (x : X). none_of Y) ≡ none_of Y
nothing_then None = refl
nothing_then (Some x) = refl

none_at : {X Y : Type 0} (find : X → Option Y) (xs : List X) (x : X) (ys : List X) → find x ≡ None → each find (xs ++ x ∷ ys) ≡ None
none_at find [] x ys none = ap (λ o. o >>= λ y. each find ys >>= λ others. Some (y ∷ others)) none
none_at find (w ∷ xs) x ys none = ap (λ o. find w >>= λ v. o >>= λ others. Some (v ∷ others)) (none_at find xs x ys none) ∙ nothing_then (find w)

module _ (names : Lookup) where
  -- those in front of what is left have their indices, under which they are these, and bytes spell each
  pub record SoFar (all left found : List (List Op)) : Type 0 where
    pub before : List (List Op)
    pub are : all ≡ before ++ left
    pub named : each (named_const names) before ≡ Some found
    pub spelled : All IsSpelled before

  pub written_begins : (all found : List (List Op)) → found ≡ [] → SoFar all all found
  written_begins all found none = record { before = []; are = refl; named = ap (λ l. Some l) (sym none); spelled = All-nil IsSpelled }

  pub written_next : (all left rest found more : List (List Op)) (ops y : List Op) → left ≡ ops ∷ rest → (named_const names ops ≡ Some y) × (IsUnspelled ops → ⊥) → more ≡ found ++ y ∷ [] → SoFar all left found → SoFar all rest more
  written_next all left rest found more ops y step one pushed s = record {
    before = s.before ++ ops ∷ [];
    are = s.are ∙ ap (λ l. s.before ++ l) step ∙ sym (append_assoc s.before (ops ∷ []) rest);
    named = each_push (named_const names) s.before found ops y s.named one.0 ∙ ap (λ l. Some l) (sym pushed);
    spelled = All-push IsSpelled s.before ops s.spelled one.1;
  }

  first_refused : (Cause : List Op → Type 0) (all left rest found : List (List Op)) (ops : List Op) → left ≡ ops ∷ rest → SoFar all left found → Cause ops → FirstRefused names all Cause
  first_refused Cause all left rest found ops step s cause = record {
    before = s.before;
    first = ops;
    after = rest;
    are = s.are ∙ ap (λ l. s.before ++ l) step;
    found = subst (λ (o : Option (List (List Op))). IsSome o) (sym s.named) refl;
    spelled = s.spelled;
    cause = cause;
  }

  -- the next one is refused, as the first of all
  pub written_refused : {A B : Type 0} (one : A → List Op) (many : B → List (List Op)) (all left rest found : List (List Op)) (ops : List Op) (e : IrError) → left ≡ ops ∷ rest → SoFar all left found → IndexesConst one names ops (Err e) → IndexesConsts many names all (Err e)
  written_refused one many all left rest found ops NoIndex step s lacks = first_refused (LacksAnIndex names) all left rest found ops step s lacks
  written_refused one many all left rest found ops NotWritable step s unspelled = first_refused IsUnspelled all left rest found ops step s unspelled
  written_refused one many all left rest found ops (Memory m) step s u = tt
  written_refused one many all left rest found ops Malformed step s u = absurd u
  written_refused one many all left rest found ops TooLarge step s u = absurd u

  pub written_all : (all left found : List (List Op)) → left ≡ [] → SoFar all left found → (each (named_const names) all ≡ Some found) × All IsSpelled all
  written_all all left found none s =
      let same : s.before ≡ all = sym (s.are ∙ ap (λ l. s.before ++ l) none ∙ append-nil s.before) in (
        subst (λ (l : List (List Op)). each (named_const names) l ≡ Some found) same s.named,
        subst (λ (l : List (List Op)). All IsSpelled l) same s.spelled,
      )

  -- ---- what a refusal says of the whole list

  -- one of them lacks an index, and so nothing is found for the list
  pub consts_lacking : (all : List (List Op)) → FirstRefused names all (LacksAnIndex names) → each (named_const names) all ≡ None
  consts_lacking all f = ap (each (named_const names)) f.are ∙ none_at (named_const names) f.before f.first f.after (not_found names f.first f.cause)

  -- no bytes spell one of them
  pub consts_unspelled : (all : List (List Op)) → FirstRefused names all IsUnspelled → (ops : List Op) × (Contains all ops × IsUnspelled ops)
  consts_unspelled all f = (f.first, (subst (λ (l : List (List Op)). Contains l f.first) (sym f.are) (Contains-append_2 f.first f.before (f.first ∷ f.after) (Contains-head f.first f.after)), f.cause))
