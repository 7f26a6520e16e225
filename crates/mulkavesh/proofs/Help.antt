-- Whether an argument asks for help.
use Rattle.std.proofs.Common.{◌≡◌, Bool, true, false, ◌||◌, List, [], ◌∷◌, ◌++◌, append_assoc, refl, sym, ap, ◌∙◌, subst, inl, inr, ◌⊎◌, ⊎_elim, codes}
use Rattle.std.specs.Prelude.{All, Option, Some, None, flat_map, bytes_eq, is_some, if◌then◌else◌, ⊤}
use Rattle.std.proofs.lemmas.List.Elements.{All-cons, All-head, All-nil, All-tail}
use Rattle.mulkavesh.specs.declared.order.Naming.{Naming}
use Rattle.mulkavesh.specs.declared.order.Naming.TheVariants as naming
use Rattle.mulkavesh.specs.declared.words.Seen.{Seen}
use Rattle.mulkavesh.specs.declared.words.Seen.TheVariants as seen
use Rattle.mulkavesh.specs.Order.{naming_named, naming_word}
use Rattle.mulkavesh.specs.Steps.{asks_help, is_help, look_at, looks}
use Rattle.mulkavesh.specs.Words.{AsksHelp, Front, IsFront, IsHelp, IsUnhelped, Word, front_words, pair, single}
use Rattle.mulkavesh.proofs.Spelling.{decided, differs, naming_is, no_naming, or_cases}

-- ---- one argument

abbrev pub IsSeen : Word → Seen → Type 0
IsSeen word seen.Help = IsHelp word
IsSeen word seen.Option = (n : Naming) × (word ≡ naming_word n)
IsSeen word seen.Ending = word ≡ codes "--"
IsSeen word seen.Nothing = IsFront (single word)

either : (word a b : Word) → (bytes_eq word a || bytes_eq word b) ≡ true → (word ≡ a) ⊎ (word ≡ b)
either word a b is = ⊎_elim (λ e. inl (decided word a e)) (λ e. inr (decided word b e)) (or_cases (bytes_eq word a) (bytes_eq word b) is)

neither_test : (a b : Bool) → (a || b) ≡ false → (a ≡ false) × (b ≡ false)
neither_test true b is = absurd (cc)
neither_test false b is = (refl, is)

neither : (word a b : Word) → (bytes_eq word a || bytes_eq word b) ≡ false → (word ≡ a → ⊥) × (word ≡ b → ⊥)
neither word a b is = let t = neither_test (bytes_eq word a) (bytes_eq word b) is in (differs word a t.0, differs word b t.1)

-- the word is an option that has a value, or none
naming_or : (word : Word) → ((n : Naming) × (word ≡ naming_word n) × (is_some (naming_named word) ≡ true)) ⊎ (((n : Naming) → word ≡ naming_word n → ⊥) × (is_some (naming_named word) ≡ false))
naming_or word = by (naming_named word) refl
  where
    by : (m : Option Naming) → naming_named word ≡ m → ((n : Naming) × (word ≡ naming_word n) × (is_some (naming_named word) ≡ true)) ⊎ (((n : Naming) → word ≡ naming_word n → ⊥) × (is_some (naming_named word) ≡ false))
    by (Some n) is = inl (n, naming_is word n is, ap is_some is)
    by None is = inr (no_naming word is, ap is_some is)

-- what an argument is, where it asks for no help and isn't `--`
seen_other : (word : Word) → (word ≡ codes "--" → ⊥) → (IsHelp word → ⊥) → IsSeen word (if is_some (naming_named word) then seen.Option else seen.Nothing)
seen_other word no_ending no_help = by (naming_or word)
  where
    by : ((n : Naming) × (word ≡ naming_word n) × (is_some (naming_named word) ≡ true)) ⊎ (((n : Naming) → word ≡ naming_word n → ⊥) × (is_some (naming_named word) ≡ false)) → IsSeen word (if is_some (naming_named word) then seen.Option else seen.Nothing)
    by (inl (n, named, is)) = subst (λ (b : Bool). IsSeen word (if b then seen.Option else seen.Nothing)) (sym is) (n, named)
    by (inr (none, is)) = subst (λ (b : Bool). IsSeen word (if b then seen.Option else seen.Nothing)) (sym is) (no_ending, no_help, none)

seen_is : (word : Word) → IsSeen word (look_at word)
seen_is word = by _ refl _ refl
  where
    by : (a : Bool) → (bytes_eq word (codes "-h") || bytes_eq word (codes "--help")) ≡ a → (c : Bool) → bytes_eq word (codes "--") ≡ c
        → IsSeen word (if a then seen.Help else (if c then seen.Ending else (if is_some (naming_named word) then seen.Option else seen.Nothing)))
    by true is _ _ = either word _ _ is
    by false _ true is = decided word _ is
    by false no_help false no_ending =
        let h = neither word _ _ no_help in
        seen_other word (differs word _ no_ending) (λ asks. ⊎_elim h.0 h.1 asks)

-- ---- argument for argument

ended : (words : List Word) → is_help (looks seen.Ending words) ≡ true → ⊥
ended [] is = cc
ended (word ∷ words) is = ended words is

helped : (words : List Word) → looks seen.Help words ≡ seen.Help
helped [] = refl
helped (word ∷ words) = helped words

fronted : (f : Front) (words : List Word) → IsFront f → AsksHelp words → AsksHelp (front_words f ++ words)
fronted f words is h = record {
  front = f ∷ h.front;
  asking = h.asking;
  rest = h.rest;
  are = ap (λ (l : List Word). front_words f ++ l) h.are ∙ sym (append_assoc (front_words f) (flat_map front_words h.front) (h.asking ∷ h.rest));
  front_is = All-cons IsFront f h.front is h.front_is;
  asks = h.asks;
}

-- what is seen, by what was seen before
abbrev pub AsksAt : Seen → List Word → Type 0
AsksAt seen.Nothing words = AsksHelp words
AsksAt seen.Option words = (n : Naming) → AsksHelp (naming_word n ∷ words)
AsksAt seen.Help words = ⊤
AsksAt seen.Ending words = ⊤

asks_at : (words : List Word) (s : Seen) → is_help (looks s words) ≡ true → AsksAt s words
asks_at words seen.Help is = tt
asks_at words seen.Ending is = tt
asks_at [] seen.Nothing is = absurd (cc)
asks_at [] seen.Option is = absurd (cc)
asks_at (word ∷ words) seen.Option is = λ n. fronted (pair n word) words tt (asks_at words seen.Nothing is)
asks_at (word ∷ words) seen.Nothing is = by (look_at word) (seen_is word) is (λ t more. asks_at words t more)
  where
    by : (t : Seen) → IsSeen word t → is_help (looks t words) ≡ true → ((u : Seen) → is_help (looks u words) ≡ true → AsksAt u words) → AsksHelp (word ∷ words)
    by seen.Help asks is rest = record { front = []; asking = word; rest = words; are = refl; front_is = All-nil IsFront; asks = asks }
    by seen.Option (n, named) is rest = subst (λ (v : Word). AsksHelp (v ∷ words)) (sym named) (rest seen.Option is n)
    by seen.Ending ending is rest = absurd (ended words is)
    by seen.Nothing front is rest = fronted (single word) words front (rest seen.Nothing is)

pub asking : (words : List Word) → asks_help words ≡ true → AsksHelp words
asking words is = asks_at words seen.Nothing is

-- ---- what asks for help is seen

help_seen : (word : Word) → IsHelp word → look_at word ≡ seen.Help
help_seen word (inl is) = ap look_at is
help_seen word (inr is) = ap look_at is

naming_seen : (n : Naming) → look_at (naming_word n) ≡ seen.Option
naming_seen naming.Short = refl
naming_seen naming.Long = refl
naming_seen naming.Section = refl
naming_seen naming.Keep = refl
naming_seen naming.Drop = refl
naming_seen naming.Function = refl
naming_seen naming.Module = refl
naming_seen naming.Import = refl
naming_seen naming.By = refl
naming_seen naming.Count = refl

single_seen : (word : Word) → IsFront (single word) → look_at word ≡ seen.Nothing
single_seen word is = by (look_at word) refl (seen_is word)
  where
    by : (s : Seen) → look_at word ≡ s → IsSeen word s → look_at word ≡ seen.Nothing
    by seen.Help same asks = absurd (is.1 asks)
    by seen.Option same (n, named) = absurd (is.2 n named)
    by seen.Ending same ending = absurd (is.0 ending)
    by seen.Nothing same front = same

behind_front : (front : List Front) (asking : Word) (rest : List Word) → All IsFront front → IsHelp asking → looks seen.Nothing (flat_map front_words front ++ asking ∷ rest) ≡ seen.Help
behind_front [] asking rest is asks = ap (λ (s : Seen). looks s rest) (help_seen asking asks) ∙ helped rest
behind_front (pair n word ∷ front) asking rest is asks =
    ap (λ (s : Seen). looks s (word ∷ flat_map front_words front ++ asking ∷ rest)) (naming_seen n) ∙ behind_front front asking rest (All-tail IsFront (pair n word) front is) asks
behind_front (single word ∷ front) asking rest is asks =
    ap (λ (s : Seen). looks s (flat_map front_words front ++ asking ∷ rest)) (single_seen word (All-head IsFront (single word) front is)) ∙ behind_front front asking rest (All-tail IsFront (single word) front is) asks

pub unhelped : (words : List Word) → asks_help words ≡ false → IsUnhelped words
unhelped words none h =
    let seen_help : asks_help words ≡ true = ap asks_help h.are ∙ ap is_help (behind_front h.front h.asking h.rest h.front_is h.asks) in
    let no_such : true ≡ false = sym seen_help ∙ none in
    cc
