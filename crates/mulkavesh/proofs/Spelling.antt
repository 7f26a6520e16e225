-- What an argument is by its spelling, and how what it is is spelled.
use Rattle.std.proofs.Common.{◌≡◌, ◌<◌, ◌+◌, suc, ℕ, Bool, true, false, ◌||◌, List, [], ◌∷◌, ◌++◌, drop, get_or, length, take, refl, sym, ap, ap₂, ◌∙◌, subst, inl, inr, ◌⊎◌, codes, arith, eqb-true, length-append, lt-ltb, ltb-true}
use Rattle.std.specs.Prelude.{Option, Some, None, bytes_eq, ltb, if◌then◌else◌}
use Rattle.std.specs.List.{after_first, before_first, position_or_len}
use Rattle.std.proofs.lemmas.List.{append-nil, append_assoc}
use Rattle.std.proofs.lemmas.List.Sums.{passes_at_first, split_at_first}
use Rattle.std.proofs.lemmas.Bool.Decides.{Decides-eqb}
use Rattle.std.proofs.lemmas.Slice.Eq.{bytes_eq-Decides, starts_is}
use Rattle.std.proofs.Math.Seq.{drop-append_seam, take-append_seam}
use Rattle.mulkavesh.specs.declared.order.Flag.{Flag}
use Rattle.mulkavesh.specs.declared.order.Flag.TheVariants as option
use Rattle.mulkavesh.specs.declared.order.Naming.{Naming}
use Rattle.mulkavesh.specs.declared.order.Naming.TheVariants as naming
use Rattle.mulkavesh.specs.declared.words.Spelling.{Spelling}
use Rattle.mulkavesh.specs.declared.words.Spelling.TheVariants as kind
use Rattle.mulkavesh.specs.Mistakes.{HasValue, IsFlag, IsUnknown}
use Rattle.mulkavesh.specs.Order.{begins, flag_named, flag_word, joined_front, naming_named, naming_word, sign, without}
use Rattle.mulkavesh.specs.Steps.{equals_by, equals_in, is_equals, or_plain, spelled_as, spelled_by, spelled_otherwise, spelling_of}
use Rattle.mulkavesh.specs.Words.{IsPiece, IsPlain, Piece, Word, flag, joined, piece_words, plain, plain_in, quiet, valued}

pub decided : (xs ys : List ℕ) → bytes_eq xs ys ≡ true → xs ≡ ys
decided xs ys is = (bytes_eq-Decides xs ys).0 is

pub differs : (xs ys : List ℕ) → bytes_eq xs ys ≡ false → xs ≡ ys → ⊥
differs xs ys is same = let no_such : false ≡ true = sym is ∙ (bytes_eq-Decides xs ys).1 same in cc

-- ---- what a word begins with

pub begins_is : (front word : Word) → begins front word ≡ true → word ≡ front ++ drop (length front) word
begins_is front word is = (starts_is Decides-eqb word front (begins front word) refl).0 is

pub begins_so : (front word rest : Word) → word ≡ front ++ rest → begins front word ≡ true
begins_so front word rest is = (starts_is Decides-eqb word front (begins front word) refl).1 rest is

pub never_begins : (front word rest : Word) → begins front word ≡ false → word ≡ front ++ rest → ⊥
never_begins front word rest none is = let no_such : false ≡ true = sym none ∙ begins_so front word rest is in cc

pub without_front : (front rest : Word) → without front (front ++ rest) ≡ rest
without_front front rest =
    ap (λ (b : Bool). if b then drop (length front) (front ++ rest) else front ++ rest) (begins_so front (front ++ rest) rest refl) ∙ drop-append_seam front rest

-- ---- options without a value

-- it is the option's whole name, or `-q`
abbrev pub IsFlagWord : Word → Flag → Type 0
IsFlagWord word f = (word ≡ flag_word f) ⊎ ((f ≡ option.Quiet) × (word ≡ codes "-q"))

pub or_cases : (a b : Bool) → (a || b) ≡ true → (a ≡ true) ⊎ (b ≡ true)
or_cases true b is = inl refl
or_cases false b is = inr is

-- the test of an option's whole name, and of the others behind it
test_flag : (word : Word) (f g : Flag) (more : Option Flag) → ◌≡◌ {A = Option Flag} (if bytes_eq word (flag_word f) then Some f else more) (Some g) → (more ≡ Some g → IsFlagWord word g) → IsFlagWord word g
test_flag word f g more same otherwise = by (bytes_eq word (flag_word f)) refl same
  where
    by : (b : Bool) → bytes_eq word (flag_word f) ≡ b → ◌≡◌ {A = Option Flag} (if b then Some f else more) (Some g) → IsFlagWord word g
    by true is same = inl (decided word (flag_word f) is ∙ ap flag_word (let e : f ≡ g = cc in e))
    by false _ same = otherwise same

-- that of the option that has a short name too
test_quiet : (word : Word) (g : Flag) (more : Option Flag) → ◌≡◌ {A = Option Flag} (if bytes_eq word (codes "--quiet") || bytes_eq word (codes "-q") then Some option.Quiet else more) (Some g) → (more ≡ Some g → IsFlagWord word g) → IsFlagWord word g
test_quiet word g more same otherwise = by (bytes_eq word (codes "--quiet")) refl (bytes_eq word (codes "-q")) refl same
  where
    by : (a : Bool) → bytes_eq word (codes "--quiet") ≡ a → (b : Bool) → bytes_eq word (codes "-q") ≡ b → ◌≡◌ {A = Option Flag} (if a || b then Some option.Quiet else more) (Some g) → IsFlagWord word g
    by true is _ _ same = inl (decided word (codes "--quiet") is ∙ ap flag_word (let e : option.Quiet ≡ g = cc in e))
    by false _ true is same = inr ((let e : g ≡ option.Quiet = cc in e), decided word (codes "-q") is)
    by false _ false _ same = otherwise same

no_flag_left : (g : Flag) → ◌≡◌ {A = Option Flag} None (Some g) → ⊥
no_flag_left g same = cc

named_word : (word : Word) (f : Flag) → flag_named word ≡ Some f → IsFlagWord word f
named_word word f same =
    test_flag word option.NoNames f _ same (λ s. test_flag word option.NoProducers f _ s (λ s. test_flag word option.NoLegacy f _ s (λ s. test_quiet word f _ s
    (λ s. test_flag word option.Json f _ s (λ s. test_flag word option.Names f _ s (λ s. test_flag word option.Producers f _ s
    (λ s. test_flag word option.Debug f _ s (λ s. test_flag word option.All f _ s (λ s. test_flag word option.Exports f _ s
    (λ s. test_flag word option.Imports f _ s (λ s. test_flag word option.Dropped f _ s (λ s. test_flag word option.Callers f None s
    (λ s. absurd (no_flag_left f s))))))))))))))

word_named : (f : Flag) → flag_named (flag_word f) ≡ Some f
word_named option.NoNames = refl
word_named option.NoProducers = refl
word_named option.NoLegacy = refl
word_named option.Quiet = refl
word_named option.Json = refl
word_named option.Names = refl
word_named option.Producers = refl
word_named option.Debug = refl
word_named option.All = refl
word_named option.Exports = refl
word_named option.Imports = refl
word_named option.Dropped = refl
word_named option.Callers = refl

-- the piece that is this option
pub flag_piece : (word : Word) (f : Flag) → IsFlagWord word f → IsFlag f word
flag_piece word f (inl is) = (flag f, ap (λ (l : Word). l ∷ []) (sym is), refl)
flag_piece word f (inr q) = (quiet, ap (λ (l : Word). l ∷ []) (sym q.1), ap (λ (g : Flag). g ∷ []) (sym q.0))

-- ---- options that have a value

pub naming_back : (n : Naming) → naming_named (naming_word n) ≡ Some n
naming_back naming.Short = refl
naming_back naming.Long = refl
naming_back naming.Section = refl
naming_back naming.Keep = refl
naming_back naming.Drop = refl
naming_back naming.Function = refl
naming_back naming.Module = refl
naming_back naming.Import = refl
naming_back naming.By = refl
naming_back naming.Count = refl

-- the test of an option's name
test_naming : (word : Word) (n m : Naming) (more : Option Naming) → ◌≡◌ {A = Option Naming} (if bytes_eq word (naming_word n) then Some n else more) (Some m) → (more ≡ Some m → word ≡ naming_word m) → word ≡ naming_word m
test_naming word n m more same otherwise = by (bytes_eq word (naming_word n)) refl same
  where
    by : (b : Bool) → bytes_eq word (naming_word n) ≡ b → ◌≡◌ {A = Option Naming} (if b then Some n else more) (Some m) → word ≡ naming_word m
    by true is same = decided word (naming_word n) is ∙ ap naming_word (let e : n ≡ m = cc in e)
    by false _ same = otherwise same

no_naming_left : (m : Naming) → ◌≡◌ {A = Option Naming} None (Some m) → ⊥
no_naming_left m same = cc

pub naming_is : (word : Word) (m : Naming) → naming_named word ≡ Some m → word ≡ naming_word m
naming_is word m same =
    test_naming word naming.Short m _ same (λ s. test_naming word naming.Long m _ s (λ s. test_naming word naming.Section m _ s
    (λ s. test_naming word naming.Keep m _ s (λ s. test_naming word naming.Drop m _ s (λ s. test_naming word naming.Function m _ s
    (λ s. test_naming word naming.Module m _ s (λ s. test_naming word naming.Import m _ s (λ s. test_naming word naming.By m _ s
    (λ s. test_naming word naming.Count m None s (λ s. absurd (no_naming_left m s)))))))))))

pub no_naming : (word : Word) → naming_named word ≡ None → (n : Naming) → word ≡ naming_word n → ⊥
no_naming word none n is = let no_such : ◌≡◌ {A = Option Naming} None (Some n) = sym none ∙ ap naming_named is ∙ naming_back n in cc

-- ---- a sign of equality

sign_is : (n : Naming) → (sign n ≡ codes "=") ⊎ ((n ≡ naming.Short) ⊎ (n ≡ naming.Count))
sign_is naming.Short = inr (inl refl)
sign_is naming.Long = inl refl
sign_is naming.Section = inl refl
sign_is naming.Keep = inl refl
sign_is naming.Drop = inl refl
sign_is naming.Function = inl refl
sign_is naming.Module = inl refl
sign_is naming.Import = inl refl
sign_is naming.By = inl refl
sign_is naming.Count = inr (inr refl)

with_sign : (n : Naming) (value : Word) → sign n ≡ codes "=" → joined_front (Some n) ++ value ≡ naming_word n ++ (codes "=" ++ value)
with_sign n value is = ap (λ (s : Word). (naming_word n ++ s) ++ value) is ∙ append_assoc (naming_word n) (codes "=") value

-- the sign is the first one behind an option
sign_behind : (n : Naming) (value : Word) → position_or_len is_equals (naming_word n ++ (codes "=" ++ value)) ≡ length (naming_word n)
sign_behind naming.Short value = refl
sign_behind naming.Long value = refl
sign_behind naming.Section value = refl
sign_behind naming.Keep value = refl
sign_behind naming.Drop value = refl
sign_behind naming.Function value = refl
sign_behind naming.Module value = refl
sign_behind naming.Import value = refl
sign_behind naming.By value = refl
sign_behind naming.Count value = refl

equals_here : (front value : Word) → position_or_len is_equals (front ++ (codes "=" ++ value)) ≡ length front → equals_in (front ++ (codes "=" ++ value)) ≡ equals_by (naming_named front) (flag_named front)
equals_here front value at = ap₂ (λ (b : Bool) (f : Word). if b then equals_by (naming_named f) (flag_named f) else None) there cut
  where
    long : length (front ++ (codes "=" ++ value)) ≡ length front + suc (length value)
    long = length-append front (codes "=" ++ value)

    there : ltb (position_or_len is_equals (front ++ (codes "=" ++ value))) (length (front ++ (codes "=" ++ value))) ≡ true
    there = lt-ltb _ _ (omega (arith, at, long))

    cut : before_first is_equals (front ++ (codes "=" ++ value)) ≡ front
    cut = ap (λ (n : ℕ). take n (front ++ (codes "=" ++ value))) at ∙ take-append_seam front (codes "=" ++ value)

joined_equals : (n : Naming) (value : Word) → sign n ≡ codes "=" → equals_in (joined_front (Some n) ++ value) ≡ Some (kind.Joined n)
joined_equals n value is =
    ap equals_in (with_sign n value is) ∙ equals_here (naming_word n) value (sign_behind n value)
    ∙ ap (λ (m : Option Naming). equals_by m (flag_named (naming_word n))) (naming_back n)

-- ---- what each spelling says

abbrev pub IsSpelled : Word → Spelling → Type 0
IsSpelled word (kind.Flag f) = IsFlagWord word f
IsSpelled word kind.Valued = HasValue word
IsSpelled word (kind.Naming n) = word ≡ naming_word n
IsSpelled word (kind.Joined n) = (value : Word) × (word ≡ joined_front (Some n) ++ value) × IsPiece (joined n value)
IsSpelled word kind.Ending = word ≡ codes "--"
IsSpelled word kind.Unknown = IsUnknown word
IsSpelled word kind.Plain = IsPlain word

-- none of the tests before is so of the word
record IsLeft (word : Word) : Type 0 where
  pub no_dash : word ≡ codes "-" → ⊥
  pub no_ending : word ≡ codes "--" → ⊥
  pub no_naming : naming_named word ≡ None
  pub no_flag : flag_named word ≡ None

no_named : (word : Word) → IsLeft word → (f : Flag) → word ≡ flag_word f → ⊥
no_named word left f is = let no_such : ◌≡◌ {A = Option Flag} None (Some f) = sym left.no_flag ∙ ap flag_named is ∙ word_named f in cc

head_word : (v w : Word) (vs ws : List Word) → v ∷ vs ≡ w ∷ ws → w ≡ v
head_word v w vs ws same = cc

-- it begins with no option that has a value, and that value
record IsApart (word : Word) : Type 0 where
  pub no_short : begins (codes "-o") word ≡ false
  pub no_count : begins (codes "-n") word ≡ false
  pub no_equals : equals_in word ≡ None

no_joined : (word : Word) → IsApart word → (n : Naming) (value : Word) → word ≡ joined_front (Some n) ++ value → ⊥
no_joined word apart n value is = by (sign_is n)
  where
    by : (sign n ≡ codes "=") ⊎ ((n ≡ naming.Short) ⊎ (n ≡ naming.Count)) → ⊥
    by (inl signed) = let no_such : ◌≡◌ {A = Option Spelling} None (Some (kind.Joined n)) = sym apart.no_equals ∙ ap equals_in is ∙ joined_equals n value signed in cc
    by (inr (inl short)) = never_begins (codes "-o") word value apart.no_short (is ∙ ap (λ (m : Naming). joined_front (Some m) ++ value) short)
    by (inr (inr count)) = never_begins (codes "-n") word value apart.no_count (is ∙ ap (λ (m : Naming). joined_front (Some m) ++ value) count)

no_piece : (word : Word) → IsLeft word → IsApart word → (p : Piece) (more : List Word) → plain_in p ≡ [] → piece_words p ≡ word ∷ more → ⊥
no_piece word left apart (flag f) more none is = no_named word left f (head_word (flag_word f) word [] more is)
no_piece word left apart quiet more none is =
    let no_such : ◌≡◌ {A = Option Flag} None (Some option.Quiet) = sym left.no_flag ∙ ap flag_named (head_word (codes "-q") word [] more is) in
    cc
no_piece word left apart (valued n w) more none is = no_naming word left.no_naming n (head_word (naming_word n) word (w ∷ []) more is)
no_piece word left apart (joined n w) more none is = no_joined word apart n w (head_word (joined_front (Some n) ++ w) word [] more is)
no_piece word left apart (plain w) more none is = let no_such : w ∷ [] ≡ [] = none in absurd (cc)

-- a value behind an option alone has a byte
some_behind : (word : Word) (n : Naming) (value : Word) → (word ≡ naming_word n → ⊥) → word ≡ joined_front (Some n) ++ value → IsPiece (joined n value)
some_behind word n value never is = λ none empty. never (is ∙ ap₂ (λ (s v : Word). (naming_word n ++ s) ++ v) none empty ∙ (append-nil (naming_word n ++ []) ∙ append-nil (naming_word n)))

-- what an option in front of a sign of equality says
equals_is : (word : Word) (s : Spelling) → IsLeft word → begins (codes "-o") word ≡ false → begins (codes "-n") word ≡ false → equals_in word ≡ Some s → IsSpelled word s
equals_is word s left no_short no_count same = by _ refl same
  where
    cut : ltb (position_or_len is_equals word) (length word) ≡ true → word ≡ before_first is_equals word ++ (codes "=" ++ after_first is_equals word)
    cut there =
        let within : position_or_len is_equals word < length word = ltb-true _ _ there in
        let byte : get_or word (position_or_len is_equals word) 0 ≡ 61 = eqb-true _ _ (passes_at_first is_equals word 0 within) in
        split_at_first is_equals word 0 within ∙ ap (λ (b : ℕ). before_first is_equals word ++ (b ∷ after_first is_equals word)) byte

    some_spelling : (a b : Spelling) → ◌≡◌ {A = Option Spelling} (Some a) (Some b) → a ≡ b
    some_spelling a b same = cc

    as_joined : (n : Naming) → word ≡ naming_word n ++ (codes "=" ++ after_first is_equals word) → IsSpelled word (kind.Joined n)
    as_joined n is = each (sign_is n)
      where
        each : (sign n ≡ codes "=") ⊎ ((n ≡ naming.Short) ⊎ (n ≡ naming.Count)) → IsSpelled word (kind.Joined n)
        each (inl signed) = (after_first is_equals word, is ∙ sym (with_sign n (after_first is_equals word) signed), some_behind word n (after_first is_equals word) (no_naming word left.no_naming n) (is ∙ sym (with_sign n (after_first is_equals word) signed)))
        each (inr (inl short)) = absurd (never_begins (codes "-o") word (codes "=" ++ after_first is_equals word) no_short (is ∙ ap (λ (m : Naming). naming_word m ++ (codes "=" ++ after_first is_equals word)) short))
        each (inr (inr count)) = absurd (never_begins (codes "-n") word (codes "=" ++ after_first is_equals word) no_count (is ∙ ap (λ (m : Naming). naming_word m ++ (codes "=" ++ after_first is_equals word)) count))

    by_option : word ≡ before_first is_equals word ++ (codes "=" ++ after_first is_equals word)
        → (m : Option Naming) → naming_named (before_first is_equals word) ≡ m → (f : Option Flag) → flag_named (before_first is_equals word) ≡ f → equals_by m f ≡ Some s → IsSpelled word s
    by_option are (Some n) is f _ same =
        subst (λ (t : Spelling). IsSpelled word t) (some_spelling (kind.Joined n) s same)
        (as_joined n (are ∙ ap (λ (l : Word). l ++ (codes "=" ++ after_first is_equals word)) (naming_is (before_first is_equals word) n is)))
    by_option are None _ (Some f) is same =
        subst (λ (t : Spelling). IsSpelled word t) (some_spelling kind.Valued s same)
        (f, before_first is_equals word, after_first is_equals word, flag_piece (before_first is_equals word) f (named_word (before_first is_equals word) f is), are)
    by_option are None _ None _ same = absurd (cc)

    by : (b : Bool) → ltb (position_or_len is_equals word) (length word) ≡ b
        → ◌≡◌ {A = Option Spelling} (if b then equals_by (naming_named (before_first is_equals word)) (flag_named (before_first is_equals word)) else None) (Some s) → IsSpelled word s
    by true there same = by_option (cut there) _ refl _ refl same
    by false _ same = absurd (cc)

otherwise_is : (word : Word) → IsLeft word → IsSpelled word (spelled_otherwise word)
otherwise_is word left = by _ refl _ refl _ refl _ refl
  where
    behind : (n : Naming) → begins (naming_word n) word ≡ true → joined_front (Some n) ≡ naming_word n → IsSpelled word (kind.Joined n)
    behind n is front =
        let value : Word = drop (length (naming_word n)) word in
        let same : word ≡ joined_front (Some n) ++ value = begins_is (naming_word n) word is ∙ ap (λ (l : Word). l ++ value) (sym front) in
        (value, same, some_behind word n value (no_naming word left.no_naming n) same)

    by : (a : Bool) → begins (codes "-o") word ≡ a → (b : Bool) → begins (codes "-n") word ≡ b → (e : Option Spelling) → equals_in word ≡ e → (d : Bool) → begins (codes "-") word ≡ d
        → IsSpelled word (if a then kind.Joined naming.Short else (if b then kind.Joined naming.Count else or_plain e word))
    by true is _ _ _ _ _ _ = behind naming.Short is refl
    by false _ true is _ _ _ _ = behind naming.Count is refl
    by false no_short false no_count (Some s) is _ _ = equals_is word s left no_short no_count is
    by false no_short false no_count None no_equals true is = subst (λ (t : Bool). IsSpelled word (if t then kind.Unknown else kind.Plain)) (sym is) (record {
      dashed = (drop 1 word, begins_is (codes "-") word is);
      no_dash = left.no_dash;
      no_ending = left.no_ending;
      none = no_piece word left (record { no_short = no_short; no_count = no_count; no_equals = no_equals });
    })
    by false _ false _ None _ false none = subst (λ (t : Bool). IsSpelled word (if t then kind.Unknown else kind.Plain)) (sym none) (inr (λ rest same. never_begins (codes "-") word rest none same))

-- what an argument is, it is spelled as
pub spelled_is : (word : Word) → IsSpelled word (spelling_of word)
spelled_is word = by _ refl _ refl _ refl _ refl
  where
    by : (a : Bool) → bytes_eq word (codes "-") ≡ a → (b : Bool) → bytes_eq word (codes "--") ≡ b → (n : Option Naming) → naming_named word ≡ n → (f : Option Flag) → flag_named word ≡ f
        → IsSpelled word (if a then kind.Plain else (if b then kind.Ending else spelled_by n word))
    by true is _ _ _ _ _ _ = inl (decided word _ is)
    by false _ true is _ _ _ _ = decided word _ is
    by false _ false _ (Some n) is _ _ = naming_is word n is
    by false a false b None n f is = as_flag f is
      where
        as_flag : (f : Option Flag) → flag_named word ≡ f → IsSpelled word (spelled_as (flag_named word) word)
        as_flag (Some f) is = subst (λ (x : Option Flag). IsSpelled word (spelled_as x word)) (sym is) (named_word word f is)
        as_flag None is = subst (λ (x : Option Flag). IsSpelled word (spelled_as x word)) (sym is) (otherwise_is word (record {
          no_dash = differs word _ a;
          no_ending = differs word _ b;
          no_naming = n;
          no_flag = is;
        }))

-- ---- what is spelled so is that

pub flag_spelled : (f : Flag) → spelling_of (flag_word f) ≡ kind.Flag f
flag_spelled option.NoNames = refl
flag_spelled option.NoProducers = refl
flag_spelled option.NoLegacy = refl
flag_spelled option.Quiet = refl
flag_spelled option.Json = refl
flag_spelled option.Names = refl
flag_spelled option.Producers = refl
flag_spelled option.Debug = refl
flag_spelled option.All = refl
flag_spelled option.Exports = refl
flag_spelled option.Imports = refl
flag_spelled option.Dropped = refl
flag_spelled option.Callers = refl

pub quiet_spelled : spelling_of (codes "-q") ≡ kind.Flag option.Quiet
quiet_spelled = refl

pub naming_spelled : (n : Naming) → spelling_of (naming_word n) ≡ kind.Naming n
naming_spelled naming.Short = refl
naming_spelled naming.Long = refl
naming_spelled naming.Section = refl
naming_spelled naming.Keep = refl
naming_spelled naming.Drop = refl
naming_spelled naming.Function = refl
naming_spelled naming.Module = refl
naming_spelled naming.Import = refl
naming_spelled naming.By = refl
naming_spelled naming.Count = refl

pub joined_spelled : (n : Naming) (value : Word) → IsPiece (joined n value) → spelling_of (joined_front (Some n) ++ value) ≡ kind.Joined n
joined_spelled naming.Short [] some = absurd (some refl refl)
joined_spelled naming.Short (byte ∷ value) some = refl
joined_spelled naming.Count [] some = absurd (some refl refl)
joined_spelled naming.Count (byte ∷ value) some = refl
joined_spelled naming.Long value some = ap (λ (e : Option Spelling). or_plain e (joined_front (Some naming.Long) ++ value)) (joined_equals naming.Long value refl)
joined_spelled naming.Section value some = ap (λ (e : Option Spelling). or_plain e (joined_front (Some naming.Section) ++ value)) (joined_equals naming.Section value refl)
joined_spelled naming.Keep value some = ap (λ (e : Option Spelling). or_plain e (joined_front (Some naming.Keep) ++ value)) (joined_equals naming.Keep value refl)
joined_spelled naming.Drop value some = ap (λ (e : Option Spelling). or_plain e (joined_front (Some naming.Drop) ++ value)) (joined_equals naming.Drop value refl)
joined_spelled naming.Function value some = ap (λ (e : Option Spelling). or_plain e (joined_front (Some naming.Function) ++ value)) (joined_equals naming.Function value refl)
joined_spelled naming.Module value some = ap (λ (e : Option Spelling). or_plain e (joined_front (Some naming.Module) ++ value)) (joined_equals naming.Module value refl)
joined_spelled naming.Import value some = ap (λ (e : Option Spelling). or_plain e (joined_front (Some naming.Import) ++ value)) (joined_equals naming.Import value refl)
joined_spelled naming.By value some = ap (λ (e : Option Spelling). or_plain e (joined_front (Some naming.By) ++ value)) (joined_equals naming.By value refl)

pub ending_spelled : spelling_of (codes "--") ≡ kind.Ending
ending_spelled = refl

-- ---- what begins with a dash

-- the word is a dash and others
abbrev Dashed : Word → Type 0
Dashed word = (rest : Word) × (word ≡ codes "-" ++ rest)

begun : (word more : Word) → begins (codes "-") word ≡ true → Dashed (word ++ more)
begun word more is = (drop 1 word ++ more, ap (λ (l : Word). l ++ more) (begins_is (codes "-") word is))

flag_dash : (f : Flag) → begins (codes "-") (flag_word f) ≡ true
flag_dash option.NoNames = refl
flag_dash option.NoProducers = refl
flag_dash option.NoLegacy = refl
flag_dash option.Quiet = refl
flag_dash option.Json = refl
flag_dash option.Names = refl
flag_dash option.Producers = refl
flag_dash option.Debug = refl
flag_dash option.All = refl
flag_dash option.Exports = refl
flag_dash option.Imports = refl
flag_dash option.Dropped = refl
flag_dash option.Callers = refl

naming_dash : (n : Naming) → begins (codes "-") (naming_word n) ≡ true
naming_dash naming.Short = refl
naming_dash naming.Long = refl
naming_dash naming.Section = refl
naming_dash naming.Keep = refl
naming_dash naming.Drop = refl
naming_dash naming.Function = refl
naming_dash naming.Module = refl
naming_dash naming.Import = refl
naming_dash naming.By = refl
naming_dash naming.Count = refl

-- an option without a value, and what stands behind it
flag_dashed : (f : Flag) (word more : Word) → IsFlag f word → Dashed (word ++ more)
flag_dashed f word more (flag g, words, is) = begun word more (ap (begins (codes "-")) (head_word (flag_word g) word [] [] words) ∙ flag_dash g)
flag_dashed f word more (quiet, words, is) = begun word more (ap (begins (codes "-")) (head_word (codes "-q") word [] [] words))
flag_dashed f word more (valued n w, words, is) = absurd (cc)
flag_dashed f word more (joined n w, words, is) = absurd (cc)
flag_dashed f word more (plain w, words, is) = absurd (cc)

pub plain_spelled : (v : Word) → IsPlain v → spelling_of v ≡ kind.Plain
plain_spelled v (inl is) = ap spelling_of is
plain_spelled v (inr never) = by (spelling_of v) refl (spelled_is v)
  where
    no_dashed : (word : Word) → v ≡ word → Dashed word → ⊥
    no_dashed word is dashed = never dashed.0 (is ∙ dashed.1)

    by : (s : Spelling) → spelling_of v ≡ s → IsSpelled v s → spelling_of v ≡ kind.Plain
    by (kind.Flag f) is spelled = absurd (no_dashed (v ++ []) (sym (append-nil v)) (flag_dashed f v [] (flag_piece v f spelled)))
    by kind.Valued is (f, front, value, flagged, same) = absurd (no_dashed _ same (flag_dashed f front (codes "=" ++ value) flagged))
    by (kind.Naming n) is spelled = absurd (no_dashed (naming_word n ++ []) (spelled ∙ sym (append-nil (naming_word n))) (begun (naming_word n) [] (naming_dash n)))
    by (kind.Joined n) is (value, same, piece) = absurd (no_dashed _ (same ∙ append_assoc (naming_word n) (sign n) value) (begun (naming_word n) (sign n ++ value) (naming_dash n)))
    by kind.Ending is spelled = absurd (never (codes "-") spelled)
    by kind.Unknown is spelled = let d = spelled.dashed in absurd (never d.0 d.1)
    by kind.Plain is spelled = is
