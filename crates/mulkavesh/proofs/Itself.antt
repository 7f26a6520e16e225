-- What the arguments ask of the program itself, and that those that are told as a mistake ask for nothing.
use Rattle.std.proofs.Common.{◌≡◌, Bool, true, false, ◌||◌, List, [], ◌∷◌, ◌++◌, refl, sym, ap, ◌∙◌, subst, inl, inr, ◌⊎◌, ⊎_elim, codes, string_bytes}
use Rattle.std.specs.Prelude.{bytes_eq, Result, Ok, Err, String, flat_map}
use Rattle.std.specs.declared.alloc.Global.{Global}
use Rattle.mulkavesh.specs.declared.mistakes.Mistake.{Mistake}
use Rattle.mulkavesh.specs.declared.mistakes.Mistake.TheVariants as mistake
use Rattle.mulkavesh.specs.declared.mistakes.Wrong.{Wrong}
use Rattle.mulkavesh.specs.declared.order.Asked.{Asked}
use Rattle.mulkavesh.specs.declared.order.Asked.TheVariants.{Help, HelpOf, Version, Run}
use Rattle.mulkavesh.specs.declared.order.Order.{Order}
use Rattle.mulkavesh.specs.declared.order.Work.{Work}
use Rattle.mulkavesh.specs.declared.order.Work.TheVariants as work
use Rattle.mulkavesh.specs.Mistakes.{IsOrdered, IsTold, at_help, at_version}
use Rattle.mulkavesh.specs.Order.{Said, said, work_word}
use Rattle.mulkavesh.specs.Steps.{IsAlone}
use Rattle.mulkavesh.specs.Words.{AsksHelp, BeginsWith, Front, IsNoWork, IsUnhelped, Says, SaysOrder, Word, front_words, help, help_alone, help_named, help_of, order, pair, single, version}
use Rattle.mulkavesh.proofs.Spelling.{differs}

-- ---- no arguments

no_front : (front : List Front) (asking : Word) (rest : List Word) → ◌≡◌ {A = List Word} [] (flat_map front_words front ++ asking ∷ rest) → ⊥
no_front [] asking rest is = cc
no_front (pair n w ∷ front) asking rest is = cc
no_front (single w ∷ front) asking rest is = cc

-- ---- behind a subcommand

-- the word is that of a subcommand
is_work : Word → Bool
is_work word =
    bytes_eq word (codes "gc") || bytes_eq word (codes "report") || bytes_eq word (codes "list") || bytes_eq word (codes "check") || bytes_eq word (codes "sections")
    || bytes_eq word (codes "strip") || bytes_eq word (codes "snip") || bytes_eq word (codes "stub") || bytes_eq word (codes "why")

work_is : (w : Work) → is_work (work_word w) ≡ true
unfolding is_work
work_is work.Gc = refl
work_is work.Report = refl
work_is work.List = refl
work_is work.Check = refl
work_is work.Sections = refl
work_is work.Strip = refl
work_is work.Snip = refl
work_is work.Stub = refl
work_is work.Why = refl

none_of : (word : Word) → is_work word ≡ false → IsNoWork word
none_of word none w is = let no_such : false ≡ true = sym none ∙ ap is_work is ∙ work_is w in cc

help_is_none : IsNoWork (codes "help")
unfolding is_work
help_is_none = none_of (codes "help") refl

short_is_none : IsNoWork (codes "-V")
unfolding is_work
short_is_none = none_of (codes "-V") refl

long_is_none : IsNoWork (codes "--version")
unfolding is_work
long_is_none = none_of (codes "--version") refl

version_is_none : (w : Work) → (codes "-V" ≡ work_word w) ⊎ (codes "--version" ≡ work_word w) → ⊥
version_is_none w is = ⊎_elim (λ e. short_is_none w e) (λ e. long_is_none w e) is

first_is : (v w : Word) (vs ws : List Word) → v ∷ vs ≡ w ∷ ws → w ≡ v
first_is v w vs ws same = cc

rest_is : (v w : Word) (vs ws : List Word) → v ∷ vs ≡ w ∷ ws → vs ≡ ws
rest_is v w vs ws same = cc

no_order : (w : Work) (words : List Word) → IsUnhelped (work_word w ∷ words) → ((o : Said) → SaysOrder (work_word w ∷ words) o → ⊥) → (asked : Asked) → Says (work_word w ∷ words) asked → ⊥
no_order w words none never Help (help h other) = none h
no_order w words none never Help (help_alone is) = help_is_none w (first_is (work_word w) (codes "help") words [] is)
no_order w words none never (HelpOf v) (help_of _ begins h) = none h
no_order w words none never (HelpOf v) (help_named _ is) = help_is_none w (first_is (work_word w) (codes "help") words (work_word v ∷ []) is)
no_order w words none never Version (version is) =
    version_is_none w (⊎_elim (λ e. inl (first_is (work_word w) (codes "-V") words [] e)) (λ e. inr (first_is (work_word w) (codes "--version") words [] e)) is)
no_order w words none never (Run o) (order _ says) = never (said o) says

pub told_order : (w : Work) (words : List Word) (o : Order) → IsOrdered w words (Ok o) → IsTold (work_word w ∷ words) (Ok (Run o))
told_order w words o says = order o says

pub told_wrong : (w : Work) (words : List Word) (m : Wrong) → IsOrdered w words (Err m) → IsUnhelped (work_word w ∷ words) → IsTold (work_word w ∷ words) (Err (mistake.Behind w m))
told_wrong w words m (inl memory) none = inl memory
told_wrong w words m (inr is) none = inr ((words, refl, is.0), no_order w words none is.1)

-- ---- where no subcommand stands first

begins_not : (first : Word) (words : List Word) → IsNoWork first → (w : Work) → BeginsWith w (first ∷ words) → ⊥
begins_not first words never w (rest, is) = never w (sym (first_is first (work_word w) words rest is))

-- what they can ask for, where nothing in them asks for help
unasked : (first : Word) (words : List Word) → IsNoWork first → IsUnhelped (first ∷ words) → ((first ∷ words ≡ codes "help" ∷ []) → ⊥) → ((w : Work) → first ∷ words ≡ codes "help" ∷ work_word w ∷ [] → ⊥)
    → ((first ∷ words ≡ codes "-V" ∷ []) ⊎ (first ∷ words ≡ codes "--version" ∷ []) → ⊥) → (asked : Asked) → Says (first ∷ words) asked → ⊥
unasked first words never none alone named no_version Help (help h other) = none h
unasked first words never none alone named no_version Help (help_alone is) = alone is
unasked first words never none alone named no_version (HelpOf w) (help_of _ begins h) = none h
unasked first words never none alone named no_version (HelpOf w) (help_named _ is) = named w is
unasked first words never none alone named no_version Version (version is) = no_version is
unasked first words never none alone named no_version (Run o) (order _ says) = begins_not first words never o.work (_, (says.reads).are)

no_version_work : (first : Word) → (first ≡ codes "-V") ⊎ (first ≡ codes "--version") → IsNoWork first
no_version_work first is w same = version_is_none w (⊎_elim (λ e. inl (sym e ∙ same)) (λ e. inr (sym e ∙ same)) is)

help_no_version : (words : List Word) → (codes "help" ∷ words ≡ codes "-V" ∷ []) ⊎ (codes "help" ∷ words ≡ codes "--version" ∷ []) → ⊥
help_no_version words (inl is) = differs (codes "-V") (codes "help") refl (first_is (codes "help") (codes "-V") words [] is)
help_no_version words (inr is) = differs (codes "--version") (codes "help") refl (first_is (codes "help") (codes "--version") words [] is)

pub told_help_alone : (words : List Word) → words ≡ [] → IsTold (codes "help" ∷ words) (Ok Help)
told_help_alone words empty = help_alone (ap (λ (l : List Word). codes "help" ∷ l) empty)

some_more : (v : Word) (vs : List Word) → v ∷ vs ≡ [] → ⊥
some_more v vs is = cc

pub told_named : (a : String Global) (words : List Word) → IsNoWork (string_bytes a) → IsUnhelped (codes "help" ∷ string_bytes a ∷ words) → IsTold (codes "help" ∷ string_bytes a ∷ words) (Err (mistake.UnknownSubcommand a))
told_named a words never none = inr (
  inr (words, refl, never),
  unasked (codes "help") (string_bytes a ∷ words) help_is_none none (λ is. some_more (string_bytes a) words (rest_is (codes "help") (codes "help") (string_bytes a ∷ words) [] is))
      (λ w is. never w (sym (first_is (string_bytes a) (work_word w) words [] (rest_is (codes "help") (codes "help") (string_bytes a ∷ words) (work_word w ∷ []) is)))) (help_no_version (string_bytes a ∷ words)),
)

pub told_help_of : (w : Work) (words : List Word) (r : Result Asked Mistake) → IsAlone (HelpOf w) words r → IsUnhelped (codes "help" ∷ work_word w ∷ words) → IsTold (codes "help" ∷ work_word w ∷ words) r
told_help_of w words (Ok asked) (same, empty) none =
    subst (λ (a : Asked). Says (codes "help" ∷ work_word w ∷ words) a) (sym same) (help_named w (ap (λ (l : List Word). codes "help" ∷ work_word w ∷ l) empty))
told_help_of w words (Err m) (a, rest, is, are) none =
    subst (λ (x : Mistake). IsTold (codes "help" ∷ work_word w ∷ words) (Err x)) (sym is) (inr (
      (codes "help" ∷ work_word w ∷ [], rest, ap (λ (l : List Word). codes "help" ∷ work_word w ∷ l) are, at_help w refl),
      unasked (codes "help") (work_word w ∷ words) help_is_none none (λ is. some_more (work_word w) words (rest_is (codes "help") (codes "help") (work_word w ∷ words) [] is))
          (λ v is. some_more (string_bytes a) rest (sym are ∙ rest_is (work_word w) (work_word v) words [] (rest_is (codes "help") (codes "help") (work_word w ∷ words) (work_word v ∷ []) is))) (help_no_version (work_word w ∷ words)),
    ))

pub told_version : (first : Word) (words : List Word) (r : Result Asked Mistake) → (first ≡ codes "-V") ⊎ (first ≡ codes "--version") → IsAlone Version words r → IsUnhelped (first ∷ words) → IsTold (first ∷ words) r
told_version first words (Ok asked) is (same, empty) none =
    subst (λ (a : Asked). Says (first ∷ words) a) (sym same) (version (⊎_elim (λ e. inl (ap (λ (v : Word). v ∷ words) e ∙ ap (λ (l : List Word). codes "-V" ∷ l) empty)) (λ e. inr (ap (λ (v : Word). v ∷ words) e ∙ ap (λ (l : List Word). codes "--version" ∷ l) empty)) is))
told_version first words (Err m) is (a, rest, same, are) none =
    subst (λ (x : Mistake). IsTold (first ∷ words) (Err x)) (sym same) (inr (
      (first ∷ [], rest, ap (λ (l : List Word). first ∷ l) are, at_version (version (⊎_elim (λ e. inl (ap (λ (v : Word). v ∷ []) e)) (λ e. inr (ap (λ (v : Word). v ∷ []) e)) is))),
      unasked first words (no_version_work first is) none (λ e. some_more (string_bytes a) rest (sym are ∙ rest_is first (codes "help") words [] e))
          (λ w e. no_named first is words w e)
          (λ e. ⊎_elim (λ s. some_more (string_bytes a) rest (sym are ∙ rest_is first (codes "-V") words [] s)) (λ s. some_more (string_bytes a) rest (sym are ∙ rest_is first (codes "--version") words [] s)) e),
    ))
  where
    no_named : (first : Word) → (first ≡ codes "-V") ⊎ (first ≡ codes "--version") → (words : List Word) (w : Work) → first ∷ words ≡ codes "help" ∷ work_word w ∷ [] → ⊥
    no_named first (inl is) words w e = differs (codes "help") (codes "-V") refl (first_is first (codes "help") words (work_word w ∷ []) e ∙ is)
    no_named first (inr is) words w e = differs (codes "help") (codes "--version") refl (first_is first (codes "help") words (work_word w ∷ []) e ∙ is)

pub told_help : (first : Word) (words : List Word) → IsNoWork first → AsksHelp (first ∷ words) → IsTold (first ∷ words) (Ok Help)
told_help first words never h = help h (begins_not first words never)

pub told_help_behind : (w : Work) (words : List Word) → AsksHelp (work_word w ∷ words) → IsTold (work_word w ∷ words) (Ok (HelpOf w))
told_help_behind w words h = help_of w (words, refl) h
