-- What a call answers under the choices that were read.
use Rattle.std.proofs.Common.{◌≡◌, ◌⊎◌, ℕ, true, false, List, Option, Some, None, length, refl, sym, ap, ◌∙◌, subst, inl, inr}
use Rattle.std.specs.Prelude.{Err, IsUtf8, unwrap_or, if◌then◌else◌}
use Rattle.std.specs.declared.alloc.AllocError.{AllocError}
use Rattle.walrus_sections.specs.Choice.{AreChoices, Choice, IsList, choices_seen}
use Rattle.walrus_tools.specs.ChosenModule.{AnswersUnfit, TellsOfParsed}
use Rattle.walrus_tools.specs.Facade.{Config, Error, InvalidWasm, Memory, NotFound, TooLarge}
use Rattle.walrus_tools.specs.Wanted.{config_wanted}
use Rattle.walrus_sections.specs.declared.choice.Choice.{Choice as HeldChoice}
use Rattle.walrus_sections.proofs.Records.{one_list}
use Rattle.walrus_tools.specs.WantedValue.{Wanted}
use Rattle.mulkavesh_c.specs.Answer.{Answer, Puts}
use Rattle.mulkavesh_c.specs.ChosenRoots.{AreAsked, GivesChosen, IsNumbered, IsUnfit, MakesChosen, NumbersUnfit, is_missing}
use Rattle.mulkavesh_c.specs.Flags.{is_known, wanted}
use Rattle.mulkavesh_c.specs.Names.{LacksChoices, LacksTexts, UnderChoices, UnderLists, UnderName, UnderTexts, names_of}
use Rattle.mulkavesh_c.specs.declared.answer.Made.{Made}
use Rattle.mulkavesh_c.proofs.AnswerLemmas.{asks, gives}

pub untrue : false ≡ true → ⊥
untrue h = cc

-- what is so of the choices that were read is so of all that the bytes are
pub under_choices : (bytes : List ℕ) (held : List Choice) → AreChoices bytes held → (Answers : List Choice → Answer → Type 0) (answer : Answer) → Answers held answer → UnderChoices bytes Answers answer
under_choices bytes held held_are Answers answer answers = λ choices are. subst (λ (cs : List Choice). Answers cs answer) (one_list held choices bytes held_are are) answers

-- ---- a choice of exports

-- a refusal that says which number is wanted isn't there is none of the exports that don't fit
no_number : (c : Config) (bytes : List ℕ) (choices : List Choice) (e : Error) → AnswersUnfit c bytes choices (Err e) → ◌≡◌ {A = Answer} (Err e) (Err NotFound) → ⊥
no_number c bytes choices NotFound unfit same = unfit
no_number c bytes choices (Memory m) unfit same = cc
no_number c bytes choices (InvalidWasm kind) unfit same = cc
no_number c bytes choices TooLarge unfit same = unfit
no_number c bytes choices _ unfit same = unfit

-- what unfit tells is the number, or else how many choices there are is
pub unfit_number : (c : Config) (bytes : List ℕ) (choices : List Choice) (found : Option ℕ) → TellsOfParsed c bytes choices found → (number : ℕ) → number ≡ unwrap_or found (length choices) → IsUnfit c bytes choices number
unfit_number c bytes choices (Some n) tells number is = inl (subst (λ (k : ℕ). TellsOfParsed c bytes choices (Some k)) (sym is) tells)
unfit_number c bytes choices None tells number is = inr (tells, is)

-- a refusal of unfit stands for the answer
pub numbered_refused : (c : Config) (bytes : List ℕ) (choices : List Choice) (answer : Answer) (e : Error) (made : Made) → (made.answer ≡ Err e) × (made.number ≡ 0) → AnswersUnfit c bytes choices (Err e) → IsNumbered c bytes choices answer made
numbered_refused c bytes choices answer e made same unfit = record {
  answers = inr (e, same.0, unfit);
  numbers = λ h. absurd (no_number c bytes choices e unfit (sym same.0 ∙ h));
}

-- an answer that isn't that something isn't found needs no number
pub numbered_same : (c : Config) (bytes : List ℕ) (choices : List Choice) (answer : Answer) (made : Made) → made.answer ≡ answer → (answer ≡ Err NotFound → ⊥) → IsNumbered c bytes choices answer made
numbered_same c bytes choices answer made same found = record { answers = inl same; numbers = λ h. absurd (found (sym same ∙ h)) }

-- what is missing is so, and what isn't isn't
missing_is : (e : Error) → is_missing e ≡ true → e ≡ NotFound
missing_is NotFound h = refl
missing_is _ h = absurd (untrue h)

pub numbered_missing : (c : Config) (bytes : List ℕ) (choices : List Choice) (e : Error) → is_missing e ≡ true → (made : Made) → IsNumbered c bytes choices (Err NotFound) made → IsNumbered c bytes choices (Err e) made
numbered_missing c bytes choices e h made numbered = subst (λ (x : Error). IsNumbered c bytes choices (Err x) made) (sym (missing_is e h)) numbered

pub numbered_error : (c : Config) (bytes : List ℕ) (choices : List Choice) (e : Error) → is_missing e ≡ false → (made : Made) → made.answer ≡ Err e → IsNumbered c bytes choices (Err e) made
numbered_error c bytes choices e h made same = numbered_same c bytes choices (Err e) made same (λ is. let one : e ≡ NotFound = cc in untrue (sym h ∙ ap is_missing one))

module _ (c : Config) (bytes choice : List ℕ) (Answered : List Choice → Answer → Type 0)
    (passes : (choices : List Choice) (e : Error) → AnswersUnfit c bytes choices (Err e) → Answered choices (Err e)) where
  pub made_refused : (e : Error) → LacksChoices choice e → (made : Made) → (made.answer ≡ Err e) × (made.number ≡ 0) → MakesChosen c bytes choice Answered made
  made_refused (Memory m) lacks made same = record {
    answers = λ choices are. subst (Answered choices) (sym same.0) (passes choices (Memory m) tt);
    numbers = λ h. let wrong : ◌≡◌ {A = Answer} (Err (Memory m)) (Err NotFound) = sym same.0 ∙ h in absurd cc;
  }
  made_refused (InvalidWasm kind) lacks made same = record { answers = λ choices are. absurd (lacks (choices, are)); numbers = λ h choices are. absurd (lacks (choices, are)) }
  made_refused TooLarge lacks made same = record { answers = λ choices are. absurd (lacks (choices, are)); numbers = λ h choices are. absurd (lacks (choices, are)) }
  made_refused _ lacks made same = record { answers = λ choices are. absurd (lacks (choices, are)); numbers = λ h choices are. absurd (lacks (choices, are)) }

  pub made_chosen : (held : List Choice) → AreChoices choice held → (answer : Answer) → Answered held answer → (made : Made) → IsNumbered c bytes held answer made → MakesChosen c bytes choice Answered made
  made_chosen held held_are answer answers made numbered = record {
    answers = under_choices choice held held_are Answered made.answer (so numbered.answers);
    numbers = λ h choices are. subst (λ (cs : List Choice). IsUnfit c bytes cs made.number) (one_list held choices choice held_are are) (numbered.numbers h);
  }
    where
      so : (made.answer ≡ answer) ⊎ ((e : Error) × (made.answer ≡ Err e) × AnswersUnfit c bytes held (Err e)) → Answered held made.answer
      so (inl same) = subst (Answered held) (sym same) answers
      so (inr (e, same, unfit)) = subst (Answered held) (sym same) (passes held e unfit)

-- the whole call, where flags and choice are known
pub gives_chosen : (Answered : Config → List Choice → Answer → Type 0) (flags : ℕ) (bytes choice : List ℕ) (w : Wanted) → ◌≡◌ {A = Option Wanted} (Some w) (if is_known flags then Some (wanted flags) else None) → IsList choice
    → (made : Made) → MakesChosen (config_wanted w) bytes choice (Answered (config_wanted w)) made → (old new : List ℕ) (told status : ℕ) → Puts made.answer made.number old new told status
    → GivesChosen flags bytes choice Answered old new told status
gives_chosen Answered flags bytes choice w is list made makes old new told status puts =
    let known = asks (is_known flags) (wanted flags) w is in
    let makes_so = subst (λ (v : Wanted). MakesChosen (config_wanted v) bytes choice (Answered (config_wanted v)) made) known.1 makes in
    let c = config_wanted (wanted flags) in
    gives (UnderChoices choice (Answered c)) (AreAsked flags choice) (NumbersUnfit c bytes choice) old new told status (known.0, list) made.answer made.number makes_so.answers makes_so.numbers puts

-- ---- lists as they were read

-- the choices that were read, as a slice of them
are_read : (bytes : List ℕ) (held slice : List HeldChoice) → slice ≡ held → AreChoices bytes (choices_seen held) → AreChoices bytes (choices_seen slice)
are_read bytes held slice same are = subst (λ (cs : List HeldChoice). AreChoices bytes (choices_seen cs)) (sym same) are

pub list_answer : (bytes : List ℕ) (held slice : List HeldChoice) → slice ≡ held → AreChoices bytes (choices_seen held) → (Answers : List Choice → Answer → Type 0) (answer : Answer) → Answers (choices_seen slice) answer
    → UnderChoices bytes Answers answer
list_answer bytes held slice same are Answers answer answers = under_choices bytes (choices_seen slice) (are_read bytes held slice same are) Answers answer answers

pub lists_answer : (bytes others : List ℕ) (held slice more more_slice : List HeldChoice) → slice ≡ held → more_slice ≡ more → AreChoices bytes (choices_seen held) → AreChoices others (choices_seen more)
    → (Answers : List Choice → List Choice → Answer → Type 0) (answer : Answer) → Answers (choices_seen slice) (choices_seen more_slice) answer → UnderLists bytes others Answers answer
lists_answer bytes others held slice more more_slice same more_same are more_are Answers answer answers =
    list_answer bytes held slice same are (λ (cs : List Choice). UnderChoices others (Answers cs)) answer (list_answer others more more_slice more_same more_are (Answers (choices_seen slice)) answer answers)

pub texts_answer : (bytes : List ℕ) (held slice : List HeldChoice) → slice ≡ held → AreChoices bytes (choices_seen held) → (ts : List (List ℕ)) → ts ≡ names_of (choices_seen slice)
    → (Answers : List (List ℕ) → Answer → Type 0) (answer : Answer) → Answers ts answer → UnderTexts bytes Answers answer
texts_answer bytes held slice same are ts is Answers answer answers =
    list_answer bytes held slice same are (λ (cs : List Choice) (r : Answer). Answers (names_of cs) r ⊎ ((e : Error) × (r ≡ Err e) × LacksTexts (names_of cs) e)) answer
    (inl (subst (λ (names : List (List ℕ)). Answers names answer) is answers))

pub texts_lack : (bytes : List ℕ) (held slice : List HeldChoice) → slice ≡ held → AreChoices bytes (choices_seen held) → (Answers : List (List ℕ) → Answer → Type 0) (e : Error) → LacksTexts (names_of (choices_seen slice)) e
    → UnderTexts bytes Answers (Err e)
texts_lack bytes held slice same are Answers e lacks =
    list_answer bytes held slice same are (λ (cs : List Choice) (r : Answer). Answers (names_of cs) r ⊎ ((e : Error) × (r ≡ Err e) × LacksTexts (names_of cs) e)) (Err e) (inr (e, refl, lacks))

-- the answer by a name that is a text, and by one that isn't
pub name_answer : (name text : List ℕ) → name ≡ text → IsUtf8 name → (Answers : List ℕ → Answer → Type 0) (Nothing : Answer → Type 0) (answer : Answer) → Answers text answer → UnderName name (Answers name) Nothing answer
name_answer name text same is Answers Nothing answer answers = record {
  named = λ is_so. subst (λ (t : List ℕ). Answers t answer) (sym same) answers;
  nameless = λ isnt. absurd (isnt is);
}
