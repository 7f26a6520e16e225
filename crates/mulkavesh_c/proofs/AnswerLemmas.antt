-- What a call leaves, by what the library answered.
use Rattle.std.proofs.Common.{◌≡◌, ◌≢◌, ℕ, Bool, true, false, List, Option, Some, None, refl, sym, ◌∙◌, subst, inl, inr, arith}
use Rattle.std.specs.Prelude.{Ok, Err, if◌then◌else◌}
use Rattle.std.proofs.lemmas.Option.{none-some}
use Rattle.walrus_tools.specs.Facade.{Error, InvalidWasm, Memory, NotFound, TooLarge}
use Rattle.walrus_tools.specs.WantedValue.{Wanted}
use Rattle.mulkavesh_c.specs.Flags.{is_known, wanted}
use Rattle.mulkavesh_c.specs.Answer.{Answer, Gives, NoNumber, Puts, Tells, status_of, told_of}
use Rattle.mulkavesh_c.specs.declared.answer.Made.{Made}

-- no refusal has the status of an answer, nor that of flags that aren't known
pub record IsRefusal (status : ℕ) : Type 0 where
  pub not_done : status ≢ 0
  pub not_short : status ≢ 4
  pub not_flags : status ≢ 5

pub is_refusal : (e : Error) → IsRefusal (status_of e)
is_refusal (InvalidWasm kind) = record { not_done = λ h. omega (arith, h); not_short = λ h. omega (arith, h); not_flags = λ h. omega (arith, h) }
is_refusal TooLarge = record { not_done = λ h. omega (arith, h); not_short = λ h. omega (arith, h); not_flags = λ h. omega (arith, h) }
is_refusal (Memory e) = record { not_done = λ h. omega (arith, h); not_short = λ h. omega (arith, h); not_flags = λ h. omega (arith, h) }
is_refusal _ = record { not_done = λ h. omega (arith, h); not_short = λ h. omega (arith, h); not_flags = λ h. omega (arith, h) }

-- what put tells is the number of what isn't found, and else nothing
tells : (Number : ℕ → Type 0) (number told : ℕ) → (e : Error) → (◌≡◌ {A = Answer} (Err e) (Err NotFound) → Number number) → told ≡ told_of e number → Tells Number e told
tells Number number told NotFound numbered is = subst Number (sym is) (numbered refl)
tells Number number told _ numbered is = is

module _ (Answers : Answer → Type 0) (Known : Type 0) (Number : ℕ → Type 0) (old new : List ℕ) (told status : ℕ) where
  pub gives : Known → (answer : Answer) (number : ℕ) → Answers answer → (answer ≡ Err NotFound → Number number) → Puts answer number old new told status → Gives Known Answers Number old new told status
  gives is_so (Ok bytes) number answers numbered (inl (is, fills)) = record {
    flags = (λ five. absurd (omega (arith, is, five)), λ unknown. absurd (unknown is_so));
    unknown = λ five. absurd (omega (arith, is, five));
    done = λ done. (bytes, answers, fills);
    room = λ four. absurd (omega (arith, is, four));
    refused = λ not_done not_short not_flags. absurd (not_done is);
  }
  gives is_so (Ok bytes) number answers numbered (inr (is, lacks)) = record {
    flags = (λ five. absurd (omega (arith, is, five)), λ unknown. absurd (unknown is_so));
    unknown = λ five. absurd (omega (arith, is, five));
    done = λ done. absurd (omega (arith, is, done));
    room = λ four. (bytes, answers, lacks);
    refused = λ not_done not_short not_flags. absurd (not_short is);
  }
  gives is_so (Err e) number answers numbered (is, left) =
      let r = is_refusal e in
      record {
        flags = (λ five. absurd (r.not_flags (sym is ∙ five)), λ unknown. absurd (unknown is_so));
        unknown = λ five. absurd (r.not_flags (sym is ∙ five));
        done = λ done. absurd (r.not_done (sym is ∙ done));
        room = λ four. absurd (r.not_short (sym is ∙ four));
        refused = λ not_done not_short not_flags. record { error = e; answers = answers; is = is; stays = left.0; tells = tells Number number told e numbered left.1 };
      }

  -- what isn't known is told so, and nothing is written
  pub gives_unknown : (Known → ⊥) → status ≡ 5 → new ≡ old → told ≡ 0 → Gives Known Answers Number old new told status
  gives_unknown unknown is stays none_told = record {
    flags = (λ five. unknown, λ h. is);
    unknown = λ five. record { stays = stays; none_told = none_told };
    done = λ done. absurd (omega (arith, is, done));
    room = λ four. absurd (omega (arith, is, four));
    refused = λ not_done not_short not_flags. absurd (not_flags is);
  }

-- an answer for which no number is told
pub gives_plain : (Answers : Answer → Type 0) (Known : Type 0) (old new : List ℕ) (told status : ℕ) → Known → (answer : Answer) (made : Made) → (made.answer ≡ answer) × (made.number ≡ 0) → Answers answer
    → Puts made.answer made.number old new told status → Gives Known Answers NoNumber old new told status
gives_plain Answers Known old new told status is_so answer made is answers puts =
    gives Answers Known NoNumber old new told status is_so made.answer made.number (subst Answers (sym is.0) answers) (λ missing. is.1) puts

-- ---- by flags

-- flags that ask for something are known, and that is what they ask for
pub asks : (known : Bool) (v w : Wanted) → ◌≡◌ {A = Option Wanted} (Some w) (if known then Some v else None) → (known ≡ true) × (w ≡ v)
asks true v w h = (refl, let is : ◌≡◌ {A = Option Wanted} (Some w) (Some v) = h in cc)
asks false v w h = absurd (none-some w (sym h))

-- flags that ask for nothing aren't known
pub asks_none : (known : Bool) (v : Wanted) → ◌≡◌ {A = Option Wanted} None (if known then Some v else None) → known ≡ true → ⊥
asks_none true v h is = none-some v h
asks_none false v h is = let wrong : false ≡ true = is in absurd cc

pub gives_wanted : (Answers : Wanted → Answer → Type 0) (flags : ℕ) (More : Type 0) (w : Wanted) → ◌≡◌ {A = Option Wanted} (Some w) (if is_known flags then Some (wanted flags) else None) → More → (answer : Answer) (made : Made)
    → (made.answer ≡ answer) × (made.number ≡ 0) → (old new : List ℕ) (told status : ℕ) → Answers w answer → Puts made.answer made.number old new told status
    → Gives ((is_known flags ≡ true) × More) (Answers (wanted flags)) NoNumber old new told status
gives_wanted Answers flags More w is more answer made same old new told status answers puts =
    let known = asks (is_known flags) (wanted flags) w is in
    gives_plain (Answers (wanted flags)) ((is_known flags ≡ true) × More) old new told status (known.0, more) answer made same (subst (λ (v : Wanted). Answers v answer) known.1 answers) puts

-- the same of flags alone
pub gives_flagged : (Answers : Wanted → Answer → Type 0) (flags : ℕ) (w : Wanted) → ◌≡◌ {A = Option Wanted} (Some w) (if is_known flags then Some (wanted flags) else None) → (answer : Answer) (made : Made)
    → (made.answer ≡ answer) × (made.number ≡ 0) → (old new : List ℕ) (told status : ℕ) → Answers w answer → Puts made.answer made.number old new told status
    → Gives (is_known flags ≡ true) (Answers (wanted flags)) NoNumber old new told status
gives_flagged Answers flags w is answer made same old new told status answers puts =
    let known = asks (is_known flags) (wanted flags) w is in
    gives_plain (Answers (wanted flags)) (is_known flags ≡ true) old new told status known.0 answer made same (subst (λ (v : Wanted). Answers v answer) known.1 answers) puts
