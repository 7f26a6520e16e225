-- What a call by a list of edits leaves, by what the library answered.
use Rattle.std.proofs.Common.{◌≡◌, ℕ, Bool, true, List, Option, Some, None, sym, ◌∙◌, subst, inl, inr, arith}
use Rattle.std.specs.Prelude.{Result, Ok, Err, if◌then◌else◌}
use Rattle.std.specs.Global.{Vec}
use Rattle.walrus_edits.specs.Facade.{Form}
use Rattle.walrus_tools.specs.Facade.{Error, Memory, TooLarge}
use Rattle.walrus_tools.specs.WantedValue.{Wanted}
use Rattle.walrus_edits.specs.declared.refusal.Refusal.{Refusal}
use Rattle.walrus_edits.specs.declared.refusal.Refusal.TheVariants.{Input, Edit, Whole}
use Rattle.mulkavesh_c.specs.Answer.{Answer, Puts}
use Rattle.mulkavesh_c.specs.Edits.{GivesEdited, status_of_refusal, status_or, told_of_refusal}
use Rattle.mulkavesh_c.specs.Flags.{collects, is_known_of_edits, wanted}
use Rattle.mulkavesh_c.specs.declared.answer.Made.{Made}
use Rattle.mulkavesh_c.proofs.AnswerLemmas.{IsRefusal, asks, is_refusal}

-- no refusal of edits has the status of an answer, nor that of flags that aren't known
is_refusal_or : (e : Error) (other : ℕ) → IsRefusal other → IsRefusal (status_or e other)
is_refusal_or TooLarge other is = record { not_done = λ h. omega (arith, h); not_short = λ h. omega (arith, h); not_flags = λ h. omega (arith, h) }
is_refusal_or (Memory e) other is = record { not_done = λ h. omega (arith, h); not_short = λ h. omega (arith, h); not_flags = λ h. omega (arith, h) }
is_refusal_or _ other is = is

bad_edit : IsRefusal 7
bad_edit = record { not_done = λ h. omega (arith, h); not_short = λ h. omega (arith, h); not_flags = λ h. omega (arith, h) }

bad_module : IsRefusal 8
bad_module = record { not_done = λ h. omega (arith, h); not_short = λ h. omega (arith, h); not_flags = λ h. omega (arith, h) }

refuses : (r : Refusal) → IsRefusal (status_of_refusal r)
refuses (Input e) = is_refusal e
refuses (Edit applied e) = is_refusal_or e 7 bad_edit
refuses (Whole (Form e)) = is_refusal_or e 8 bad_module
refuses (Whole _) = bad_module

module _ (Answers : Result (Vec ℕ) Refusal → Type 0) (Known : Type 0) (old new : List ℕ) (told status : ℕ) where
  -- a module was made, and put into the room
  gives_bytes : Known → (bytes : Vec ℕ) (number : ℕ) → Answers (Ok bytes) → Puts (Ok bytes) number old new told status → GivesEdited Known Answers old new told status
  gives_bytes is_so bytes number answers (inl (is, fills)) = record {
    flags = (λ five. absurd (omega (arith, is, five)), λ unknown. absurd (unknown is_so));
    unknown = λ five. absurd (omega (arith, is, five));
    done = λ done. (bytes, answers, fills);
    room = λ four. absurd (omega (arith, is, four));
    refused = λ not_done not_short not_flags. absurd (not_done is);
  }
  gives_bytes is_so bytes number answers (inr (is, lacks)) = record {
    flags = (λ five. absurd (omega (arith, is, five)), λ unknown. absurd (unknown is_so));
    unknown = λ five. absurd (omega (arith, is, five));
    done = λ done. absurd (omega (arith, is, done));
    room = λ four. (bytes, answers, lacks);
    refused = λ not_done not_short not_flags. absurd (not_short is);
  }

  gives_edited : Known → (bytes : Vec ℕ) → Answers (Ok bytes) → (made : Made) → (made.answer ≡ Ok bytes) × (made.number ≡ 0) → Puts made.answer made.number old new told status → GivesEdited Known Answers old new told status
  gives_edited is_so bytes answers made same puts =
      gives_bytes is_so bytes made.number answers (subst (λ (answer : Answer). Puts answer made.number old new told status) same.0 puts)

  -- it is refused, and this is why
  refuses_edits : Known → (r : Refusal) → Answers (Err r) → status ≡ status_of_refusal r → new ≡ old → told ≡ told_of_refusal r → GivesEdited Known Answers old new told status
  refuses_edits is_so r answers is stays tells =
      let i = refuses r in
      record {
        flags = (λ five. absurd (i.not_flags (sym is ∙ five)), λ unknown. absurd (unknown is_so));
        unknown = λ five. absurd (i.not_flags (sym is ∙ five));
        done = λ done. absurd (i.not_done (sym is ∙ done));
        room = λ four. absurd (i.not_short (sym is ∙ four));
        refused = λ not_done not_short not_flags. record { refusal = r; answers = answers; is = is; stays = stays; tells = tells };
      }

  -- what isn't known is told so, and nothing is written
  pub unknown_edits : (Known → ⊥) → status ≡ 5 → new ≡ old → told ≡ 0 → GivesEdited Known Answers old new told status
  unknown_edits unknown is stays none_told = record {
    flags = (λ five. unknown, λ h. is);
    unknown = λ five. record { stays = stays; none_told = none_told };
    done = λ done. absurd (omega (arith, is, done));
    room = λ four. absurd (omega (arith, is, four));
    refused = λ not_done not_short not_flags. absurd (not_flags is);
  }

-- ---- by flags

module _ (Answers : Wanted → Bool → Result (Vec ℕ) Refusal → Type 0) (flags : ℕ) (w : Wanted) (gc : Bool)
    (asked : ◌≡◌ {A = Option Wanted} (Some w) (if is_known_of_edits flags then Some (wanted flags) else None)) (collected : gc ≡ collects flags) (old new : List ℕ) (told status : ℕ) where
  -- what was answered to what was asked for is what these flags ask for
  as_asked : (r : Result (Vec ℕ) Refusal) → Answers w gc r → Answers (wanted flags) (collects flags) r
  as_asked r answers =
      subst (λ (v : Wanted). Answers v (collects flags) r) (asks (is_known_of_edits flags) (wanted flags) w asked).1 (subst (λ (b : Bool). Answers w b r) collected answers)

  pub gives_asked : (bytes : Vec ℕ) → Answers w gc (Ok bytes) → (made : Made) → (made.answer ≡ Ok bytes) × (made.number ≡ 0) → Puts made.answer made.number old new told status
      → GivesEdited (is_known_of_edits flags ≡ true) (Answers (wanted flags) (collects flags)) old new told status
  gives_asked bytes answers made same puts =
      gives_edited (Answers (wanted flags) (collects flags)) (is_known_of_edits flags ≡ true) old new told status (asks (is_known_of_edits flags) (wanted flags) w asked).0 bytes (as_asked (Ok bytes) answers) made same puts

  pub refuses_asked : (r : Refusal) → Answers w gc (Err r) → status ≡ status_of_refusal r → new ≡ old → told ≡ told_of_refusal r
      → GivesEdited (is_known_of_edits flags ≡ true) (Answers (wanted flags) (collects flags)) old new told status
  refuses_asked r answers is stays tells =
      refuses_edits (Answers (wanted flags) (collects flags)) (is_known_of_edits flags ≡ true) old new told status (asks (is_known_of_edits flags) (wanted flags) w asked).0 r (as_asked (Err r) answers) is stays tells
