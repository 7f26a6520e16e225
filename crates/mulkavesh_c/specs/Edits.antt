-- What a list of edits comes to: a call's status, the caller's room, and the length that is told.
use Rattle.std.specs.Prelude.{ℕ, List, Result, Ok, Err, ◌≡◌, ◌≢◌, ◌↔◌}
use Rattle.std.specs.Global.{Vec}
use Rattle.walrus_tools.specs.Facade.{Error, Memory, TooLarge}
use Rattle.walrus_edits.specs.Facade.{Flaw, Form, flaw_number}
use Rattle.walrus_edits.specs.declared.refusal.Refusal.{Refusal}
use Rattle.walrus_edits.specs.declared.refusal.Refusal.TheVariants.{Input, Edit, Whole}
use Rattle.mulkavesh_c.specs.Answer.{Fills, Lacks, Leaves, status_of}

-- the status of what is refused behind the input: 2 for what is too large, 3 for want of memory, else this one
abbrev pub status_or : Error → (other : ℕ) → ℕ
status_or TooLarge other = 2
status_or (Memory e) other = 3
status_or _ other = other

-- what is told of an edit that is refused: nothing with 2 and 3, else how many edits before it were made
abbrev pub told_of_edit : (applied : ℕ) → Error → ℕ
told_of_edit applied TooLarge = 0
told_of_edit applied (Memory e) = 0
told_of_edit applied _ = applied

-- the status where this is wrong with what all edits left: 2, 3, else 8
abbrev pub status_of_flaw : Flaw → ℕ
status_of_flaw (Form e) = status_or e 8
status_of_flaw _ = 8

-- the status of a refusal: an edit's is 2, 3, else 7
abbrev pub status_of_refusal : Refusal → ℕ
status_of_refusal (Input e) = status_of e
status_of_refusal (Edit applied e) = status_or e 7
status_of_refusal (Whole f) = status_of_flaw f

-- what is told of it: of an edit how many were made before it, of the whole the number of the cause
abbrev pub told_of_refusal : Refusal → ℕ
told_of_refusal (Input e) = 0
told_of_refusal (Edit applied e) = told_of_edit applied e
told_of_refusal (Whole f) = flaw_number f

-- nothing was written for this cause, which tells what it has to
pub record RefusesEdits (Answers : Result (Vec ℕ) Refusal → Type 0) (old new : List ℕ) (told status : ℕ) : Type 0 where
  pub refusal : Refusal
  pub answers : Answers (Err refusal)
  pub is : status ≡ status_of_refusal refusal
  pub stays : new ≡ old
  pub tells : told ≡ told_of_refusal refusal

-- What a call comes to that makes a module by a list of edits, as `Answers` says: as `Gives`, but for refusals.
pub record GivesEdited (Known : Type 0) (Answers : Result (Vec ℕ) Refusal → Type 0) (old new : List ℕ) (told status : ℕ) : Type 0 where
  pub flags : (status ≡ 5) ↔ (Known → ⊥)
  pub unknown : status ≡ 5 → Leaves old new told
  pub done : status ≡ 0 → (bytes : Vec ℕ) × Answers (Ok bytes) × Fills bytes.items old new told
  pub room : status ≡ 4 → (bytes : Vec ℕ) × Answers (Ok bytes) × Lacks bytes.items old new told
  pub refused : status ≢ 0 → status ≢ 4 → status ≢ 5 → RefusesEdits Answers old new told status
