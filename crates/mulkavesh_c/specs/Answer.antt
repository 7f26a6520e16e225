-- What a call from C leaves behind: its status, the caller's room, and the length that is told.
use Rattle.std.specs.Prelude.{ℕ, ◌<◌, ◌≤◌, List, ◌++◌, drop, length, Result, Ok, Err, ◌≡◌, ◌≢◌, ◌↔◌, ◌⊎◌}
use Rattle.std.specs.Global.{Vec}
use Rattle.walrus_tools.specs.Facade.{Error, InvalidWasm, Memory, NotFound, TooLarge}

-- what a call of the library answers: bytes, or why not
abbrev pub Answer : Type 0
Answer = Result (Vec ℕ) Error

-- the answer stands in front of the room, all behind it has stayed, and its length is told
pub record Fills (answer : List ℕ) (old new : List ℕ) (told : ℕ) : Type 0 where
  pub fits : length answer ≤ length old
  pub stands : new ≡ answer ++ drop (length answer) old
  pub length_told : told ≡ length answer

-- the room is smaller than the answer, and has stayed; the answer's length is told
pub record Lacks (answer : List ℕ) (old new : List ℕ) (told : ℕ) : Type 0 where
  pub small : length old < length answer
  pub stays : new ≡ old
  pub length_told : told ≡ length answer

-- the room has stayed, and no length is told
pub record Leaves (old new : List ℕ) (told : ℕ) : Type 0 where
  pub stays : new ≡ old
  pub none_told : told ≡ 0

-- the status of a refusal: 1 for bytes that are no module, 2 for what is too large, 3 for want of memory, 6 where there is nothing to work on
abbrev pub status_of : Error → ℕ
status_of (InvalidWasm kind) = 1
status_of TooLarge = 2
status_of (Memory e) = 3
status_of _ = 6

-- what is told as the length of a refusal: where something isn't found this number, and else none
abbrev pub told_of : Error → (number : ℕ) → ℕ
told_of NotFound number = number
told_of _ number = 0

-- what is told so: where something isn't found a number of which this holds, and else none
abbrev pub Tells : (Number : ℕ → Type 0) → Error → (told : ℕ) → Type 0
Tells Number NotFound told = Number told
Tells Number _ told = told ≡ 0

-- no number
abbrev pub NoNumber : ℕ → Type 0
NoNumber told = told ≡ 0

-- what comes of an answer: 0 or 4 for bytes, as the room is, and the status of a refusal, which tells the number where something isn't found
abbrev pub Puts : Answer → (number : ℕ) → (old new : List ℕ) → (told status : ℕ) → Type 0
Puts (Ok bytes) number old new told status = ((status ≡ 0) × Fills bytes.items old new told) ⊎ ((status ≡ 4) × Lacks bytes.items old new told)
Puts (Err e) number old new told status = (status ≡ status_of e) × ((new ≡ old) × (told ≡ told_of e number))

-- nothing was written for this cause, which tells what it has to
pub record Refuses (Answers : Answer → Type 0) (Number : ℕ → Type 0) (old new : List ℕ) (told status : ℕ) : Type 0 where
  pub error : Error
  pub answers : Answers (Err error)
  pub is : status ≡ status_of error
  pub stays : new ≡ old
  pub tells : Tells Number error told

-- What a call comes to that answers as `Answers` says where `Known` holds, that its flags and its lists are such: 5 exactly where it doesn't;
-- else 0, and an answer fills the front of the room; 4, which is too small for an answer; or a refusal. Where something isn't found, `Number` holds of
-- the length that is told.
pub record Gives (Known : Type 0) (Answers : Answer → Type 0) (Number : ℕ → Type 0) (old new : List ℕ) (told status : ℕ) : Type 0 where
  pub flags : (status ≡ 5) ↔ (Known → ⊥)
  pub unknown : status ≡ 5 → Leaves old new told
  pub done : status ≡ 0 → (bytes : Vec ℕ) × Answers (Ok bytes) × Fills bytes.items old new told
  pub room : status ≡ 4 → (bytes : Vec ℕ) × Answers (Ok bytes) × Lacks bytes.items old new told
  pub refused : status ≢ 0 → status ≢ 4 → status ≢ 5 → Refuses Answers Number old new told status
