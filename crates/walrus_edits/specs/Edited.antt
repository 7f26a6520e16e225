-- What a list of edits makes of a module, from bytes to bytes.
use Rattle.std.specs.Prelude.{ℕ, Bool, false, List, map, Some, Result, Ok, Err, ◌≡◌, ⊤}
use Rattle.std.specs.Global.{Vec}
use Rattle.walrus.specs.Base.Arena.{items}
use Rattle.walrus.specs.Items.Error.{Error}
use Rattle.walrus.specs.Items.Error.TheVariants.{InvalidWasm, Memory}
use Rattle.walrus.specs.Model.Abstract.{Abstract}
use Rattle.walrus.specs.Model.Config.{Config}
use Rattle.walrus.specs.Model.Sections.{custom_of}
use Rattle.walrus.specs.Contents.View.{contents_view}
use Rattle.walrus.specs.Theorem.Features.{features_of}
use Rattle.walrus.specs.Theorem.Headline.{Accepts}
use Rattle.walrus.specs.Modules.Parsed.{IsParsed, TakenFrom}
use Rattle.walrus_edit_list.specs.Flaw.{Flaw}
use Rattle.walrus.specs.Edits.{with_customs}
use Rattle.walrus_edit_list.specs.Applies.{AppliesEach, RefusesNext}
use Rattle.walrus_edit_list.specs.Held.{Held}
use Rattle.walrus_edits.specs.Ending.{IsEnded, RefusesEnd}
use Rattle.walrus_edits.specs.declared.refusal.Refusal.{Refusal}
use Rattle.walrus_edits.specs.declared.refusal.Refusal.TheVariants.{Input, Edit, Whole}

-- what is held, as a module
abbrev pub seen_whole : Held → Abstract
seen_whole h = with_customs (map custom_of (items h.customs)) h.contents

-- this was parsed of the bytes, each item at the place of its index and no custom section gone; and no body was read since
pub record IsRead (c : Config) (bytes : List ℕ) (read : Held) : Type 0 where
  pub parsed : IsParsed c bytes (seen_whole read)
  pub taken : TakenFrom (features_of c) bytes read.contents
  pub in_place : read.customs ≡ map Some (items read.customs)
  pub fresh : read.has_read ≡ false

-- the bytes were parsed, and these edits, so many, were made of that, each in its turn
pub record MakesOf (c : Config) (bytes edits : List ℕ) (n : ℕ) (made : Held) : Type 0 where
  pub read : Held
  pub is_read : IsRead c bytes read
  pub each : AppliesEach (features_of c) edits n read made

-- what they made is well made, and what is left of it is written
pub record IsEditedBy (c : Config) (collects : Bool) (bytes edits output : List ℕ) : Type 0 where
  pub count : ℕ
  pub made : Held
  pub makes : MakesOf c bytes edits count made
  pub ended : IsEnded collects c (seen_whole made) output

-- so many edits apply to what was parsed, and the next one doesn't
pub record RefusesOne (c : Config) (bytes edits : List ℕ) (n : ℕ) (e : Error) : Type 0 where
  pub read : Held
  pub is_read : IsRead c bytes read
  pub next : RefusesNext (features_of c) edits n read e

-- all edits apply to what was parsed, and what they made isn't written
pub record RefusesWhole (c : Config) (collects : Bool) (bytes edits : List ℕ) (f : Flaw) : Type 0 where
  pub count : ℕ
  pub made : Held
  pub makes : MakesOf c bytes edits count made
  pub refuses : RefusesEnd collects c (contents_view made.contents) (seen_whole made) f

-- the edited module, or a refusal with its cause
abbrev pub AnswersEdit : Config → (collects : Bool) → (bytes edits : List ℕ) → Result (Vec ℕ) Refusal → Type 0
AnswersEdit c collects bytes edits (Ok output) = IsEditedBy c collects bytes edits output.items
AnswersEdit c collects bytes edits (Err (Input (Memory e))) = ⊤
AnswersEdit c collects bytes edits (Err (Input (InvalidWasm kind))) = Accepts c bytes → ⊥
AnswersEdit c collects bytes edits (Err (Input _)) = ⊥
AnswersEdit c collects bytes edits (Err (Edit n e)) = RefusesOne c bytes edits n e
AnswersEdit c collects bytes edits (Err (Whole f)) = RefusesWhole c collects bytes edits f
