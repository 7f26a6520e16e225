-- Why what a text means stays, and what refers to it: from bytes to values, and from bytes to bytes.
use Rattle.std.specs.Prelude.{ℕ, List, Option, Some, None, Result, map, option_map, ◌≡◌, ◌⊎◌}
use Rattle.std.specs.Global.{Vec}
use Rattle.walrus.specs.Base.Operators.{Item, function_item}
use Rattle.walrus.specs.Code.Transform.{Transform}
use Rattle.walrus.specs.Model.Abstract.{Abstract}
use Rattle.walrus.specs.Model.Config.{Config}
use Rattle.walrus.specs.Model.Reached.{Reached}
use Rattle.walrus.specs.Model.Transform.{IsLocalFunction}
use Rattle.walrus.specs.Items.Error.{Error}
use Rattle.walrus.specs.Contents.Contents.{Contents}
use Rattle.walrus.specs.Why.{Explains}
use Rattle.walrus_tools.specs.Alone.{IsAlone}
use Rattle.walrus_tools.specs.Callers.{AreCallers}
use Rattle.walrus_sections.specs.Choice.{Choice}
use Rattle.walrus_tools.specs.ChosenModule.{KeepsChosen, RefusesChosen}
use Rattle.walrus.specs.Edits.{EditsTo, RefusesEdit, with_customs}
use Rattle.walrus.specs.Ends.{Answers, IfNotFound, LeavesLarge}
use Rattle.walrus_tools.specs.ItemMeaning.{MeansIn}
use Rattle.walrus_tools.specs.Links.{LinkTold, TellsRoot, link_of, links_seen}
use Rattle.walrus_tools.specs.Measures.{IsMeasured}
use Rattle.walrus_tools.specs.ReasonBytes.{IsLongLink, IsLongReason, ReasonTold, link_bytes, reason_bytes, reason_seen}
use Rattle.walrus_tools.specs.Spelled.{AreLong, AreSpelled}
use Rattle.walrus_tools.specs.declared.goers.Alone.{Alone}
use Rattle.walrus_tools.specs.declared.links.Link.{Link}
use Rattle.walrus_tools.specs.declared.reasons.Reason.{Reason}

-- ---- what a function alone keeps

-- the item is this function, which has a body and is reached
pub record IsReachedBody (v : Abstract) (x : Item) (f : ℕ) : Type 0 where
  pub is : x ≡ function_item f
  pub local : IsLocalFunction v f
  pub reached : Reached v x

-- of a function with a body that is reached it is told what goes with it, and of no other item
abbrev pub TellsAlone : Abstract → Transform → Item → Option Alone → Type 0
TellsAlone v transform x None = (f : ℕ) → IsReachedBody v x f → ⊥
TellsAlone v transform x (Some alone) = (f : ℕ) × IsReachedBody v x f × IsAlone v f transform.function_ranges alone

-- ---- values

module _ (c : Config) (bytes : List ℕ) (choices : List Choice) (text : List ℕ) where
  -- Of the module of chosen exports this was left and written so, whose places the transform tells; and in that module the text means this item.
  pub record IsAsked (x : Item) : Type 0 where
    pub module_left : Abstract
    pub transform : Transform
    pub measured : IsMeasured (KeepsChosen choices) c bytes module_left transform
    pub means : MeansIn measured.comes.module_edited text x

  -- the module of chosen exports
  abbrev pub asked_view : {x : Item} → IsAsked x → Abstract
  asked_view asked = with_customs asked.measured.comes.customs asked.measured.comes.module_edited

  -- A chain leads to the item in the module of chosen exports, or none does. Told are its links, with names and sizes of what is left; what makes the
  -- first one a root; and what the item alone keeps.
  pub record IsReasoned (r : ReasonTold) : Type 0 where
    pub asked : IsAsked r.item
    pub chain : Option (List Item)
    pub explains : Explains (asked_view asked) r.item chain
    pub links : r.links ≡ option_map (map (link_of asked.module_left asked.transform.function_ranges)) chain
    pub root : TellsRoot (asked_view asked) chain r.root
    pub alone : TellsAlone (asked_view asked) asked.transform r.item r.alone

  -- the items that gc left and that refer to the one that is meant, with names and sizes of what is left
  pub record AreAsked (links : List LinkTold) : Type 0 where
    pub item : Item
    pub asked : IsAsked item
    pub callers : List Item
    pub refer : AreCallers asked.measured.comes.left.module_collected item callers
    pub are : links ≡ map (link_of asked.module_left asked.transform.function_ranges) callers

-- ---- from bytes

-- the text means nothing of the edited module
abbrev pub MeansNothing : (text : List ℕ) → Contents → Type 0
MeansNothing text m = (x : Item) → MeansIn m text x → ⊥

-- a choice fits no export, or of the module of its chosen exports the text means nothing
abbrev pub RefusesText : List Choice → (text : List ℕ) → Contents → Error → Type 0
RefusesText choices text m e = RefusesChosen choices m e ⊎ ((edited : Contents) × KeepsChosen choices m edited × IfNotFound (MeansNothing text edited) e)

-- What is told is as Told says. Or there is a refusal with its cause: the bytes aren't accepted, a choice fits no export, the text means nothing, or what is
-- kept is too large, or what is told.
abbrev pub AnswersText : {X : Type 0} → Config → (bytes : List ℕ) → List Choice → (text : List ℕ) → (Told : X → Type 0) → (Large : Type 0) → Result X Error → Type 0
AnswersText c bytes choices text Told Large result = Answers c bytes Told (LeavesLarge (EditsTo (KeepsChosen choices) c bytes) c ⊎ Large) (RefusesEdit (RefusesText choices text) c bytes) result

-- why the item stays that is meant
abbrev pub AnswersWhy : Config → (bytes : List ℕ) → List Choice → (text : List ℕ) → Result Reason Error → Type 0
AnswersWhy c bytes choices text result = AnswersText c bytes choices text (λ (r : Reason). IsReasoned c bytes choices text (reason_seen r)) ⊥ result

-- what refers to the item that is meant
abbrev pub AnswersCallers : Config → (bytes : List ℕ) → List Choice → (text : List ℕ) → Result (Vec Link) Error → Type 0
AnswersCallers c bytes choices text result = AnswersText c bytes choices text (λ (ls : Vec Link). AreAsked c bytes choices text (links_seen ls)) ⊥ result

-- ---- from bytes to bytes

-- the bytes are those of such a reason, and nothing in it is too long for them
pub record IsSpelled (c : Config) (bytes : List ℕ) (choices : List Choice) (text output : List ℕ) : Type 0 where
  pub reason : ReasonTold
  pub told : IsReasoned c bytes choices text reason
  pub is : output ≡ reason_bytes reason
  pub fits : IsLongReason reason → ⊥

-- such a reason has a number or a name too long for its bytes
abbrev pub IsTooLong : Config → (bytes : List ℕ) → List Choice → (text : List ℕ) → Type 0
IsTooLong c bytes choices text = (reason : ReasonTold) × IsReasoned c bytes choices text reason × IsLongReason reason

-- why the item stays, as bytes
abbrev pub AnswersReasonList : Config → (bytes : List ℕ) → List Choice → (text : List ℕ) → Result (Vec ℕ) Error → Type 0
AnswersReasonList c bytes choices text result = AnswersText c bytes choices text (λ (output : Vec ℕ). IsSpelled c bytes choices text output.items) (IsTooLong c bytes choices text) result

-- what refers to it, as bytes
abbrev pub AnswersCallerList : Config → (bytes : List ℕ) → List Choice → (text : List ℕ) → Result (Vec ℕ) Error → Type 0
AnswersCallerList c bytes choices text result =
    AnswersText c bytes choices text (λ (output : Vec ℕ). AreSpelled IsLongLink (AreAsked c bytes choices text) link_bytes output.items) (AreLong IsLongLink (AreAsked c bytes choices text)) result
