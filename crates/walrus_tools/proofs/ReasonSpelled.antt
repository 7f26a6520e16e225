-- Why an item stays, and what refers to it, as bytes: from bytes to bytes.
use Rattle.std.proofs.Common.{◌≡◌, ℕ, ◌+◌, ◌<◌, List, ◌++◌, ap, get_or, length, map, refl, subst, take, ◌∙◌, inl, inr}
use Rattle.std.specs.Global.{Vec}
use Rattle.std.proofs.lemmas.List.{append_assoc}
use Rattle.std.specs.Prelude.{◌⊎◌, Err, IfErr, IfOk, Ok, OnOk, Result, flat_map}
use Rattle.walrus.specs.Model.Config.{Config}
use Rattle.walrus.specs.Items.Error.{Error}
use Rattle.walrus.specs.Items.Error.TheVariants as error
use Rattle.walrus_sections.specs.Choice.{Choice}
use Rattle.walrus_tools.specs.ChosenModule.{KeepsChosen}
use Rattle.walrus.specs.Edits.{EditsTo, RefusesEdit}
use Rattle.walrus.specs.Ends.{LeavesLarge}
use Rattle.walrus_tools.specs.Links.{LinkTold, link_seen}
use Rattle.walrus_sections.specs.Numbers.{RefusesIf}
use Rattle.walrus_tools.specs.ReasonAnswers.{AnswersCallerList, AnswersCallers, AnswersReasonList, AnswersWhy, AreAsked, IsReasoned, RefusesText}
use Rattle.walrus_tools.specs.ReasonBytes.{IsLongLink, IsLongReason, ReasonTold, link_bytes, reason_bytes}
use Rattle.walrus_tools.specs.Spelled.{AreLong, HasLong, NoneLong}
use Rattle.walrus_tools.specs.declared.links.Link.{Link}
use Rattle.walrus_tools.proofs.Spellings.{bytes_more, spelled_told}

module _ (c : Config) (bytes : List ℕ) (choices : List Choice) (text : List ℕ) where
  -- a refusal before the bytes are made
  pub reason_refused : (e : Error) → AnswersWhy c bytes choices text (Err e) → AnswersReasonList c bytes choices text (Err e)
  reason_refused (error.Memory m) h = tt
  reason_refused (error.InvalidWasm k) h = h
  reason_refused error.TooLarge (inl large) = inl large
  reason_refused error.TooLarge (inr never) = absurd never
  reason_refused _ h = h

  pub callers_refused : (e : Error) → AnswersCallers c bytes choices text (Err e) → AnswersCallerList c bytes choices text (Err e)
  callers_refused (error.Memory m) h = tt
  callers_refused (error.InvalidWasm k) h = h
  callers_refused error.TooLarge (inl large) = inl large
  callers_refused error.TooLarge (inr never) = absurd never
  callers_refused _ h = h

  module _ (r : ReasonTold) (told : IsReasoned c bytes choices text r) where
    too_long : (e : Error) → RefusesIf (IsLongReason r) e → AnswersReasonList c bytes choices text (Err e)
    too_long (error.Memory m) h = tt
    too_long error.TooLarge h = inr (r, told, h)
    too_long _ h = absurd h

    -- the bytes of what is told, or why there can be none
    pub reason_spelled : (result : Result (Vec ℕ) Error) → IfOk result (λ (list : Vec ℕ). list.items ≡ reason_bytes r) → OnOk result (IsLongReason r → ⊥) → IfErr result (RefusesIf (IsLongReason r))
        → AnswersReasonList c bytes choices text result
    reason_spelled (Ok list) value fits refused = record { reason = r; told = told; is = value; fits = fits }
    reason_spelled (Err e) value fits refused = too_long e refused

  pub callers_spelled : (links : List LinkTold) → AreAsked c bytes choices text links → (result : Result (Vec ℕ) Error) → IfOk result (λ (list : Vec ℕ). list.items ≡ flat_map link_bytes links)
      → OnOk result (NoneLong IsLongLink links) → IfErr result (RefusesIf (HasLong IsLongLink links)) → AnswersCallerList c bytes choices text result
  callers_spelled links asked result value fits refused =
      spelled_told IsLongLink (AreAsked c bytes choices text) link_bytes c bytes (LeavesLarge (EditsTo (KeepsChosen choices) c bytes) c ⊎ AreLong IsLongLink (AreAsked c bytes choices text)) (λ h. inr h)
      (λ (x : Error). RefusesEdit (RefusesText choices text) c bytes x) links asked result value fits refused

-- behind what was there and the bytes of those before stand those of the next
pub bytes_behind : {X Y : Type 0} (seen : X → Y) (spell : Y → List ℕ) (IsLong : Y → Type 0) (all : List X) (i : ℕ) (x : X) → i < length all → x ≡ get_or all i x → (front before after : List ℕ)
    → before ≡ front ++ flat_map spell (map seen (take i all)) → after ≡ before ++ spell (seen x) → after ≡ front ++ flat_map spell (map seen (take (i + 1) all))
bytes_behind seen spell IsLong all i x lt is front before after were next =
    let own : List ℕ = flat_map spell (map seen (take i all)) in
    next ∙ ap (λ (t : List ℕ). t ++ spell (seen x)) were ∙ append_assoc front own (spell (seen x))
    ∙ ap (λ (t : List ℕ). front ++ t) (bytes_more seen spell IsLong all i x lt is own (own ++ spell (seen x)) refl refl)

-- the links of a chain, as they were lent
module _ (told old : List Link) (same : told ≡ old) where
  pub chain_fits : {X : Type 0} (result : Result X Error) → OnOk result (NoneLong IsLongLink (map link_seen told)) → OnOk result (HasLong IsLongLink (map link_seen old) → ⊥)
  chain_fits (Ok x) none = λ h. subst (λ (ls : List Link). NoneLong IsLongLink (map link_seen ls)) same none h.0 h.1 h.2
  chain_fits (Err e) none = tt

  pub chain_refused : {X : Type 0} (result : Result X Error) → IfErr result (RefusesIf (HasLong IsLongLink (map link_seen told))) → IfErr result (RefusesIf (HasLong IsLongLink (map link_seen old)))
  chain_refused result refused = subst (λ (ls : List Link). IfErr result (RefusesIf (HasLong IsLongLink (map link_seen ls)))) same refused
