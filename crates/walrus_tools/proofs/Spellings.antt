-- Lists of what is told, as bytes: what is so of each is so of all, and what is refused of one is refused of all.
use Rattle.std.proofs.Common.{◌≡◌, ℕ, ◌+◌, ◌<◌, List, ◌++◌, flat_map, length, map, get_or, take, sym, ap, ◌∙◌, subst}
use Rattle.std.specs.Prelude.{Contains, IfErr, IfOk, OnOk, Result, Ok, Err}
use Rattle.std.specs.Global.{Vec}
use Rattle.walrus.specs.Model.Config.{Config}
use Rattle.walrus.specs.Items.Error.{Error}
use Rattle.walrus.specs.Items.Error.TheVariants as error
use Rattle.walrus.proofs.Contents.NamedLemmas.{among, row_more}
use Rattle.walrus_sections.specs.Numbers.{RefusesIf}
use Rattle.walrus.specs.Ends.{Answers}
use Rattle.walrus_tools.specs.Spelled.{AreLong, AreSpelled, HasLong, NoneLong}
use Rattle.walrus_sections.proofs.Among.{because}
use Rattle.walrus_tools.proofs.LineLemmas.{lines_more}

-- ---- one by one

module _ {X Y : Type 0} (seen : X → Y) (spell : Y → List ℕ) (IsLong : Y → Type 0) (all : List X) (i : ℕ) (x : X) (lt : i < length all) (is : x ≡ get_or all i x) where
  seen_is : seen x ≡ seen (get_or all i x)
  seen_is = ap seen is

  -- behind the bytes of those before stand those of the next
  pub bytes_more : (before after : List ℕ) → before ≡ flat_map spell (map seen (take i all)) → after ≡ before ++ spell (seen x) → after ≡ flat_map spell (map seen (take (i + 1) all))
  bytes_more before after were next = lines_more spell seen all i x lt before after were (next ∙ ap (λ (y : Y). before ++ spell y) seen_is)

  -- the one that is too long is one of all
  pub one_long : (e : Error) → RefusesIf (IsLong (seen x)) e → RefusesIf (HasLong IsLong (map seen all)) e
  one_long e h =
      because (IsLong (seen x)) (HasLong IsLong (map seen all)) (λ long. (seen x, subst (λ (y : Y). Contains (map seen all) y) (sym seen_is) (among seen all i x lt), long)) e h

  -- none of those before is too long, and neither is the next
  pub none_more : NoneLong IsLong (map seen (take i all)) → (IsLong (seen x) → ⊥) → NoneLong IsLong (map seen (take (i + 1) all))
  none_more before next = row_more seen (λ (y : Y). IsLong y → ⊥) all i x lt before (subst (λ (y : Y). IsLong y → ⊥) seen_is next)

-- ---- from bytes to bytes

module _ {T : Type 0} (IsLong : T → Type 0) (Is : List T → Type 0) (spell : T → List ℕ) (c : Config) (bytes : List ℕ) (Large : Type 0) (passes : AreLong IsLong Is → Large) (Refuses : Error → Type 0)
    (told : List T) (listed : Is told) where
  long_refused : (e : Error) → RefusesIf (HasLong IsLong told) e → Answers {X = Vec ℕ} c bytes (λ (list : Vec ℕ). AreSpelled IsLong Is spell list.items) Large Refuses (Err e)
  long_refused (error.Memory m) h = tt
  long_refused error.TooLarge h = passes (record { told = told; listed = listed; long = h })
  long_refused _ h = absurd h

  -- the bytes of what is told, or why there can be none
  pub spelled_told : (result : Result (Vec ℕ) Error) → IfOk result (λ (list : Vec ℕ). list.items ≡ flat_map spell told) → OnOk result (NoneLong IsLong told) → IfErr result (RefusesIf (HasLong IsLong told))
      → Answers c bytes (λ (list : Vec ℕ). AreSpelled IsLong Is spell list.items) Large Refuses result
  spelled_told (Ok list) value fits refused = record { told = told; listed = listed; is = value; fits = fits }
  spelled_told (Err e) value fits refused = long_refused e refused

-- a refusal before the bytes are made
module _ (X Y : Type 0) (c : Config) (bytes : List ℕ) (Done : X → Type 0) (Other : Y → Type 0) (Large More : Type 0) (more : Large → More) (Refuses : Error → Type 0) where
  pub passed_on : (e : Error) → Answers {X = X} c bytes Done Large Refuses (Err e) → Answers {X = Y} c bytes Other More Refuses (Err e)
  passed_on (error.Memory m) h = tt
  passed_on (error.InvalidWasm k) h = h
  passed_on error.TooLarge h = more h
  passed_on _ h = h
