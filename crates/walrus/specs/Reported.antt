-- The report on the module that was read.
use Rattle.std.specs.Prelude.{ℕ, Bool, true, false, List, length, Option, Result, is_some, count_by, not, ◌&&◌, if◌then◌else◌}
use Rattle.std.specs.List.{range_with_len}
use Rattle.walrus_base.specs.Arena.{item_at}
use Rattle.walrus_model.specs.Config.{Config}
use Rattle.walrus_items.specs.declared.error.Error.{Error}
use Rattle.walrus_theorem.specs.Headline.{Accepts}
pub use Rattle.walrus_theorem.specs.Report.{IsReportOf}
use Rattle.walrus.specs.Headline.{Answers, Runs, Transfers}
use Rattle.walrus.specs.declared.tool.ToolError.{ToolError}

-- what a report comes to; it is never too large
abbrev pub Reports : {X : Type 0} → Config → (from_old from_new to_old to_new : Option (List ℕ)) → Result X ToolError → Type 0
Reports c = Transfers (IsReportOf c) (Accepts c) (λ bytes. ⊥)

-- what a report makes of known bytes
abbrev pub ReportsOn : {X : Type 0} → Config → List ℕ → (X → List ℕ) → Result X Error → Type 0
ReportsOn c = Answers (IsReportOf c) (Accepts c) (λ bytes. ⊥)

-- a report, where one is asked for, and else a run
abbrev pub ReportsOrRuns : {X : Type 0} → (is_report : Bool) → Config → (from_old from_new to_old to_new : Option (List ℕ)) → Result X ToolError → Type 0
ReportsOrRuns true c = Reports c
ReportsOrRuns false c = Runs c

-- ---- counts

-- an item stands at the place, and is kept, or isn't, as asked
abbrev pub is_counted : {T : Type 0} → (keeps : ℕ → Bool) → (asked : Bool) → List (Option T) → ℕ → Bool
is_counted keeps asked slots place = is_some (item_at slots place) && (if asked then keeps place else not (keeps place))

-- how many items are kept, or aren't, as asked
abbrev pub count_where : {T : Type 0} → (keeps : ℕ → Bool) → (asked : Bool) → List (Option T) → ℕ
count_where keeps asked slots = count_by (is_counted keeps asked slots) (range_with_len 0 (length slots))
