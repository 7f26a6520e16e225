-- The report on the module in memory is that on the module that was read: but for types both have the same items, and the same of them are kept.
use Rattle.std.proofs.Common.{◌≡◌, ℕ, List, codes, subst, Result, Ok, Err}
use Rattle.std.specs.Prelude.{MatchResult, ◌↔◌}
use Rattle.walrus_base.specs.Operators.{Space, Types, Functions, Tables, Memories, Tags, Globals, Elements, DataSegments}
use Rattle.walrus_model.specs.Abstract.{Abstract}
use Rattle.walrus_model.specs.Config.{Config}
use Rattle.walrus_model.specs.Kept.{Kept}
use Rattle.walrus_model.specs.Live.{IsLive}
use Rattle.walrus_model.specs.Rules.{Holds}
use Rattle.walrus_items.specs.declared.error.Error.{Error}
use Rattle.walrus_module.specs.Parsed.{IsParsed}
use Rattle.walrus_theorem.specs.Chain.{ParsedAs}
use Rattle.walrus_theorem.specs.Report.{Counts, IsLine, IsReport}
use Rattle.walrus_theorem.proofs.StepParsed.{kept_back, kept_on, live_back, live_forth}
use Rattle.walrus_model.proofs.StepPlain.{IsPlain}
use Rattle.walrus_theorem.proofs.StepRead.{read_is_plain}
use Rattle.walrus.specs.Marked.{ReachesUnsound}
use Rattle.walrus.specs.Reported.{IsReportOf, ReportsOn}
use Rattle.walrus.specs.Used.{RefusesSearch}
use Rattle.walrus.proofs.HeadlineLemmas.{search_refused}

-- the same numbers are counted where the same is meant
same_count : (P Q : ℕ → Type 0) → ((i : ℕ) → P i ↔ Q i) → (n : ℕ) → Counts P n → Counts Q n
same_count P Q same n counts = record {
  numbers = counts.numbers;
  rising = counts.rising;
  are = λ i. (λ has. (same i).0 ((counts.are i).0 has), λ q. (counts.are i).1 ((same i).1 q));
  long = counts.long;
}

-- the lines of a space in two modules with the same items in it, of which they keep the same
module _ (v m : Abstract) (space : Space) (kept : (i : ℕ) → Kept v (space, i) ↔ Kept m (space, i)) (live : (i : ℕ) → IsLive v (space, i) ↔ IsLive m (space, i)) where
  same_line : (word text : List ℕ) → IsLine v space word text → IsLine m space word text
  same_line word text l = (
    l.0,
    (
      l.1.0,
      (
        record {
          kept_are = same_count _ _ kept l.0 l.1.1.0.kept_are;
          dropped_are = same_count _ _ (λ i. (λ h. ((live i).0 h.0, λ k. h.1 ((kept i).1 k)), λ h. ((live i).1 h.0, λ k. h.1 ((kept i).0 k)))) l.1.0 l.1.1.0.dropped_are;
        },
        l.1.1.1,
      ),
    ),
  )

module _ (c : Config) (m v : Abstract) (p : ParsedAs c m v) (plain : IsPlain m) (holds : Holds m) where
  module _ (space : Space) (other : space ≡ Types → ⊥) where
    kept_same : (i : ℕ) → Kept v (space, i) ↔ Kept m (space, i)
    kept_same i = (kept_back c m v p plain holds (space, i) other, kept_on c m v p plain holds (space, i))

    live_same : (i : ℕ) → IsLive v (space, i) ↔ IsLive m (space, i)
    live_same i = (live_back c m v p (space, i) other, live_forth c m v p (space, i))

    -- as many are kept, and there, in the module that was read
    pub kept_read : (n : ℕ) → Counts (λ i. Kept v (space, i)) n → Counts (λ i. Kept m (space, i)) n
    kept_read = same_count _ _ kept_same

    pub live_read : (n : ℕ) → Counts (λ i. IsLive v (space, i)) n → Counts (λ i. IsLive m (space, i)) n
    live_read = same_count _ _ live_same

    line_read : (word text : List ℕ) → IsLine v space word text → IsLine m space word text
    line_read = same_line v m space kept_same live_same

  report_read : (text : List ℕ) → IsReport v text → IsReport m text
  report_read text r = record {
    functions = r.functions;
    tables = r.tables;
    memories = r.memories;
    tags = r.tags;
    globals = r.globals;
    elements = r.elements;
    data_segments = r.data_segments;
    is = r.is;
    functions_are = line_read Functions (λ e. absurd (cc)) (codes "functions") r.functions r.functions_are;
    tables_are = line_read Tables (λ e. absurd (cc)) (codes "tables") r.tables r.tables_are;
    memories_are = line_read Memories (λ e. absurd (cc)) (codes "memories") r.memories r.memories_are;
    tags_are = line_read Tags (λ e. absurd (cc)) (codes "tags") r.tags r.tags_are;
    globals_are = line_read Globals (λ e. absurd (cc)) (codes "globals") r.globals r.globals_are;
    elements_are = line_read Elements (λ e. absurd (cc)) (codes "elements") r.elements r.elements_are;
    data_segments_are = line_read DataSegments (λ e. absurd (cc)) (codes "data") r.data_segments r.data_segments_are;
  }

-- ---- what the whole way answers

module _ {X : Type 0} (c : Config) (view : X → List ℕ) (Q : Type 0) (never : Q → ⊥) where
  reported_for : (bytes : List ℕ) (v : Abstract) (result : Result X Error) → IsParsed c bytes v → MatchResult result (λ x. IsReport v (view x)) (RefusesSearch (ReachesUnsound v) Q) → ReportsOn c bytes view result
  reported_for bytes v (Ok x) parsed report = record {
    module_read = parsed.module_read;
    reads = parsed.reads;
    holds = parsed.holds;
    report = report_read c parsed.module_read v parsed.parsed (read_is_plain c bytes parsed.module_read parsed.reads) parsed.holds (view x) report;
  }
  reported_for bytes v (Err e) parsed refused = search_refused c view (IsReportOf c) (λ b. ⊥) Q bytes v e parsed never refused

  -- what the report on the module in memory answers is the answer for the bytes
  pub reported : (bytes text : List ℕ) → text ≡ bytes → (v : Abstract) (result : Result X Error) → IsParsed c text v
      → MatchResult result (λ x. IsReport v (view x)) (RefusesSearch (ReachesUnsound v) Q) → ReportsOn c bytes view result
  reported bytes text same v result parsed searched = subst (λ (b : List ℕ). ReportsOn c b view result) same (reported_for text v result parsed searched)
