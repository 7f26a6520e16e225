-- A module has one report.
use Rattle.std.proofs.Common.{◌≡◌, ℕ, List, ◌++◌, length, sym, ap, ap₂, ◌∙◌, subst}
use Rattle.std.specs.Prelude.{codes}
use Rattle.walrus_base.specs.Operators.{Space}
use Rattle.walrus_model.specs.Abstract.{Abstract}
use Rattle.walrus_model.specs.Config.{Config}
use Rattle.walrus_theorem.specs.Report.{line, Counts, IsLine, IsReport, IsReportOf}
use Rattle.walrus_theorem.proofs.ReadsOnce.{reads_once_lem}
use Rattle.walrus_model.proofs.SpaceList.{one_rising}

one_count : (P : ℕ → Type 0) (i j : ℕ) → Counts P i → Counts P j → j ≡ i
one_count P i j a b =
    let same : b.numbers ≡ a.numbers = one_rising a.numbers b.numbers a.rising b.rising (λ z h. (b.are z).1 ((a.are z).0 h)) (λ z h. (a.are z).1 ((b.are z).0 h)) in
    b.long ∙ ap length same ∙ sym a.long

one_line : (m : Abstract) (space : Space) (word a b : List ℕ) → IsLine m space word a → IsLine m space word b → b ≡ a
one_line m space word a b h k =
    k.1.1.1 ∙ ap₂ (line word) (one_count _ h.0 k.0 h.1.1.0.kept_are k.1.1.0.kept_are) (one_count _ h.1.0 k.1.0 h.1.1.0.dropped_are k.1.1.0.dropped_are) ∙ sym h.1.1.1

join : (x y u v : List ℕ) → y ≡ x → v ≡ u → y ++ v ≡ x ++ u
join x y u v e f = ap₂ ◌++◌ e f

pub one_report : (m : Abstract) (text other : List ℕ) → IsReport m text → IsReport m other → other ≡ text
one_report m text other a b =
    b.is
    ∙ join _ _ _ _ (join _ _ _ _ (join _ _ _ _ (join _ _ _ _ (join _ _ _ _ (join _ _ _ _ (one_line m _ (codes "functions") a.functions b.functions a.functions_are b.functions_are)
    (one_line m _ (codes "tables") a.tables b.tables a.tables_are b.tables_are))
    (one_line m _ (codes "memories") a.memories b.memories a.memories_are b.memories_are))
    (one_line m _ (codes "tags") a.tags b.tags a.tags_are b.tags_are))
    (one_line m _ (codes "globals") a.globals b.globals a.globals_are b.globals_are))
    (one_line m _ (codes "elements") a.elements b.elements a.elements_are b.elements_are))
    (one_line m _ (codes "data") a.data_segments b.data_segments a.data_segments_are b.data_segments_are)
    ∙ sym a.is

pub one_report_of : (c : Config) (bytes text other : List ℕ) → IsReportOf c bytes text → IsReportOf c bytes other → other ≡ text
one_report_of c bytes text other a b =
    let same : b.module_read ≡ a.module_read = reads_once_lem c bytes a.module_read b.module_read a.reads b.reads in
    one_report a.module_read text other a.report (subst (λ (m : Abstract). IsReport m other) same b.report)
