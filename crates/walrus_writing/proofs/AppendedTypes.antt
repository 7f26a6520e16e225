-- The type section of groups that were appended one by one.
use Rattle.std.proofs.Common.{◌≡◌, ℕ, ◌<◌, List, [], ◌++◌, refl, ap, ◌∙◌}
use Rattle.wasm_entries.specs.Record.{Group}
use Rattle.wasm_entries.specs.TypeSpelling.{GroupFits, group_bytes}
use Rattle.wasm_forms.specs.Spelling.{row_bytes}
use Rattle.wasm_frames.specs.Frames.{Types}
use Rattle.walrus_base.specs.TypeDef.{TypeDef}
use Rattle.walrus_code.specs.Names.{Lookup}
use Rattle.walrus_groups.specs.Appended.{AppendsGroups}
use Rattle.walrus_groups.specs.Indexed.{AreIndexed}
use Rattle.walrus_writing.specs.Appended.{ListsEntries}
use Rattle.walrus_writing.specs.BySection.{Writes}
use Rattle.walrus_writing.proofs.AppendedRows.{rows_listed}

pub typed : (names : Lookup) (defs : List TypeDef) (count : ℕ) (first row lent old new : List ℕ) → first ≡ [] → count < 4294967296 → AppendsGroups (AreIndexed names defs) count first row → lent ≡ row → ListsEntries 1 count lent old new
    → Writes Types (λ (groups : List Group). groups) (AreIndexed names defs) old new
typed names defs count first row lent old new none few a same w =
    let row_is : row ≡ row_bytes group_bytes a.groups = a.appends ∙ ap (λ (l : List ℕ). l ++ row_bytes group_bytes a.groups) none in
    let stands = rows_listed group_bytes GroupFits Types 1 (λ es. refl) (λ es fit small. (fit, small)) a.groups a.fit count lent old new a.counted few (same ∙ row_is) w in
    record {
      raw = a.groups;
      said = a.said;
      appends = stands.0;
      fits = stands.1;
    }
