use Rattle.std.proofs.Common.{length, sym, ap, ◌∙◌}
use Rattle.std.specs.Prelude.{◌==◌}
use Rattle.std.proofs.lemmas.Bool.{false≢true as untrue}
use Rattle.std.proofs.lemmas.Bool.Decides.{not_from_Decides}
use Rattle.walrus_sections.proofs.Fronts.{none_stands}
use Rattle.walrus_sections.proofs.beginnings.other_beginning.Goals as goal

pub returns : goal.returns
returns c = (
  none_stands c.args.bytes.now (λ e. untrue (sym c.if-is_empty.false ∙ c.is_empty.ensures ∙ ap (λ l. length l == 0) e))
      (not_from_Decides c.is_cut.result c.is_cut.ensures c.if-is_cut.false)
      (not_from_Decides c.begins.result c.begins.ensures c.if-begins.false)
      (not_from_Decides c.is_zip.result c.is_zip.ensures c.if-is_zip.false)
      (not_from_Decides c.begins-2.result c.begins-2.ensures c.if-begins-2.false)
      (not_from_Decides c.begins-3.result c.begins-3.ensures c.if-begins-3.false)
      (not_from_Decides c.is_bitcode.result c.is_bitcode.ensures c.if-is_bitcode.false)
      (not_from_Decides c.is_text.result c.is_text.ensures c.if-is_text.false)
      (not_from_Decides c.begins-4.result c.begins-4.ensures c.if-begins-4.false)
      (not_from_Decides c.has_version.result c.has_version.ensures c.if-has_version.false),
  c.requires,
)
