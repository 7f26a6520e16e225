-- A module that was parsed and edited, before anything is done with it.
use Rattle.std.specs.Prelude.{ℕ, List}
use Rattle.walrus_model.specs.Abstract.{Abstract, Custom}
use Rattle.walrus_model.specs.Config.{Config}
use Rattle.walrus_contents.specs.declared.parts.Contents.{Contents}
use Rattle.walrus_module.specs.Parsed.{IsParsed}
use Rattle.walrus.specs.Edits.{with_customs}

-- the bytes were parsed, and what was parsed was edited so
pub record Edited (Edits : Contents → Contents → Type 0) (c : Config) (bytes : List ℕ) : Type 0 where
  pub customs : List Custom
  pub module_parsed : Contents
  pub parsed : IsParsed c bytes (with_customs customs module_parsed)
  pub module_edited : Contents
  pub edits : Edits module_parsed module_edited

-- what it is then
abbrev pub edited_view : {Edits : Contents → Contents → Type 0} {c : Config} {bytes : List ℕ} → Edited Edits c bytes → Abstract
edited_view e = with_customs e.customs e.module_edited
