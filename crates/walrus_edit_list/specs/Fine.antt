-- What a check doesn't look at, and each edit keeps.
use Rattle.std.specs.Prelude.{Contains}
use Rattle.walrus_base.specs.Arena.{items}
use Rattle.wasm_frames.specs.Record.{Custom}
use Rattle.walrus_contents.specs.View.{contents_view}
use Rattle.walrus_model.specs.Config.{Config}
use Rattle.walrus_theorem.specs.Sound.{IsFreeName}
use Rattle.walrus_edit_list.specs.Formed.{AreFormed}
use Rattle.walrus_edit_list.specs.Held.{Held}

-- bodies are well formed, and custom sections have free names
pub record IsFine (c : Config) (h : Held) : Type 0 where
  pub formed : AreFormed c (contents_view h.contents)
  pub free : (s : Custom) → Contains (items h.customs) s → IsFreeName s.name
