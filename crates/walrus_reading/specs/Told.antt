-- No name of what was read is left open.
use Rattle.std.specs.Prelude.{ℕ, List, ◌≡◌}
use Rattle.walrus_model.specs.Config.{Config}
use Rattle.walrus_theorem.specs.Features.{features_of}
use Rattle.walrus_reading.specs.Shown.{IsRenamed, shown}
use Rattle.walrus_reading.specs.Parsed.{IsParsed, TakenFrom, read_view}
use Rattle.walrus_reading.specs.declared.module.ReadModule.{ReadModule}

-- two modules that the same bytes are read as, and that are the same but for names, have the same names
abbrev pub NamesTold : Type 0
NamesTold = (c : Config) (bytes : List ℕ) (m n : ReadModule) → IsParsed c bytes (read_view m) → TakenFrom (features_of c) bytes m.contents → IsParsed c bytes (read_view n)
    → IsRenamed (shown m.contents) (shown n.contents) → shown n.contents ≡ shown m.contents
