-- What a custom section may answer ("Binary Format > Custom Section").
use Rattle.std.specs.Prelude.{Bool, IsTrue, Result, IfErr, ⊤}
use Rattle.walrus_items.specs.declared.error.Error.{Error}
use Rattle.walrus_items.specs.declared.error.Error.TheVariants.{Memory, Caller}

-- want of memory, or, where it may refuse, a refusal of its own
abbrev pub IsSectionError : Bool → Error → Type 0
IsSectionError may_refuse (Memory e) = ⊤
IsSectionError may_refuse (Caller text) = IsTrue may_refuse
IsSectionError may_refuse _ = ⊥

abbrev pub FailsAsSection : {T : Type 0} → Bool → Result T Error → Type 0
FailsAsSection may_refuse r = IfErr r (IsSectionError may_refuse)
