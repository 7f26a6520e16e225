-- What is refused is refused, whatever else would have been answered.
use Rattle.std.proofs.Common.{ℕ, List}
use Rattle.std.specs.Prelude.{Err}
use Rattle.walrus_model.specs.Config.{Config}
use Rattle.walrus_items.specs.declared.error.Error.{Error}
use Rattle.walrus_items.specs.declared.error.Error.TheVariants as error
use Rattle.walrus.specs.Ends.{Answers}

module _ (X Y : Type 0) (c : Config) (bytes : List ℕ) where
  pub refused_so : (Done : X → Type 0) (Other : Y → Type 0) (Large : Type 0) (Refuses : Error → Type 0) (e : Error) → Answers {X = X} c bytes Done Large Refuses (Err e) → Answers {X = Y} c bytes Other Large Refuses (Err e)
  refused_so Done Other Large Refuses (error.Memory m) h = tt
  refused_so Done Other Large Refuses (error.InvalidWasm k) h = h
  refused_so Done Other Large Refuses error.TooLarge h = h
  refused_so Done Other Large Refuses _ h = h
