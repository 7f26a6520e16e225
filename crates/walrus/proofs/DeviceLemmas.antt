-- Writing one piece behind another.
use Rattle.std.proofs.Common.{ℕ, List, ◌++◌, Option, Result, Ok, Err, OnErr, sym, ap, ◌∙◌, append_assoc}
use Rattle.std.specs.Io.KnownBytes.{Appends}
use Rattle.std.proofs.KnownBytes.{Appends-trans}
pub use Rattle.std.proofs.lemmas.Result.{on_ok_weaker as on_ok_map, on_err_weaker as on_err_map}
use Rattle.walrus.specs.Device.{WroteFront}

-- a fact under an error
pub on_err : {A E P : Type 0} (r : Result A E) → P → OnErr r P
on_err (Ok x) p = tt
on_err (Err e) p = p

-- a front of the first piece is a front of both
pub front_of_first : (old new : Option (List ℕ)) (first second : List ℕ) → WroteFront old new first → WroteFront old new (first ++ second)
front_of_first old new first second w =
    (w.0, w.1 ++ second, ap (λ x. x ++ second) w.2 ∙ append_assoc w.0 w.1 second, w.3)

-- behind the whole first piece a front of the second
pub front_of_second : (old mid new : Option (List ℕ)) (first second : List ℕ) → Appends old mid first → WroteFront mid new second → WroteFront old new (first ++ second)
front_of_second old mid new first second a w =
    (first ++ w.0, w.1, ap (λ x. first ++ x) w.2 ∙ sym (append_assoc first w.0 w.1), Appends-trans old mid new first w.0 a w.3)
