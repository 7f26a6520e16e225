-- What the locals of a module end as, where one of them is lent.
use Rattle.std.specs.Prelude.{ℕ, false}
use Rattle.std.specs.Borrow.{Lends, Fml, MutBor}
use Rattle.std.specs.Vec.{with_item}
use Rattle.std.proofs.lemmas.Bool.{false≢true}
use Rattle.walrus_base.specs.declared.locals.Local.{Local}
use Rattle.walrus_base.specs.declared.locals.ModuleLocals.{ModuleLocals}
use Rattle.walrus_base.specs.contracts.locals.ModuleLocals.{the_row}
use Rattle.walrus_base.specs.contracts.locals.Local as local

-- the locals with this one at a place; it may have got a name
abbrev pub with_local : ModuleLocals → ℕ → Local → ModuleLocals
with_local all place last = record {
  places = with_item all.places place last;
  unnamed = false;
  none_named = λ lacks. absurd (false≢true lacks);
}

-- once the borrow r ends, the place has the last value written through r
abbrev pub LendsLocal : MutBor ModuleLocals → ℕ → MutBor Local → Fml
LendsLocal all place r = Lends the_row local.the_row all r (λ last. with_local all.now place last)
