-- What reading takes of sections once the names are there.
use Rattle.std.proofs.Common.{◌≡◌, ℕ, Bool, List, flat_map, sym, subst}
use Rattle.std.specs.Prelude.{Err}
use Rattle.wasm_frames.specs.Frames.{Frames}
use Rattle.wasm_frames.specs.Record as wire
use Rattle.wasm_wire.specs.Rules.{Rules}
use Rattle.walrus_bodies.specs.declared.features.Features.{Features}
use Rattle.walrus_contents.specs.declared.parts.Contents.{Contents}
use Rattle.walrus_reading.specs.Shown.{Shown, shown}
use Rattle.walrus_reading.specs.Synthetic.{AreNamed}
use Rattle.walrus_reading.specs.TakenNames.{Bounds}
use Rattle.walrus_reading.proofs.Whole.{Renames, names_become, nothing_else}
use Rattle.walrus_items.specs.Errors.{out_of_memory}
use Rattle.walrus_items.specs.declared.error.Error.{Error}
use Rattle.walrus_items.specs.declared.error.Error.TheVariants as Parts
use Rattle.walrus_reading.specs.Named.{HasNames, TakesNamed}
use Rattle.walrus_reading.specs.Parsed.{TakenFrom}
use Rattle.walrus_reading.specs.Taken.{TakesSections}

-- only names become others
pub renamed_by_names : (b : Bounds) (customs : List wire.Custom) (old new : Contents) → AreNamed b customs (shown old) (shown new) → Renames (shown old) (shown new)
renamed_by_names b customs old new h = subst (λ (s : Shown). Renames (shown old) s) (sym h.are) (names_become b (flat_map (λ xs. xs) h.namings) (shown old))

-- and so some contents without names took the sections, and these are the same but for names
pub taken_from : (features : Features) (synthetic : Bool) (bytes : List ℕ) (r : wire.Module) (m : Contents) → Frames bytes r → Rules r → HasNames features synthetic r m → TakenFrom features bytes m
taken_from features synthetic bytes r m framed rules h = record {
  sections = r;
  framed = framed;
  rules = rules;
  unnamed = h.before;
  taken = h.taken.taken;
  renamed = nothing_else (shown h.before) (shown m) (renamed_by_names h.bounds r.customs h.before m h.named);
}

module _ (features : Features) (synthetic : Bool) (r : wire.Module) where
  -- memory ran out where names are added
  pub named_lacks : (e : Error) → e ≡ out_of_memory → TakesNamed features synthetic r (Err e)
  named_lacks e same = subst (λ (x : Error). TakesNamed features synthetic r (Err x)) (sym same) tt

  -- the contents aren't read
  pub named_refused : (e : Error) → TakesSections features r (Err e) → TakesNamed features synthetic r (Err e)
  named_refused (Parts.Memory m) h = tt
  named_refused (Parts.InvalidWasm kind) h = h
  named_refused _ h = absurd h
