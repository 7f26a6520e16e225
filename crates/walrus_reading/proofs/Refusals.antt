-- What a refusal of a part says of the whole.
use Rattle.std.proofs.Common.{◌≡◌, Bool, List, ℕ, refl, sym, subst}
use Rattle.std.specs.Prelude.{Option, Some, None, Result, Err, zip}
use Rattle.std.specs.List.{AllZip}
use Rattle.wasm_forms.specs.Reading.{Refuses}
use Rattle.wasm_forms.specs.declared.error.WireError.{WireError}
use Rattle.wasm_forms.specs.declared.error.WireError.TheVariants as Wire
use Rattle.wasm_frames.specs.Frames.{Frames}
use Rattle.wasm_frames.specs.Record as wire
use Rattle.wasm_wire.specs.Rules.{Rules, Checks}
use Rattle.wasm_frames.proofs.Modules.{one_record_lem}
use Rattle.walrus_bodies.specs.declared.features.Features.{Features}
use Rattle.walrus_model.specs.Config.{Config}
use Rattle.walrus_model.specs.Reads.{ReadsBodyWith}
use Rattle.walrus_theorem.proofs.RulesAgree.{reads_agree}
use Rattle.walrus_reading.specs.Numbers.{HasRoomFor}
use Rattle.walrus_reading.specs.Named.{TakesNamed}
use Rattle.walrus_reading.specs.Parsed.{IsReadWith, RefusesBytes, RefusesModule}
use Rattle.walrus_reading.proofs.Rooms.{has_room}
use Rattle.walrus_items.specs.Errors.{error_of_wire}
use Rattle.walrus_items.specs.declared.error.Error.{Error}
use Rattle.walrus_items.specs.declared.error.Error.TheVariants as Parts

pub frames_refused : {T : Type 0} (c : Features) (bytes : List ℕ) (e : WireError) → ((m : wire.Module) → Frames bytes m → Refuses e (Some m)) → (◌≡◌ {A = Result T WireError} (Err e) (Err Wire.TooLarge) → ⊥) → RefusesModule c bytes (error_of_wire e)
frames_refused c bytes Wire.Malformed only small = λ a. let n : ◌≡◌ {A = Option wire.Module} (Some a.sections) None = only a.sections a.framed in let no : ⊥ = cc in no
frames_refused c bytes (Wire.Memory m) only small = tt
frames_refused c bytes Wire.TooLarge only small = absurd (small refl)

pub rules_refused : (c : Features) (bytes : List ℕ) (w : wire.Module) (e : WireError) → Frames bytes w → Checks (Err e) (Rules w) → RefusesModule c bytes (error_of_wire e)
rules_refused c bytes w Wire.Malformed f h = λ a. h (subst Rules (one_record_lem bytes a.sections w a.framed f) a.rules)
rules_refused c bytes w (Wire.Memory m) f h = tt
rules_refused c bytes w Wire.TooLarge f h = absurd h

-- what can be read has room
pub room_refused : (c : Features) (bytes : List ℕ) (w : wire.Module) (e : WireError) → Frames bytes w → Checks (Err e) (HasRoomFor w) → RefusesModule c bytes (error_of_wire e)
room_refused c bytes w Wire.Malformed f h = λ a. h (subst HasRoomFor (one_record_lem bytes a.sections w a.framed f) (has_room c bytes a.sections a.bodies a.framed a.rules.in_order a.rules.as_many_bodies a.read))
room_refused c bytes w (Wire.Memory m) f h = tt
room_refused c bytes w Wire.TooLarge f h = absurd h

pub bodies_refused : (c : Features) (synthetic : Bool) (bytes : List ℕ) (r : wire.Module) (e : Error) → Frames bytes r → TakesNamed c synthetic r (Err e) → RefusesModule c bytes e
bodies_refused c synthetic bytes r (Parts.Memory m) f h = tt
bodies_refused c synthetic bytes r (Parts.InvalidWasm kind) f h = λ a.
    let same : a.sections ≡ r = one_record_lem bytes a.sections r a.framed f in
    h a.bodies (subst (λ (x : wire.Module). AllZip (ReadsBodyWith c x) (zip x.functions x.bodies) a.bodies) same a.read)
bodies_refused c synthetic bytes r _ f h = absurd h

-- what is accepted keeps the rules
module _ (config : Config) (c : Features) (synthetic : Bool) (with : IsReadWith config c synthetic) (bytes : List ℕ) where
  pub refused_bytes : (e : Error) → RefusesModule c bytes e → RefusesBytes config bytes e
  refused_bytes (Parts.Memory m) h = tt
  refused_bytes (Parts.InvalidWasm kind) h = λ a.
      let m = a.1 in
      h (record {
        sections = m.sections;
        framed = m.framed;
        rules = (reads_agree config bytes a.0 m).1 a.2;
        bodies = m.bodies;
        read = subst (λ (f : Features). AllZip (ReadsBodyWith f m.sections) (zip m.sections.functions m.sections.bodies) m.bodies) (sym with.features_are) m.read;
      })
  refused_bytes _ h = absurd h
