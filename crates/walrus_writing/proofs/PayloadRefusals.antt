-- Why the payloads of sections that are made are refused.
use Rattle.std.specs.Prelude.{List, Err}
use Rattle.wasm_payloads.specs.Spelling.{NameText}
use Rattle.walrus_bodies.specs.declared.features.Features.{Features}
use Rattle.walrus_contents.specs.declared.parts.Parts.{Parts}
use Rattle.walrus_items.specs.declared.error.Error.{Error}
use Rattle.walrus_items.specs.declared.error.Error.TheVariants as errors
use Rattle.walrus_model.specs.Abstract.{ProducerField}
use Rattle.walrus_writing.specs.Customs.{SpellsBoth, SpellsFields, payload_of}
use Rattle.walrus_writing.specs.Names.{SpellsNames}
use Rattle.walrus_writing.specs.Refusals.{RefusesBodies}

module _ (t : NameText) (fields : List ProducerField) where
  pub names_refused : (e : Error) → SpellsNames t (Err e) → SpellsBoth t fields (Err e)
  names_refused (errors.Memory m) told = tt
  names_refused _ told = absurd told

  pub producers_refused : (e : Error) → SpellsFields payload_of fields (Err e) → SpellsBoth t fields (Err e)
  producers_refused (errors.Memory m) told = tt
  producers_refused _ told = absurd told

  pub both_refused : (p : Parts) (features : Features) (e : Error) → SpellsBoth t fields (Err e) → RefusesBodies p features e
  both_refused p features (errors.Memory m) told = tt
  both_refused p features _ told = absurd told
