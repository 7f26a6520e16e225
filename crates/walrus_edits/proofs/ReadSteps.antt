-- The list of a module's items, from its bytes on.
use Rattle.std.proofs.Common.{ℕ, List, refl, subst, inl, inr}
use Rattle.std.specs.Prelude.{Err, Ok, Some}
use Rattle.std.specs.Global.{Vec}
use Rattle.wasm_entries.specs.Record.{Group}
use Rattle.walrus.specs.Forms.Reading.{Refuses}
use Rattle.wasm_forms.specs.declared.error.WireError.{WireError}
use Rattle.wasm_forms.specs.declared.error.WireError.TheVariants as wires
use Rattle.walrus.specs.Frames.Frames.{Frames}
use Rattle.walrus.specs.Frames.Record as wire
use Rattle.walrus.specs.Items.Errors.{error_of_wire}
use Rattle.walrus.specs.Items.CustomSection.{Ghosts}
use Rattle.walrus.specs.Items.Error.{Error}
use Rattle.walrus.specs.Items.Error.TheVariants as error
use Rattle.walrus.specs.Contents.Contents.{Contents}
use Rattle.walrus.specs.Model.Abstract.{Abstract}
use Rattle.walrus.specs.Model.Config.{Config}
use Rattle.walrus.specs.Theorem.Features.{features_of}
use Rattle.walrus.specs.Theorem.WellMade.{IsWellMade}
use Rattle.walrus.specs.Modules.Parsed.{IsParsed, RefusesBytes, TakenFrom}
use Rattle.walrus.specs.Modules.View.{contents_of, held_view, view}
use Rattle.walrus.specs.Modules.SectionEntry.{SectionEntry}
use Rattle.walrus.specs.Modules.Module.{Module}
use Rattle.walrus.proofs.EditEnds.{parsed_whole, plain_read}
use Rattle.walrus_edits.specs.Items.{AnswersItems, AreRead}
use Rattle.walrus_edits.specs.ItemSteps.{ListsItems}
use Rattle.walrus_edits.specs.ItemValues.{AreGroups}
use Rattle.walrus_edits.specs.TypeRecords.{GroupsTypes}
use Rattle.walrus_edits.proofs.TypeSteps.{none_exact, none_lacks}

-- nothing is asked of what no edit is made of
abbrev Any : Contents → Contents → Type 0
Any old new = Unit {0}

abbrev Never : Contents → Error → Type 0
Never held e = ⊥

pub unread : (c : Config) (bytes : List ℕ) (e : Error) → RefusesBytes c bytes e → AnswersItems c bytes (Err e)
unread c bytes (error.Memory m) h = tt
unread c bytes (error.InvalidWasm kind) h = h
unread c bytes _ h = absurd h

-- bytes that frame sections are framed
pub unframed : (c : Config) (bytes : List ℕ) (s : wire.Module) (e : WireError) → Refuses e (Some s) → AnswersItems c bytes (Err (error_of_wire e))
unframed c bytes s wires.Malformed h = absurd (cc)
unframed c bytes s (wires.Memory m) h = tt
unframed c bytes s wires.TooLarge h = absurd h

module _ {V : Type 0} {O : V → Type 0} (G : (v : V) → Ghosts (O v)) (c : Config) (bytes : List ℕ) (m : Module (SectionEntry V O)) (parsed : IsParsed c bytes (view G m)) (taken : TakenFrom (features_of c) bytes (contents_of m)) where
  made : IsWellMade c (held_view m)
  made = (parsed_whole G Any Never c bytes m parsed).made

  read_so : (s : wire.Module) → Frames bytes s → AreRead c bytes s (contents_of m)
  read_so s framed = record {
    framed = framed;
    customs = (view G m).customs;
    parsed = subst (λ (v : Abstract). IsParsed c bytes v) (plain_read G Any Never c bytes m parsed) parsed;
    taken = taken;
  }

  module _ (s : wire.Module) (framed : Frames bytes s) where
    pub ungrouped : (e : Error) → GroupsTypes (contents_of m).types (Err e) → AnswersItems c bytes (Err e)
    ungrouped (error.Memory memory) h = tt
    ungrouped error.TooLarge h = inr (record { sections = s; contents = contents_of m; read = read_so s framed; many = h })
    ungrouped error.NoIndex h = absurd (none_lacks c (held_view m) (contents_of m).types refl made h)
    ungrouped error.NotWritable h = absurd (none_exact c (held_view m) (contents_of m).types refl made h)
    ungrouped _ h = absurd h

    module _ (groups : List Group) (grouped : AreGroups (contents_of m).types groups) where
      pub unlisted : (e : WireError) → ListsItems s groups (contents_of m) (Err e) → AnswersItems c bytes (Err (error_of_wire e))
      unlisted wires.Malformed h = absurd h
      unlisted (wires.Memory memory) h = tt
      unlisted wires.TooLarge (told, are, long) = inl (record {
        told = told;
        items = record { sections = s; contents = contents_of m; read = read_so s framed; groups = groups; grouped = grouped; are = are };
        long = long;
      })

      pub is_list : (list : Vec ℕ) → ListsItems s groups (contents_of m) (Ok list) → AnswersItems c bytes (Ok list)
      is_list list (told, are, is, fits) = record {
        told = told;
        items = record { sections = s; contents = contents_of m; read = read_so s framed; groups = groups; grouped = grouped; are = are };
        is = is;
        fits = fits;
      }
