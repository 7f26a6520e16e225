-- The steps at work where names are written: the module's and its function's stay.
use Rattle.std.proofs.Common.{◌≡◌, true, false, ℕ, zero, suc, Bool, List, [], ◌∷◌, refl, sym, ◌∙◌, subst, arith}
use Rattle.std.specs.Prelude.{All, codes, Some, None, IsSome, is_some, slice_get, if◌then◌else◌}
use Rattle.std.specs.Str.{IsUtf8}
use Rattle.std.proofs.lemmas.List.Elements.{All-nil, All-cons}
use Rattle.wasm_forms.specs.Spelling.{number_bytes, groups}
use Rattle.wasm_frames.specs.Frames.{Section}
use Rattle.wasm_payloads.specs.declared.naming.NameSpace.{NameSpace}
use Rattle.wasm_payloads.specs.declared.naming.NameSpace.TheVariants as spaces
use Rattle.wasm_payloads.specs.Names.{Named, ModuleName, ItemName}
use Rattle.wasm_writer.specs.Spelling.{SectionStands, SectionFits}
use Rattle.walrus_base.specs.Operators as items
use Rattle.walrus_base.specs.Operators.{Types, Functions, Tables, Memories, Globals, Elements, DataSegments, Item}
use Rattle.walrus_model.specs.Abstract.{Abstract, Name, Subject, TheModule, AnItem, ALocal, Body}
use Rattle.walrus_model.specs.Config.{Config}
use Rattle.walrus_model.specs.Live.{IsLive}
use Rattle.walrus_model.specs.Names.{body_of, last_name, own_name, name_of, names_that_count, or_else, synthetic_name, IsNoType, MayBeNamed, AreNamed, WritesNames}
use Rattle.walrus_model.specs.Producers.{produced, if_written}
use Rattle.walrus_model.specs.Refers.{IsUsed}
use Rattle.walrus_model.specs.Renaming.{unchanged}
use Rattle.walrus_base.proofs.Lists.{Contains-none}
use Rattle.walrus_theorem.specs.Examples.{no_values, empty_body}
use Rattle.walrus_theorem.specs.Headline.{ReadsModule, ComesTo}
use Rattle.walrus_theorem.specs.Namings.{naming_of, has_local, is_in_range, names_in_range}
use Rattle.walrus_theorem.specs.Pinned.{IsWrittenAs}
use Rattle.walrus_theorem.specs.Spelling.{BodyStands, MapStands, IsSpelledAs}
use Rattle.walrus_theorem.specs.Text.{custom, names_bytes, namings_of, sections_of, said_by}
use Rattle.walrus_theorem.specs.WorkedSections.{ComesToAlone, a_function, named_text, named_bytes}
use Rattle.walrus_theorem.proofs.BodiesBack.{bodies_hold}
use Rattle.walrus_theorem.proofs.NeedsBase.{no_item, empty_if}
use Rattle.walrus_theorem.proofs.Runs.{comes_to}
use Rattle.walrus_theorem.proofs.SpelledReads.{nested_reads}
use Rattle.walrus_theorem.proofs.WorkedEmpty.{just_end, f_exported, empty_function, in_memory, empty_uses, empty_needs_no_count, empty_nests, empty_holds, empty_brings, empty_written}
use Rattle.walrus_theorem.proofs.WorkedParts.{runs, no_name, is_text, all_one, IsFilled, not_empty, body_stands, empty_stand, empty_fit}
use Rattle.walrus_theorem.proofs.WorkedSingle.{last_of_list, body_at}
use Rattle.walrus_theorem.proofs.WorkedWritten.{the_type}

abbrev the_names : Subject → List Name
the_names = names_in_range (empty_function [] [] (λ y. [])) (namings_of named_text.names)

abbrev the_module : Abstract
the_module = empty_function [] [] the_names

named_says : said_by named_text ≡ the_module
named_says = refl

abbrev name_section : Section
name_section = custom (codes "name") (names_bytes named_text.names)

name_fits : SectionFits name_section
unfolding number_bytes groups
name_fits = (omega arith, omega arith)

fits : All SectionFits (sections_of named_text)
fits = empty_fit (name_section ∷ []) (all_one SectionFits name_section name_fits)

no_entries : MapStands []
no_entries = ((λ i j d less at. absurd (omega arith)), All-nil _)

maps_stand : (space : NameSpace) → MapStands (a_function space)
maps_stand spaces.Functions = ((λ i j d less at. absurd (omega (arith, less, at))), all_one (λ (e : ℕ × Name). IsUtf8 e.1) (0, codes "a") (is_text (codes "a") refl))
maps_stand spaces.Types = no_entries
maps_stand spaces.Tables = no_entries
maps_stand spaces.Memories = no_entries
maps_stand spaces.Globals = no_entries
maps_stand spaces.Elements = no_entries
maps_stand spaces.DataSegments = no_entries
maps_stand spaces.Tags = no_entries

abbrev IsThere : Named → Type 0
IsThere x = is_in_range the_module (naming_of x).0 ≡ true

are_there : All IsThere (namings_of named_text.names)
are_there = All-cons IsThere (ModuleName (codes "m")) (ItemName spaces.Functions 0 (codes "a") ∷ []) refl (all_one IsThere (ItemName spaces.Functions 0 (codes "a")) refl)

spelled : IsSpelledAs the_module named_bytes
unfolding number_bytes groups
spelled = record {
  text = named_text;
  spells = record {
    says = sym named_says;
    stand = empty_stand (name_section ∷ []) (all_one SectionStands name_section (is_text (codes "name") refl));
    filled = all_one IsFilled no_values not_empty;
    bodies = all_one BodyStands empty_body body_stands;
    used = empty_uses [] [] the_names;
    as_many_bodies = refl;
    elements = All-nil _;
    data_count = empty_needs_no_count [] [] the_names;
    names = record {
      module_name = is_text (codes "m") refl;
      items = maps_stand;
      functions = λ i j d less at. absurd (omega arith);
      locals = All-nil _;
      are_there = are_there;
    };
    producers = All-nil _;
    dylinks = All-nil _;
    others = All-nil _;
  };
  written = refl;
}

-- ---- the names

type_unnamed : (i : ℕ) → the_names (AnItem (Types, i)) ≡ []
type_unnamed i = empty_if (is_some (slice_get (the_type ∷ []) i)) [] refl

module _ (c : Config) where
  is_read : ReadsModule c named_bytes the_module
  unfolding spelled
  is_read = nested_reads c the_module named_bytes spelled fits (empty_nests [] [] the_names c) (bodies_hold the_module (empty_holds [] [] the_names))

  abbrev kept : Abstract
  kept = in_memory c [] [] the_names

  -- the name that a subject has counts, whether synthetic names are asked for or not
  abbrev Counts : Subject → Bool → Type 0
  Counts y b = own_name the_module y ≡ or_else (last_name (names_that_count b the_module y)) (if b then synthetic_name the_module y else None)

  module_counts : (b : Bool) → Counts TheModule b
  module_counts true = refl
  module_counts false = refl

  function_counts : (b : Bool) → Counts (AnItem (Functions, 0)) b
  function_counts true = refl
  function_counts false = refl

  type_counts : (b : Bool) → Counts (AnItem (Types, 0)) b
  type_counts true = refl
  type_counts false = refl

  same_name : (y : Subject) → ((b : Bool) → Counts y b) → own_name the_module y ≡ own_name kept y
  same_name y counts = counts c.synthetic_names ∙ sym (last_of_list (name_of c the_module y))

  items_named : (x : Item) → IsLive kept x → IsNoType x → own_name the_module (AnItem x) ≡ own_name kept (AnItem x)
  items_named (Types, i) live away = absurd away
  items_named (Functions, zero) live away = same_name (AnItem (Functions, 0)) function_counts
  items_named (Functions, suc i) live away = absurd (no_item i live)
  items_named (Tables, i) live away = absurd (no_item i live)
  items_named (Memories, i) live away = absurd (no_item i live)
  items_named (items.Tags, i) live away = absurd (no_item i live)
  items_named (Globals, i) live away = absurd (no_item i live)
  items_named (Elements, i) live away = absurd (no_item i live)
  items_named (DataSegments, i) live away = absurd (no_item i live)

  only_those : (y : Subject) → IsSome (own_name the_module y) → MayBeNamed (IsLive kept) unchanged kept y
  only_those TheModule h = tt
  only_those (AnItem (Types, i)) h = tt
  only_those (AnItem (Functions, zero)) h = ((Functions, 0), refl, refl)
  only_those (AnItem (Functions, suc i)) h = absurd (no_item i h)
  only_those (AnItem (Tables, i)) h = absurd (no_item i h)
  only_those (AnItem (Memories, i)) h = absurd (no_item i h)
  only_those (AnItem (items.Tags, i)) h = absurd (no_item i h)
  only_those (AnItem (Globals, i)) h = absurd (no_item i h)
  only_those (AnItem (Elements, i)) h = absurd (no_item i h)
  only_those (AnItem (DataSegments, i)) h = absurd (no_item i h)
  only_those (ALocal f x) h = absurd (no_item 0 (subst (λ (l : List Name). IsSome (last_name l)) (empty_if (has_local x (body_of the_module f)) [] refl) h))

  no_local : (f : ℕ) (b : Body) (x : ℕ) → body_of kept f ≡ Some b → IsUsed b x → ⊥
  no_local f b x e used = Contains-none x (subst (λ (d : Body). IsUsed d x) (sym (body_at just_end f_exported None [] [] [] kept.producers kept.named f b e)) used)

  are_named : AreNamed (own_name kept) (IsLive kept) unchanged kept the_module
  are_named = record {
    module_name = same_name TheModule module_counts;
    items = items_named;
    locals = λ f b x live e used. absurd (no_local f b x e used);
    only = only_those;
  }

  type_name : (i : ℕ) → IsLive kept (Types, i) → own_name the_module (AnItem (Types, i)) ≡ own_name kept (AnItem (Types, i))
  type_name zero live = same_name (AnItem (Types, 0)) type_counts
  type_name (suc i) live = absurd (no_item i live)

  is_written : c.writes_names ≡ true → c.writes_producers ≡ false → IsWrittenAs c kept the_module
  is_written has_names no_producers = empty_written c [] [] the_names [] [] the_names
      (subst (λ b. WritesNames b (own_name kept) (IsLive kept) unchanged kept the_module) (sym has_names) are_named)
      (λ writes. type_name)
      (subst (λ b. [] ≡ if_written b (produced [])) (sym no_producers) refl)
      refl

  comes : c.writes_names ≡ true → c.writes_producers ≡ false → ComesTo c named_bytes named_bytes
  unfolding spelled
  comes has_names no_producers = comes_to c named_bytes named_bytes the_module kept the_module is_read (empty_holds [] [] the_names)
      (empty_brings c [] [] the_names (λ i past. no_name c the_module (Types, i) (type_unnamed i) refl)) (is_written has_names no_producers) spelled fits

pub names_run : (c : Config) → c.writes_names ≡ true → c.writes_producers ≡ false → ComesToAlone c named_bytes named_bytes
names_run c has_names no_producers = runs c named_bytes named_bytes (comes c has_names no_producers)
