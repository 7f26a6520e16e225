-- What a custom section means to gc and to emission, whoever wrote it.
use Rattle.std.specs.Prelude.{ℕ, Bool, false, List, []}
use Rattle.std.specs.String.{string_bytes}
use Rattle.walrus_base.specs.Operators.{Item}
use Rattle.walrus_code.specs.Names.{Lookup}
use Rattle.walrus_code.specs.Transform.{Transform}
use Rattle.walrus_items.specs.declared.custom.CustomSection.{Ghosts}
use Rattle.walrus_items.specs.declared.raw_section.RawCustomSection.{RawCustomSection}
use Rattle.walrus_module.specs.declared.entry.SectionEntry.{SectionEntry}
use Rattle.walrus_module.specs.declared.entry.SectionEntry.TheVariants.{Raw, Boxed}

pub record Meaning : Type 0 where
  pub name : List ℕ
  pub state : List ℕ
  pub roots : List Item
  pub may_refuse : Bool
  pub contents : Lookup → List ℕ
  pub state_after : Transform → List ℕ

abbrev pub meaning_by : {S : Type 0} → Ghosts S → S → Meaning
meaning_by G s = record {
  name = G.section_name s;
  state = G.state s;
  roots = G.own_roots s;
  may_refuse = G.may_refuse s;
  contents = G.contents s;
  state_after = G.state_after s;
}

-- a raw section is kept as it is
abbrev pub raw_meaning : RawCustomSection → Meaning
raw_meaning s = record {
  name = string_bytes s.name;
  state = s.data_.items;
  roots = [];
  may_refuse = false;
  contents = λ _. s.data_.items;
  state_after = λ _. s.data_.items;
}

module _ {V : Type 0} {O : V → Type 0} (G : (v : V) → Ghosts (O v)) where
  abbrev pub meaning : SectionEntry V O → Meaning
  meaning (Raw s) = raw_meaning s
  meaning (Boxed b) = meaning_by (G b.vtable) b.value
