-- A well-made module has no cause to be refused, its size aside.
use Rattle.std.proofs.Common.{◌≡◌, ℕ, refl, sym, ap, ◌∙◌}
use Rattle.std.specs.Prelude.{Option, Some, None, IsSome}
use Rattle.std.proofs.lemmas.Option.{same_Some}
use Rattle.walrus_base.specs.Operators.{Types, Functions, Tables, Memories, Tags, Globals, Elements, DataSegments, Item}
use Rattle.walrus_model.specs.Abstract.{Abstract}
use Rattle.walrus_model.specs.Config.{Config}
use Rattle.walrus_model.specs.Live.{IsLive}
use Rattle.walrus_model.specs.WellMade.{ImportsMatch, import_in, import_of}
use Rattle.walrus_theorem.specs.Refused.{HasTwoIndices, LocalImported, ImportedTwice, LacksIndex, NotBrought, LocalGlobalRead, LaterGlobalRead, LaterSupertype, LaterType, HasUnspelled, ExactType, ExactConstant, EmptyConstant, IllFormed}
use Rattle.walrus_theorem.specs.WellMade.{IsWellMade}
use Rattle.walrus_theorem.specs.WellMadeLaws.{WellNoCause}
use Rattle.walrus_theorem.proofs.BroughtLives.{Lives, lives_no_dead}

pub import_there : {X : Type 0} (get : X → Option ℕ) (o : Option X) (i : ℕ) → import_in get o ≡ Some i → IsSome o
import_there get (Some x) i e = refl
import_there get None i e = absurd (cc)

-- what names an import is there
pub import_live : (m : Abstract) (x : Item) (i : ℕ) → import_of m x ≡ Some i → IsLive m x
import_live m (Functions, k) i e = import_there _ (m.functions k) i e
import_live m (Tables, k) i e = import_there _ (m.tables k) i e
import_live m (Memories, k) i e = import_there _ (m.memories k) i e
import_live m (Tags, k) i e = import_there _ (m.tags k) i e
import_live m (Globals, k) i e = import_there _ (m.globals k) i e
import_live m (Types, k) i e = absurd (cc)
import_live m (Elements, k) i e = absurd (cc)
import_live m (DataSegments, k) i e = absurd (cc)

pub well_lives : (c : Config) (u : Abstract) → IsWellMade c u → Lives u
well_lives c u made = record {
  indices = made.rules.indices;
  imports = λ i x at. import_live u x.item i (made.imports.imports i x at);
  made = λ i f at un. made.writable.initialised i f at un;
}

-- where imports and items name each other, none has two indices
pub two : (u : Abstract) → ImportsMatch u → HasTwoIndices u → ⊥
two u match (LocalImported i x at live kind none) = let no : Some i ≡ None = sym (match.imports i x at) ∙ none in cc
two u match (ImportedTwice i j x y at too live apart same) = apart (same_Some i j (sym (match.imports i x at) ∙ ap (import_of u) same ∙ match.imports j y too))

lacks : (c : Config) (u : Abstract) → IsWellMade c u → LacksIndex u → ⊥
lacks c u made (NotBrought y i says none) = let found = made.imports.items y i says in none found.0 found.1 found.2
lacks c u made (LocalGlobalRead i g reads live not) = not (made.rules.indices.tables i g reads.0 reads.1.0 reads.1.1.0 reads.1.1.1 reads.1.1.2)
lacks c u made (LaterGlobalRead i g reads live not) = not (made.rules.indices.globals i g reads.0 reads.1.0 reads.1.1.0 reads.1.1.1 reads.1.1.2)
lacks c u made (LaterSupertype t s x at named live not) = not (made.rules.types.supertypes t s x at named)
lacks c u made (LaterType t s x at named live not) = not (made.rules.types.others t s x at named)

unspelled : (c : Config) (u : Abstract) → IsWellMade c u → HasUnspelled c u → ⊥
unspelled c u made (ExactType x h at not) = not (made.writable.heaps x h at)
unspelled c u made (ExactConstant x ops h at has not) = not (made.writable.const_heaps x ops h at has)
unspelled c u made (EmptyConstant x at) = made.writable.consts x _ at refl
unspelled c u made (IllFormed lives i f b at is not) = not (made.bodies i f b at is)

pub well_no_cause : WellNoCause
well_no_cause c u made = record {
  all_there = lives_no_dead u (well_lives c u made);
  one_index = two u made.imports;
  indices = lacks c u made;
  spelled = unspelled c u made;
}
