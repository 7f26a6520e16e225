-- Each type of a legacy handler is the first of its kind among all types that there are after parsing.
use Rattle.std.proofs.Common.{◌≡◌, ℕ, ◌<◌, ◌≤◌, List, [], ◌∷◌, length, refl, sym, ◌∙◌, subst, arith, ⊎_elim}
use Rattle.std.specs.Prelude.{Option, Some, None, Contains, slice_get}
use Rattle.std.specs.List.{range_with_len}
use Rattle.std.proofs.lemmas.Option.{slice_get_within}
use Rattle.walrus_base.specs.Types.{CompType}
use Rattle.walrus_base.specs.Operators.{Functions}
use Rattle.walrus_model.specs.Abstract.{Abstract, TypeDef}
use Rattle.walrus_model.specs.Config.{Config}
use Rattle.walrus_model.specs.Live.{IsLive}
use Rattle.walrus_model.specs.Names.{body_of}
use Rattle.walrus_model.specs.Rules.{Holds}
use Rattle.walrus_theorem.specs.Chain.{alone, IsLoneTypeAt, TypeIsFoundOrAdded, Found, Added, AreFoundOrAdded, NoMore, AndThen, handlers_by, AddsHandlers, NoFunction, AndThose, ParsedAs}
use Rattle.walrus_base.proofs.Lists.{Contains-head, Contains-tail, Contains-uncons, Contains-none}
use Rattle.walrus_theorem.proofs.StepHandlers.{Extends, Below, AllBelow, one_placed, many_placed, all_placed, in_range}
use Rattle.walrus_theorem.proofs.StepParsed.{by_below}
use Rattle.walrus_model.proofs.StepPlain.{IsPlain}
use Rattle.walrus_theorem.proofs.Straight.{not_there}
use Rattle.walrus_base.proofs.Lookups.{there as slice_there}

abbrev pub IsFirst : CompType ℕ → List TypeDef → ℕ → Type 0
IsFirst comp types p = IsLoneTypeAt comp types p × ((q : ℕ) → q < p → IsLoneTypeAt comp types q → ⊥)

pub data AreFirst (types : List TypeDef) : (comps : List (CompType ℕ)) (places : List ℕ) → Type 0 where
  NoneFirst : AreFirst types [] []
  AndFirst : (comp : CompType ℕ) (comps : List (CompType ℕ)) (p : ℕ) (ps : List ℕ) → IsFirst comp types p → AreFirst types comps ps → AreFirst types (comp ∷ comps) (p ∷ ps)

module _ (types : List TypeDef) where
  -- each place is that of one of the types, and each type has a place
  pub comp_of : (comps : List (CompType ℕ)) (places : List ℕ) → AreFirst types comps places → (p : ℕ) → Contains places p → (comp : CompType ℕ) × Contains comps comp × IsFirst comp types p
  comp_of _ _ NoneFirst p at = absurd (Contains-none p at)
  comp_of _ _ (AndFirst comp comps q ps first rest) p at = ⊎_elim
      (λ is. (comp, Contains-head comp comps, subst (IsFirst comp types) is first))
      (λ later. let found = comp_of comps ps rest p later in (found.0, Contains-tail comp found.0 comps found.1, found.2))
      (Contains-uncons q p ps at)

  pub place_of : (comps : List (CompType ℕ)) (places : List ℕ) → AreFirst types comps places → (comp : CompType ℕ) → Contains comps comp → (p : ℕ) × Contains places p × IsFirst comp types p
  place_of _ _ NoneFirst comp at = absurd (Contains-none comp at)
  place_of _ _ (AndFirst d comps q ps first rest) comp at = ⊎_elim
      (λ is. (q, Contains-head q ps, subst (λ z. IsFirst z types q) is first))
      (λ later. let found = place_of comps ps rest comp later in (found.0, Contains-tail q found.0 ps found.1, found.2))
      (Contains-uncons d comp comps at)

-- what stands in front stood there before
pub stood : (old new : List TypeDef) → Extends old new → (q : ℕ) (x : TypeDef) → q < length old → slice_get new q ≡ Some x → slice_get old q ≡ Some x
stood old new e q x low at = by (slice_get old q) refl where
  by : (o : Option TypeDef) → slice_get old q ≡ o → slice_get old q ≡ Some x
  by (Some y) is = is ∙ sym (e q y is) ∙ at
  by None is = not_there (slice_get old q) is (slice_there old q low)

first_later : (old new : List TypeDef) → Extends old new → (comp : CompType ℕ) (p : ℕ) → IsFirst comp old p → IsFirst comp new p
first_later old new e comp p f = (
  (e p (alone p comp) f.0.0, f.0.1),
  λ q less s. let low : p < length old = slice_get_within old p (alone p comp) f.0.0 in f.1 q less (stood old new e q (alone q comp) (let l : q < length old = omega (arith, less, low) in l) s.0, s.1),
)

are_later : (old new : List TypeDef) → Extends old new → (comps : List (CompType ℕ)) (places : List ℕ) → AreFirst old comps places → AreFirst new comps places
are_later old new e _ _ NoneFirst = NoneFirst
are_later old new e _ _ (AndFirst comp comps p ps f rest) = AndFirst comp comps p ps (first_later old new e comp p f) (are_later old new e comps ps rest)

module _ (n : ℕ) where
  one_first : (comp : CompType ℕ) (old new : List TypeDef) (p : ℕ) → TypeIsFoundOrAdded comp old new p → Below n comp → n ≤ length old → IsFirst comp new p
  one_first comp old new p (Found stands first same) below long = subst (λ (l : List TypeDef). IsFirst comp l p) (sym same) (stands, first)
  one_first comp old new p (Added none place made) below long =
      let one = one_placed n comp old new p (Added none place made) below long in (
        one.stands,
        λ q less s. none q (stood old new one.extends q (alone q comp) (let e : p ≡ length old = place in let l : q < length old = omega (arith, less, e) in l) s.0, s.1),
      )

  pub many_first : (comps : List (CompType ℕ)) (old new : List TypeDef) (places : List ℕ) → AreFoundOrAdded comps old new places → AllBelow n comps → n ≤ length old → AreFirst new comps places
  many_first _ _ _ _ (NoMore types) below long = NoneFirst
  many_first _ first last _ (AndThen comp comps old middle new p ps one rest) below long =
      let a = one_placed n comp old middle p one (below comp (Contains-head comp comps)) long in
      let b = many_placed n comps middle new ps rest (λ c at. below c (Contains-tail comp c comps at)) a.long in
      AndFirst comp comps p ps
      (first_later middle new b.extends comp p (one_first comp old middle p one (below comp (Contains-head comp comps)) long))
      (many_first comps middle new ps rest (λ c at. below c (Contains-tail comp c comps at)) a.long)

module _ (m : Abstract) (places : ℕ → List ℕ) (n : ℕ) (below : (f : ℕ) → AllBelow n (handlers_by m (body_of m f))) where
  all_first : (fs : List ℕ) (old new : List TypeDef) → AddsHandlers m places fs old new → n ≤ length old → (g : ℕ) → Contains fs g → AreFirst new (handlers_by m (body_of m g)) (places g)
  all_first _ _ _ (NoFunction types) long g at = absurd (Contains-none g at)
  all_first _ first last (AndThose f fs old middle new one rest) long g at =
      let a = many_placed n (handlers_by m (body_of m f)) old middle (places f) one (below f) long in
      let b = all_placed m places n below fs middle new rest a.long in
      ⊎_elim
      (λ e. subst (λ h. AreFirst new (handlers_by m (body_of m h)) (places h)) e
      (are_later middle new b.extends (handlers_by m (body_of m f)) (places f) (many_first n (handlers_by m (body_of m f)) old middle (places f) one (below f) long)))
      (λ later. all_first fs middle new rest a.long g later)
      (Contains-uncons f g fs at)

-- so are those of what is parsed
module _ (c : Config) (m v : Abstract) (p : ParsedAs c m v) (plain : IsPlain m) (holds : Holds m) where
  below : (f : ℕ) → AllBelow (length p.types) (handlers_by m (body_of m f))
  below f = by_below c m v p plain holds f (body_of m f) refl

  pub all_extend : Extends p.types p.all_types
  all_extend =
      let le : length p.types ≤ length p.types = omega arith in
      (all_placed m v.handler_types (length p.types) below (range_with_len 0 p.functions) p.types p.all_types p.handlers le).extends

  pub are_first : (i : ℕ) → IsLive m (Functions, i) → AreFirst p.all_types (handlers_by m (body_of m i)) (v.handler_types i)
  are_first i live =
      let lt : i < p.functions = (p.functions_read i).0 live in
      let le : length p.types ≤ length p.types = omega arith in
      all_first m v.handler_types (length p.types) below (range_with_len 0 p.functions) p.types p.all_types p.handlers le i (in_range m v.handler_types (length p.types) below p.functions i lt)
