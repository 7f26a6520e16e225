-- Whether a data count is due: of a module, and of the module that it is carried to, alike.
use Rattle.std.proofs.Common.{◌≡◌, ℕ, List, refl, sym, ap, ◌∙◌, subst, inl, inr, ⊎_elim}
use Rattle.std.specs.Prelude.{Option, Some, None, IsSome, Contains}
use Rattle.walrus_base.specs.Operators.{Space, Functions, DataSegments, Item, names_of}
use Rattle.walrus_model.specs.Abstract.{Abstract, DataKind, PassiveData, ActiveData, DataSegment, Function, FunctionKind, ImportedFunction, LocalFunction, Uninitialised}
use Rattle.walrus_model.specs.Carried.{Carried}
use Rattle.walrus_model.specs.Live.{IsLive}
use Rattle.walrus_model.specs.Names.{body_of_function, body_of_kind}
use Rattle.walrus_model.specs.Out.{IsTheSegment}
use Rattle.walrus_model.specs.Renaming.{Renaming, renamed, renamed_data, renamed_data_kind}
use Rattle.walrus_model.specs.Same.{BothAnd, SameFunction, SameKind}
use Rattle.walrus_base.proofs.Lists.{Contains-map}
use Rattle.walrus_model.proofs.OpsFollow.{ops_follow}
use Rattle.walrus_model.proofs.Reach.{Contains-unmap}
use Rattle.walrus_theorem.specs.Spelling.{IsCount, IsPassive, NamesData, NeedsCount}

passive_some : (o : Option DataSegment) → IsPassive o → IsSome o
passive_some (Some d) is = refl
passive_some None is = absurd is

body_some : (d : ℕ) (o : Option Function) → NamesData (body_of_function o) d → IsSome o
body_some d (Some f) at = refl
body_some d None at = absurd at

module _ (r : Renaming) where
  -- ---- passive segments

  passive_on : (x y : Option DataSegment) → BothAnd (λ a b. b ≡ renamed_data r a) x y → IsPassive x → IsPassive y
  passive_on (Some a) (Some b) same is = ap (λ (s : DataSegment). s.kind) same ∙ ap (renamed_data_kind r) is
  passive_on (Some a) None same is = absurd same
  passive_on None y same is = absurd is

  kind_was : (k : DataKind) → renamed_data_kind r k ≡ PassiveData → k ≡ PassiveData
  kind_was PassiveData e = refl
  kind_was (ActiveData memory offset) e = absurd (cc)

  passive_back : (x y : Option DataSegment) → BothAnd (λ a b. b ≡ renamed_data r a) x y → IsPassive y → IsPassive x
  passive_back (Some a) (Some b) same is = kind_was a.kind (sym (ap (λ (s : DataSegment). s.kind) same) ∙ is)
  passive_back (Some a) None same is = absurd same
  passive_back None y same is = absurd same

  -- ---- bodies that name one

  kind_on : (i d : ℕ) (k l : FunctionKind) → SameKind r i k l → NamesData (body_of_kind k) d → NamesData (body_of_kind l) (r.numbers DataSegments d)
  kind_on i d (LocalFunction a) (LocalFunction b) same at =
      subst (λ (xs : List Item). Contains xs (DataSegments, r.numbers DataSegments d)) (sym (ap names_of same.operators ∙ ops_follow r (r.locals i) a.operators))
      (Contains-map (renamed r) (DataSegments, d) (names_of a.operators) at)
  kind_on i d (LocalFunction a) (ImportedFunction q) same at = absurd same
  kind_on i d (LocalFunction a) Uninitialised same at = absurd same
  kind_on i d (ImportedFunction p) l same at = absurd at
  kind_on i d Uninitialised l same at = absurd at

  kind_back : (i e : ℕ) (k l : FunctionKind) → SameKind r i k l → NamesData (body_of_kind l) e → (d : ℕ) × NamesData (body_of_kind k) d
  kind_back i e (LocalFunction a) (LocalFunction b) same at =
      let x = Contains-unmap (renamed r) (names_of a.operators) (DataSegments, e) (subst (λ (xs : List Item). Contains xs (DataSegments, e)) (ap names_of same.operators ∙ ops_follow r (r.locals i) a.operators) at) in
      let space : x.0.0 ≡ DataSegments = ap (λ (z : Item). z.0) x.2 in
      (x.0.1, subst (λ (s : Space). Contains (names_of a.operators) (s, x.0.1)) space x.1)
  kind_back i e (LocalFunction a) (ImportedFunction q) same at = absurd same
  kind_back i e (LocalFunction a) Uninitialised same at = absurd same
  kind_back i e (ImportedFunction p) (LocalFunction b) same at = absurd same
  kind_back i e (ImportedFunction p) (ImportedFunction q) same at = absurd at
  kind_back i e (ImportedFunction p) Uninitialised same at = absurd at
  kind_back i e Uninitialised l same at = absurd same

  names_on : (i d : ℕ) (x y : Option Function) → BothAnd (SameFunction r i) x y → NamesData (body_of_function x) d → NamesData (body_of_function y) (r.numbers DataSegments d)
  names_on i d (Some f) (Some g) same at = kind_on i d f.kind g.kind same.kind at
  names_on i d (Some f) None same at = absurd same
  names_on i d None y same at = absurd at

  names_back : (i e : ℕ) (x y : Option Function) → BothAnd (SameFunction r i) x y → NamesData (body_of_function y) e → (d : ℕ) × NamesData (body_of_function x) d
  names_back i e (Some f) (Some g) same at = kind_back i e f.kind g.kind same.kind at
  names_back i e (Some f) None same at = absurd same
  names_back i e None y same at = absurd same

  -- ---- the count

  module _ (v n : Abstract) (c : Carried (IsLive v) (IsTheSegment None) r v n) where
    needs_on : NeedsCount v → NeedsCount n
    needs_on (inl (d, is)) = inl (r.numbers DataSegments d, passive_on (v.data_segments d) (n.data_segments (r.numbers DataSegments d)) (c.data_segments.same d (passive_some (v.data_segments d) is)) is)
    needs_on (inr (f, (d, at))) = inr (r.numbers Functions f, (r.numbers DataSegments d, names_on f d (v.functions f) (n.functions (r.numbers Functions f)) (c.functions.same f (body_some d (v.functions f) at)) at))

    needs_back : NeedsCount n → NeedsCount v
    needs_back (inl (e, is)) = ⊎_elim
        (λ from. inl (from.0, passive_back (v.data_segments from.0) (n.data_segments (r.numbers DataSegments from.0)) (c.data_segments.same from.0 from.1) (subst (λ (j : ℕ). IsPassive (n.data_segments j)) (sym from.2) is)))
        (λ none. absurd none)
        (c.data_segments.onto e (passive_some (n.data_segments e) is))
    needs_back (inr (f, (e, at))) = ⊎_elim
        (λ from. inr (from.0, names_back from.0 e (v.functions from.0) (n.functions (r.numbers Functions from.0)) (c.functions.same from.0 from.1) (subst (λ (j : ℕ). NamesData (body_of_function (n.functions j)) e) (sym from.2) at)))
        (λ none. absurd none)
        (c.functions.onto f (body_some e (n.functions f) at))

    -- what counts the segments where that is due counts them in what they are carried to
    pub count_carried : (k : ℕ) (o : Option ℕ) → IsCount v k o → IsCount n k o
    count_carried k None none = λ due. none (needs_back due)
    count_carried k (Some count) is = (needs_on is.0, is.1)
