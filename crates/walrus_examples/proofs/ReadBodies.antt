-- The bodies of a module that was read, and the functions that have them.
use Rattle.std.proofs.Common.{◌≡◌, ℕ, ◌+◌, ◌-◌, ◌<◌, ◌≤◌, List, length, map, refl, sym, ap, ◌∙◌, subst, arith, ⊎_elim}
use Rattle.std.proofs.lemmas.Option.{slice_get_within, slice_get-get_or}
use Rattle.std.specs.Prelude.{Option, Some, None, slice_get, zip}
use Rattle.walrus.specs.Frames.Record as wire
use Rattle.walrus.specs.Modules.Body.{BodyReads}
use Rattle.walrus.proofs.Base.Lookups.{got_both}
use Rattle.walrus.proofs.Model.TypeLists.{got_either, got_right as behind}
use Rattle.walrus.specs.Model.Abstract.{Abstract, Body, Function}
use Rattle.walrus.specs.Model.Config.{Config}
use Rattle.walrus.specs.Model.Names.{body_of, body_of_function, body_of_kind}
use Rattle.walrus.specs.Model.ReadFunction.{locals_from}
use Rattle.walrus.specs.Model.Reads.{context_with}
use Rattle.walrus.specs.Model.Sections.{Said, imported, imported_function, function_with, functions_of}
use Rattle.walrus.proofs.Base.Standing.{some_inj, zip_left, zip_right}
use Rattle.walrus.specs.Theorem.Features.{features_of}
use Rattle.walrus.specs.Theorem.Headline.{ReadsBody, ReadsModule}
use Rattle.walrus.proofs.Theorem.TextShaped.{all_at}
use Rattle.walrus.proofs.Modules.AllHeld.{IsImported, all_imported}
use Rattle.walrus.specs.Modules.Transform.{imported_functions}
use Rattle.walrus_tools.specs.Stands.{StandsIn}
use Rattle.walrus_examples.specs.Moves.{OperatorStands}
use Rattle.walrus.proofs.Model.Looked.{at_map, map_at, unzipped}
use Rattle.walrus.proofs.Model.OwnOps.{declared_itself, locals_itself, ops_itself}
use Rattle.walrus_tools.proofs.PlacedOps.{RowIn, Text, in_row, row_in, same_texts}
use Rattle.walrus.specs.Code.FromRaw.{op_of}
use Rattle.walrus.specs.Base.Operators.{Op}

-- ---- a function with its body's bytes

module _ (c : Config) (bytes : List ℕ) (m : Abstract) (reads : ReadsModule c bytes m) where
  abbrev s : wire.Module
  s = reads.sections

  -- the sections have a body for function f, which reads as b
  pub record HasBytes (f : ℕ) (b : Body) : Type 0 where
    pub number : ℕ
    pub index : f ≡ imported_functions s + number
    pub body : wire.Body
    pub has : slice_get s.bodies number ≡ Some body
    pub said : Said
    pub says : b.operators ≡ said.1
    pub count : ℕ
    pub read : BodyReads (context_with (features_of c) s) (locals_from 0 count) body.bytes said.0 said.1

  by_parts : (f : ℕ) (b : Body) (g : Function) → body_of_kind g.kind ≡ Some b → slice_get (functions_of s reads.bodies) f ≡ Some g → HasBytes f b
  by_parts f b g is e = ⊎_elim
      (λ (brought : slice_get (imported imported_function 0 s.imports) f ≡ Some g). let none : None ≡ Some b = sym (ap body_of_kind (all_at IsImported (imported imported_function 0 s.imports) f g (all_imported 0 s.imports) brought).1) ∙ is in absurd (cc))
      (λ (own : (j : ℕ) × (f ≡ length (imported imported_function 0 s.imports) + j) × (slice_get (map (function_with s) (zip s.functions reads.bodies)) j ≡ Some g)).
      let made = at_map (function_with s) (zip s.functions reads.bodies) own.0 g own.2 in
      let both = unzipped s.functions reads.bodies own.0 made.0 made.1.0 in
      let left = zip_left (ReadsBody c s) (zip s.functions s.bodies) reads.bodies own.0 made.0.1 reads.read both.1 in
      record {
        number = own.0;
        index = own.1;
        body = left.0.1;
        has = (unzipped s.functions s.bodies own.0 left.0 left.1).1;
        said = made.0.1;
        says = ap (λ (x : Body). x.operators) (some_inj b _ (sym is ∙ ap (λ (x : Function). body_of_kind x.kind) (sym made.1.1)));
        count = _;
        read = left.2;
      })
      (got_either (imported imported_function 0 s.imports) (map (function_with s) (zip s.functions reads.bodies)) f g e)

  functions_are : (f : ℕ) → m.functions f ≡ slice_get (functions_of s reads.bodies) f
  functions_are f = ap (λ (n : Abstract). n.functions f) reads.is

  by_look : (f : ℕ) (b : Body) (o : Option Function) → slice_get (functions_of s reads.bodies) f ≡ o → body_of_function o ≡ Some b → HasBytes f b
  by_look f b None e is = absurd (cc)
  by_look f b (Some g) e is = by_parts f b g is e

  pub has_bytes : (f : ℕ) (b : Body) → body_of m f ≡ Some b → HasBytes f b
  has_bytes f b is = by_look f b (slice_get (functions_of s reads.bodies) f) refl (ap body_of_function (sym (functions_are f)) ∙ is)

  -- a body is that of a function
  pub has_function : (number : ℕ) (body : wire.Body) → slice_get s.bodies number ≡ Some body → (b : Body) × (body_of m (imported_functions s + number) ≡ Some b)
  has_function number body e =
      let within : length s.bodies ≡ length s.functions = reads.as_many_bodies in
      let lt = slice_get_within s.bodies number body e in
      let ty = slice_get-get_or s.functions number 0 (omega (arith, within, lt)) in
      let right = zip_right (ReadsBody c s) (zip s.functions s.bodies) reads.bodies number _ reads.read (got_both s.functions s.bodies number _ body ty e) in
      let both = got_both s.functions reads.bodies number _ right.0 ty right.1 in (
        _,
        ap body_of_function (functions_are (imported_functions s + number)
            ∙ behind (imported imported_function 0 s.imports) (map (function_with s) (zip s.functions reads.bodies)) number (imported_functions s + number) refl
            ∙ map_at (function_with s) (zip s.functions reads.bodies) number _ both),
      )

  -- what stands between imports and a function with a body has one too
  pub own_before : (f j : ℕ) (b : Body) → body_of m f ≡ Some b → imported_functions s ≤ j → j < f → (d : Body) × (body_of m j ≡ Some d)
  own_before f j b is low lt =
      let h = has_bytes f b is in
      let imports : ℕ = imported_functions s in
      let number : ℕ = j - imports in
      let index : f ≡ imports + h.number = h.index in
      let at : imports + number ≡ j = omega (arith, low) in
      let within = slice_get_within s.bodies h.number h.body h.has in
      let body = slice_get-get_or s.bodies number h.body (omega (arith, within, index, lt, at)) in
      let d = has_function number _ body in
      (d.0, ap (body_of m) (sym at) ∙ d.1)

  -- the operators are those that stand in the bytes
  pub ops_stand : (f : ℕ) (b : Body) (h : HasBytes f b) (ts : List Text) (qs : List ℕ) → RowIn h.body ts qs → b.operators ≡ map op_of ts
  ops_stand f b h ts qs row =
      let same = same_texts h.body ts qs row h.read.front h.read.back h.read.declared h.read.operators.texts h.read.parts h.read.declares h.read.operators.spelled in
      h.says
      ∙ ops_itself (context_with (features_of c) s).names (locals_from 0 h.count) (declared_itself s) (locals_itself h.count) (map op_of h.read.operators.texts) h.said.1 h.read.operators.named
      ∙ ap (map op_of) same

  -- an operator that stands in the bytes is the body's
  pub op_stands : (f : ℕ) (b : Body) → body_of m f ≡ Some b → (k place : ℕ) (o : Op) → OperatorStands s f k place o → slice_get b.operators k ≡ Some o
  op_stands f b e k place o at =
      let h = has_bytes f b e in
      let imports : ℕ = imported_functions s in
      let first : f ≡ imports + at.number = at.index in
      let second : f ≡ imports + h.number = h.index in
      let number : at.number ≡ h.number = omega (arith, first, second) in
      let same : at.body ≡ h.body = some_inj at.body h.body (sym at.has ∙ ap (slice_get s.bodies) number ∙ h.has) in
      let read = h.read in
      let placed = row_in h.body read.front read.back read.declared read.operators.texts read.parts read.declares read.operators.spelled in
      let stands = subst (λ (y : wire.Body). StandsIn y k place o) same at.stands in
      let text = (in_row h.body read.operators.texts placed.0 placed.1 k place o stands).0 in
      ap (λ (l : List Op). slice_get l k) (ops_stand f b h read.operators.texts placed.0 placed.1) ∙ map_at op_of read.operators.texts k stands.text text ∙ ap (λ (y : Op). Some y) stands.says
