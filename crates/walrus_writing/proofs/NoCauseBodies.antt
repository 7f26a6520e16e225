-- Each body that is written is well formed.
use Rattle.std.proofs.Common.{◌≡◌, ℕ, List, ◌++◌, map, refl, sym, ap, ◌∙◌, subst, Some, None}
use Rattle.std.specs.Prelude.{Option, replicate, flat_map, slice_get}
use Rattle.walrus_base.specs.Id.{place}
use Rattle.walrus_base.specs.Types.{ValType, CompType, Func, Struct, Array}
use Rattle.walrus_base.specs.TypeDef.{TypeDef, type_params}
use Rattle.walrus_code.specs.Names.{Lookup, LeadsBack, LocalsLeadBack}
use Rattle.walrus_bodies.specs.Body.{context}
use Rattle.walrus_functions.specs.EmittedBody.{Source, comp_takes, takes, index_in}
use Rattle.walrus_functions.specs.Handlers.{params_of}
use Rattle.walrus_contents.specs.View.{body, parts_view}
use Rattle.walrus_contents.specs.declared.parts.Parts.{Parts}
use Rattle.walrus_model.specs.Abstract.{Abstract, Body, Function, LocalFunction as OfBody}
use Rattle.walrus_model.specs.Config.{Config}
use Rattle.walrus_base.specs.Operators.{Functions}
use Rattle.walrus_model.proofs.Indices.{found_at, planned_at}
use Rattle.walrus_model.specs.Names.{body_of_function, body_of_kind}
use Rattle.walrus_model.specs.Rules.{IsFunctionComp}
use Rattle.walrus_base.proofs.Standing.{got_where, some_inj, zip_right}
use Rattle.walrus_theorem.specs.Features.{features_of}
use Rattle.walrus_theorem.specs.WellMade.{IsWellFormed}
use Rattle.walrus_writing.specs.Parts.{HasBytes, function_seen, source}
use Rattle.walrus_writing.specs.Records.{Records}
use Rattle.walrus_writing.proofs.Parted.{body_among}

-- ---- what a function's type takes are its parameters

comp_params : (comp : CompType ℕ) (ts : List (ValType ℕ)) → comp_takes comp ≡ Some ts → IsFunctionComp comp × (type_params comp ≡ ts)
comp_params (Func params results) ts e = (tt, some_inj params ts e)
comp_params (Struct fields) ts e = absurd (cc)
comp_params (Array element) ts e = absurd (cc)

def_params : (def : Option TypeDef) (ts : List (ValType ℕ)) → takes def ≡ Some ts → ((x : TypeDef) × (def ≡ Some x) × IsFunctionComp x.sub.comp) × (params_of def ≡ ts)
def_params None ts e = absurd (cc)
def_params (Some x) ts e = let q = comp_params x.sub.comp ts e in ((x, refl, q.0), q.1)

same_body : (b d : Body) → OfBody b ≡ OfBody d → b ≡ d
same_body b d e = cc

module _ (c : Config) (p : Parts) (r : Records p (features_of c)) where
  abbrev V : Abstract
  V = parts_view p

  -- ---- a body that is seen has bytes

  pub record IsWritten (i : ℕ) (f : Function) (b : Body) : Type 0 where
    pub bytes : List ℕ
    pub has : HasBytes p r.names (features_of c) i bytes
    pub type_is : place has.local.ty ≡ f.ty
    pub body_is : body p.locals.now has.local ≡ b

  pub written : (i : ℕ) (f : Function) (b : Body) → V.functions i ≡ Some f → f.kind ≡ OfBody b → IsWritten i f b
  written i f b at is =
      let among = body_among r i b (ap body_of_function at ∙ ap body_of_kind is) in
      let z = zip_right (HasBytes p r.names (features_of c)) (r.own Functions) r.bodies _ i r.bodies_are (got_where (r.own Functions) i among) in
      let seen : function_seen p z.2.local ≡ f = some_inj (function_seen p z.2.local) f (sym z.2.is ∙ at) in
      record {
        bytes = z.0;
        has = z.2;
        type_is = ap (λ (g : Function). g.ty) seen;
        body_is = same_body (body p.locals.now z.2.local) b (ap (λ (g : Function). g.kind) seen ∙ is);
      }

  -- ---- and these read as it

  abbrev places_back : Lookup
  places_back = λ s n. slice_get (r.plan s) n

  leads : LeadsBack r.names places_back
  leads s n k e = planned_at r.numbered r.is_plan s n k e

  bytes_formed : (i : ℕ) (bytes : List ℕ) (h : HasBytes p r.names (features_of c) i bytes) → IsWellFormed c V (place h.local.ty) (body p.locals.now h.local)
  bytes_formed i bytes h =
      let s : Source = source p r.names (features_of c) h.local in
      let w = h.written in
      let takes_these = def_params s.def w.fits.types w.fits.taken in
      let types : List (ValType ℕ) = flat_map (λ g. replicate g.0 g.1) w.groups in
      let lead : LocalsLeadBack (index_in s w.order) (slice_get (s.parameters ++ w.order)) = (λ x k e. found_at (s.parameters ++ w.order) x k e) in
      record {
        function_type = takes_these.0;
        distinct = w.fits.distinct;
        typed = w.fits.typed ∙ ap (λ (ts : List (ValType ℕ)). map Some ts) (sym takes_these.1);
        names = places_back;
        further = w.order;
        types = types;
        further_typed = w.grouped.spread;
        text = bytes;
        read = w.back (context places_back s.is_function_type (features_of c)) (slice_get (s.parameters ++ w.order)) types refl leads lead w.blocks w.grouped.spread;
      }

  pub formed : (i : ℕ) (f : Function) (b : Body) → V.functions i ≡ Some f → f.kind ≡ OfBody b → IsWellFormed c V f.ty b
  formed i f b at is =
      let w = written i f b at is in
      subst (λ (ty : ℕ). IsWellFormed c V ty b) w.type_is (subst (λ (d : Body). IsWellFormed c V (place w.has.local.ty) d) w.body_is (bytes_formed i w.bytes w.has))
