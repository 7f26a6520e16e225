-- A body stays well formed where types are the same.
use Rattle.std.proofs.Common.{◌≡◌, ℕ, map, Option, Some, sym, ap, ◌∙◌, ◌++◌}
use Rattle.std.specs.Prelude.{slice_get}
use Rattle.walrus_base.specs.TypeDef.{TypeDef}
use Rattle.walrus_bodies.specs.FunctionTypes.{is_function_def}
use Rattle.walrus_functions.specs.Handlers.{params_of}
use Rattle.walrus_model.specs.Abstract.{Abstract, Body}
use Rattle.walrus_model.specs.Config.{Config}
use Rattle.walrus_theorem.specs.Features.{features_of}
use Rattle.walrus_edit_list.specs.Formed.{IsFormed}
use Rattle.walrus_edit_list.proofs.ReadFormed.{reads_grow}

pub stays_formed : (c : Config) (v w : Abstract) (ty : ℕ) (b : Body) → ((t : ℕ) → w.types t ≡ v.types t) → IsFormed c v ty b → IsFormed c w ty b
stays_formed c v w ty b same (h, own) = (
  record {
    function_type = (h.function_type.0, same ty ∙ h.function_type.1, h.function_type.2);
    distinct = h.distinct;
    typed = h.typed ∙ ap (λ (o : Option TypeDef). map Some (params_of o)) (sym (same ty));
    names = h.names;
    further = h.further;
    types = h.types;
    further_typed = h.further_typed;
    text = h.text;
    read = reads_grow (λ t. is_function_def (v.types t)) (λ t. is_function_def (w.types t)) (λ t is. ap is_function_def (same t) ∙ is) h.names (features_of c) (slice_get (b.parameters ++ h.further)) h.text h.types b.operators h.read;
  },
  own,
)
