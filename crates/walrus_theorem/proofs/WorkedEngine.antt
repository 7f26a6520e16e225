-- The interpreter at work.
use Rattle.std.proofs.Common.{ℕ, List, [], ◌∷◌, refl}
use Rattle.walrus_model.specs.Abstract.{Function, Element, DataSegment}
use Rattle.walrus_theorem.specs.Engines.{IsActive, IsActiveKind, Segments}
use Rattle.walrus_theorem.specs.WorkedEngine.{double, increase, run, filling, module_with, EngineRuns}
use Rattle.walrus_theorem.proofs.EnginesHave.{all_of, is_active, active_same, is_data, data_same}

abbrev segments : (d i r : ℕ) (functions : List Function) → Segments (module_with d i r functions)
segments d i r functions = record {
  elements = 0 ∷ [];
  elements_are = all_of (λ (e : Element). is_active e.kind) (λ e. IsActive e.kind) (λ e. active_same e.kind) (filling d i ∷ []);
  data_segments = [];
  data_are = all_of (λ (d : DataSegment). is_data d.kind) (λ d. IsActiveKind d.kind) (λ d. data_same d.kind) [];
}

pub engine_runs : EngineRuns
engine_runs = record {
  forward = (segments 0 1 2 (double ∷ increase 0 ∷ run ∷ []), refl);
  backward = (segments 2 1 0 (run ∷ increase 2 ∷ double ∷ []), refl);
}
