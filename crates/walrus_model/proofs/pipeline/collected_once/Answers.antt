use Rattle.walrus_model.proofs.PipelineCollected.{stays_collected_lem}
use Rattle.walrus_model.proofs.pipeline.collected_once.Goals as goal

pub returns : goal.returns
returns g = λ v w collected. stays_collected_lem v w collected
