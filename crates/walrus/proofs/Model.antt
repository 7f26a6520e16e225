-- Lemmas of `walrus_model`, for those who stand on this crate.
pub use Rattle.walrus_model.proofs.LeastLengths
pub use Rattle.walrus_model.proofs.Looked
pub use Rattle.walrus_model.proofs.MovedBody
pub use Rattle.walrus_model.proofs.OrderOfPlaces
pub use Rattle.walrus_model.proofs.OwnOps
pub use Rattle.walrus_model.proofs.PipelineAlike
pub use Rattle.walrus_model.proofs.PipelineCollected
pub use Rattle.walrus_model.proofs.PipelineOps
pub use Rattle.walrus_model.proofs.Reach
pub use Rattle.walrus_model.proofs.RisingLists
pub use Rattle.walrus_model.proofs.Slots
pub use Rattle.walrus_model.proofs.StepPlain
pub use Rattle.walrus_model.proofs.TypeLists
